use Rattle.std.proofs.Common.{◌≡◌, ℕ, length, map, flat_map, ap, ◌∙◌, rules}
use Rattle.dy_construct_parts.specs.declared.construct.Construct.TheVariants as constructs
use Rattle.dy_construct_parts.specs.Table.{first_absent, by_count}
use Rattle.std.proofs.lemmas.List.{length-map}
use Rattle.dy_rules.specs.SeenTypes.{seen_required}
use Rattle.dy_construct_parts.specs.Parts.{in_required}
use Rattle.dy_construct_parts.proofs.Firsts.{and_part}
use Rattle.dy_construct_parts.proofs.bindings.in_all_required.Goals as goal

pub returns : goal.returns
returns c =
    let trees = map seen_required c.args.required.now.items in
    let count : c.len.result ≡ length trees = search (rules, length-map) in
    let counted = c.by_count.ensures ∙ ap (λ (n : ℕ). first_absent (by_count constructs.NoParameter constructs.SeveralParameters n)) count in
    and_part _ _ _ (by_count constructs.NoParameter constructs.SeveralParameters (length trees)) (flat_map in_required trees) counted c.in_each_required.ensures c.or.ensures
