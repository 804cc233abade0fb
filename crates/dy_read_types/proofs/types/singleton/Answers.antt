use Rattle.std.proofs.Common.{◌≡◌, Option, Some, option_map, sym, ap, ◌∙◌}
use Rattle.dy_tree.specs.declared.token.Token.{Token}
use Rattle.dy_tree.specs.Fragments.{seen_fragments}
use Rattle.dy_rules.specs.SeenTypes.{seen_single}
use Rattle.dy_rules.specs.Types.{Single, singleton_type}
use Rattle.dy_rules.specs.TypeReading.{single_in}
use Rattle.dy_read_types.proofs.TypeCaps.{singleton_kept}
use Rattle.dy_read_types.proofs.types.singleton.Goals as goal

pub returns-in_ok-copy-in-Some-clause-found : goal.returns-in_ok-copy-in-Some-clause-found
returns-in_ok-copy-in-Some-clause-found c =
    let word = c.args.word.now in
    let found = single_in (seen_fragments c.args.inner.now) in
    let some : Some (seen_single c.in-Some.single) ≡ found = ap (option_map seen_single) (sym c.in-Some.is) ∙ c.in_ok-single.ensures in
    ap (λ (token : Token). Some (singleton_type token (seen_single c.in-Some.single))) c.in_ok-copy-in-Some.ensures ∙ ap (λ (o : Option Single). option_map (singleton_type word) o) some ∙ sym (singleton_kept word found)
