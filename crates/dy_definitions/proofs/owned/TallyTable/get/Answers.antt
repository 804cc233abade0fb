use Rattle.std.proofs.Common.{◌≡◌, rules, ap, sym, ◌∙◌}
use Rattle.std.specs.Option.{option_copied}
use Rattle.std.specs.Ordering.{nat_cmp, ordering_then}
use Rattle.std.specs.Cmp.Lexicographic.{slice_cmp}
use Rattle.std.specs.Map.{lookup}
use Rattle.std.specs.BTreeMap.{is_at}
use Rattle.dy_definitions.specs.Seen.{tally_in}
use Rattle.dy_definitions.proofs.owned.TallyTable.get.Goals as goal

pub returns-in-Some : goal.returns-in-Some
unfolding tally_in
returns-in-Some c =
    let entries = c.args.self.now.entries.entries in
    let text : c.in_ok-to_vec.field-0.items ≡ c.args.name.now = search rules in
    sym (ap option_copied c.in-Some.is) ∙ c.get.ensures.value
    ∙ ap (λ t. lookup (is_at (λ k. ordering_then (nat_cmp c.args.number k.0) (slice_cmp nat_cmp t k.1.items))) entries) text
