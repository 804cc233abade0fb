use Rattle.std.proofs.Common.{◌≡◌, drop}
use Rattle.std.specs.List.{list_any}
use Rattle.dy_tree.specs.Fragments.{seen_fragments}
use Rattle.dy_rules.specs.Arguments.{is_comma_fragment}
use Rattle.dy_read_parts.proofs.value.has_comma.Given as goal

abbrev pub invariant-loop-fragment : goal.invariant-loop-fragment
invariant-loop-fragment l = list_any is_comma_fragment (seen_fragments l.fragments) ≡ list_any is_comma_fragment (seen_fragments (drop l.fragment-index l.fragments))
