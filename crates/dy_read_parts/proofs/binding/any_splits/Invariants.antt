use Rattle.std.proofs.Common.{◌≡◌, drop}
use Rattle.std.specs.List.{list_any}
use Rattle.dy_tree.specs.Fragments.{seen_fragments}
use Rattle.dy_rules.specs.Types.{is_splitting}
use Rattle.dy_read_parts.proofs.binding.any_splits.Given as goal

abbrev pub invariant-loop-fragment : goal.invariant-loop-fragment
invariant-loop-fragment l = list_any (is_splitting l.words) (seen_fragments l.fragments) ≡ list_any (is_splitting l.words) (seen_fragments (drop l.fragment-index l.fragments))
