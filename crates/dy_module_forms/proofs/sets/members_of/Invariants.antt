use Rattle.std.proofs.Common.{◌≡◌, codes, option_map}
use Rattle.dy_tree.specs.Fragments.{seen_fragments}
use Rattle.dy_module_forms.specs.Cuts.{left, seen_slice, parts, parts_behind, each, read_before}
use Rattle.dy_module_forms.specs.Clauses.{member_of}
use Rattle.dy_module_forms.proofs.sets.members_of.Given as goal

-- what was read, and what the rest is read as
abbrev pub invariant-loop-next : goal.invariant-loop-next
invariant-loop-next l = read_before l.members (each member_of (parts_behind (codes ",") (option_map seen_slice l.next))) ≡ each member_of (parts (codes ",") (seen_fragments l.fn.fragments))

abbrev pub decreases-loop-next : goal.decreases-loop-next
decreases-loop-next l = left l.next
