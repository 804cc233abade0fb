use Rattle.std.proofs.Common.{◌≡◌, map, drop}
use Rattle.dy_term.specs.Drafts.{catches_of, seen_catch}
use Rattle.dy_binding.specs.Bound.{catches_numbered}
use Rattle.dy_binding.proofs.bound.number_catches.Given as goal

abbrev pub invariant-loop-clause : goal.invariant-loop-clause
invariant-loop-clause l =
    catches_numbered (catches_of (map seen_catch l.clause-items)) l.fn.progress
    ≡ catches_numbered (catches_of (map seen_catch (drop l.clause-index l.clause-items))) l.progress
