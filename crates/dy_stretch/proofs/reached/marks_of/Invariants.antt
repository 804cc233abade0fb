use Rattle.std.proofs.Common.{◌+◌, length}
use Rattle.dy_stretch.specs.Walks.{code_of, unmarked, IsWalked}
use Rattle.dy_stretch.proofs.reached.marks_of.Given as goal

abbrev pub invariant-loop-place : goal.invariant-loop-place
invariant-loop-place l = IsWalked (code_of l.flats.items) l.marks.items l.waiting.items

abbrev pub decreases-loop-place : goal.decreases-loop-place
decreases-loop-place l = unmarked l.marks.items + length l.waiting.items
