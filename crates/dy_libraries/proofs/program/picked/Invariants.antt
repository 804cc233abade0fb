use Rattle.std.proofs.Common.{◌≡◌, map, take, slice_get}
use Rattle.dy_libraries.specs.Parts.{held}
use Rattle.dy_libraries.proofs.Picking.{AreLeft}
use Rattle.dy_libraries.proofs.program.picked.Given as goal

-- those so far are picked, and no other is taken
abbrev pub invariant-loop-number : goal.invariant-loop-number
invariant-loop-number l = record {
  picked : map held l.libraries.items ≡ map (slice_get l.fn.all.items) (take l.number-index l.numbers);
  left : AreLeft l.fn.all.items l.all.items (take l.number-index l.numbers);
}
