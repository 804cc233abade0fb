use Rattle.std.proofs.Common.{◌≡◌, ◌<◌, ℕ, false, length}
use Rattle.dy_stretch.specs.Walks.{code_of, AreBetween}
use Rattle.dy_stretch.proofs.Walking.{IsSwept, IsStillFrom}
use Rattle.dy_stretch.proofs.walks.sweep.Given as goal

abbrev pub invariant-loop-place : goal.invariant-loop-place
invariant-loop-place l = record {
  long : length l.longs.items ≡ length (code_of l.flats.items);
  further : (taken : ℕ) → taken < length (code_of l.flats.items) → AreBetween (code_of l.flats.items) taken l.fn.longs.items
      → IsSwept (code_of l.flats.items) taken l.place l.longs.items;
  still : l.changed ≡ false → IsStillFrom (code_of l.flats.items) l.place l.longs.items;
}
