use Rattle.std.proofs.Common.{◌≡◌, replicate}
use Rattle.dy_generics.specs.Implicit.{object_type}
use Rattle.dy_generics.proofs.implicits.object_types.Given as goal

abbrev pub invariant-loop-place : goal.invariant-loop-place
invariant-loop-place l = l.types.items ≡ replicate l._place object_type
