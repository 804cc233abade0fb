-- How deep the deepest part of a clause of a `for` is nested.
use Rattle.std.proofs.Common.{◌≤◌, ℕ, Option, Some, None, arith}
use Rattle.dy_read_shapes.specs.LoopShapes.{IsLastWithin, IsLimitWithin, IsRangeWithin, ArePartsWithin, last_nesting, limit_nesting, range_nesting, parts_nesting}
use Rattle.dy_read_shapes.specs.declared.loop_shape.LastPiece.{LastPiece}
use Rattle.dy_read_shapes.specs.declared.loop_shape.LastPiece.TheVariants as lasts
use Rattle.dy_read_shapes.specs.declared.loop_shape.LimitShape.{LimitShape}
use Rattle.dy_read_shapes.specs.declared.loop_shape.RangeShape.{RangeShape}
use Rattle.dy_read_shapes.specs.declared.loop_shape.ClauseParts.{ClauseParts}
use Rattle.dy_read_shapes.specs.declared.loop_shape.ClauseParts.TheVariants as parts

last_within : (n : ℕ) (shape : LastPiece) → IsLastWithin n shape → last_nesting shape ≤ n
last_within n lasts.Nothing within = omega arith
last_within n (lasts.Part fragments) within = within
last_within n lasts.Wrong within = omega arith

limit_within : (n : ℕ) (limit : Option LimitShape) → IsLimitWithin n limit → limit_nesting limit ≤ n
limit_within n None within = omega arith
limit_within n (Some limit) within = within

range_within : (n : ℕ) (shape : RangeShape) → IsRangeWithin n shape → range_nesting shape ≤ n
range_within n shape within = let limit = limit_within n shape.limit within.0 in let step = last_within n shape.step within.1 in omega arith

pub parts_within : (n : ℕ) (shape : ClauseParts) → ArePartsWithin n shape → parts_nesting shape ≤ n
parts_within n parts.Nothing within = omega arith
parts_within n (parts.Then first next) within = omega (arith, within.0, within.1)
parts_within n (parts.In collection) within = within
parts_within n (parts.From start range) within = let less = within.0 in let others = range_within n range within.1 in omega arith
