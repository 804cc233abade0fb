-- What the parts of a clause of a `for` stand for, with the deep tree in the place of what is too
-- deep.
use Rattle.std.specs.Prelude.{◌≤◌, ⊤, ℕ, max, List, map, Option, Some, None, option_map}
use Rattle.std.specs.Prelude.{option_and_then}
use Rattle.dy_tree.specs.Fragments.{SeenFragment, seen_fragments}
use Rattle.dy_tree.specs.declared.splitters.Splitting.TheVariants as splittings
use Rattle.dy_rules.specs.Types.{VariableTree}
use Rattle.dy_rules.specs.Trees.{Tree, ForClause, Otherwise, no_otherwise, no_limit, no_tree}
use Rattle.dy_rules.specs.Reading.{expression_items}
use Rattle.dy_rules.specs.Bodies.{body_items}
use Rattle.dy_rules.specs.Loops.{Range, range_of, step_of, limit_with, then_of, in_of, from_with}
use Rattle.dy_rules.specs.Loops.{finally_of}
use Rattle.dy_rules.specs.Fragments.{items_of}
use Rattle.dy_rules_depth.specs.Changes.{changed_item}
use Rattle.dy_rules_depth.specs.Capping.{capped, capping}
use Rattle.dy_read_parts.specs.Nesting.{nesting}
use Rattle.dy_read_shapes.specs.declared.loop_shape.LastPiece.{LastPiece}
use Rattle.dy_read_shapes.specs.declared.loop_shape.LastPiece.TheVariants as lasts
use Rattle.dy_read_shapes.specs.declared.loop_shape.LimitShape.{LimitShape}
use Rattle.dy_read_shapes.specs.declared.loop_shape.RangeShape.{RangeShape}
use Rattle.dy_read_shapes.specs.declared.loop_shape.ClauseParts.{ClauseParts}
use Rattle.dy_read_shapes.specs.declared.loop_shape.ClauseParts.TheVariants as parts

-- the expression that fragments of a clause stand for
abbrev pub step_tree : List SeenFragment → Option Tree
step_tree fragments = option_map capped (expression_items splittings.Steps (items_of fragments))

abbrev pub step_read : LastPiece → Option Range
step_read lasts.Nothing = Some (range_of no_limit no_tree)
step_read (lasts.Part fragments) = option_map step_of (step_tree (seen_fragments fragments.now))
step_read lasts.Wrong = None

abbrev pub finally_read : LastPiece → Option Otherwise
finally_read lasts.Nothing = Some no_otherwise
finally_read (lasts.Part fragments) =
    option_map finally_of (option_map (map (changed_item capping))
    (body_items splittings.LastPart (items_of (seen_fragments fragments.now))))
finally_read lasts.Wrong = None

-- The step stands in all of the pieces where there is no limit, and else in those behind it.
abbrev pub limited_read : Option LimitShape → Option Range → Option Range → Option Range
limited_read None all behind = all
limited_read (Some limit) all behind =
    option_and_then (limit_with limit.word.now behind) (step_tree (seen_fragments limit.bound.now))

abbrev pub range_read : RangeShape → Option Range
range_read shape = limited_read shape.limit (step_read shape.step) (step_read shape.step)

abbrev pub next_with : VariableTree → Option Tree → Tree → Option ForClause
next_with variable next first = option_map (then_of variable first) next

abbrev pub parts_read : VariableTree → ClauseParts → Option ForClause
parts_read variable parts.Nothing = None
parts_read variable (parts.Then first next) =
    option_and_then (next_with variable (step_tree (seen_fragments next.now)))
    (step_tree (seen_fragments first.now))
parts_read variable (parts.In collection) =
    option_map (in_of variable) (step_tree (seen_fragments collection.now))
parts_read variable (parts.From start range) =
    option_and_then (from_with variable (range_read range)) (step_tree (seen_fragments start.now))

-- The parts are nested at most so deep.

abbrev pub IsLastWithin : ℕ → LastPiece → Type 0
IsLastWithin n lasts.Nothing = ⊤
IsLastWithin n (lasts.Part fragments) = nesting (seen_fragments fragments.now) ≤ n
IsLastWithin n lasts.Wrong = ⊤

abbrev pub IsLimitWithin : ℕ → Option LimitShape → Type 0
IsLimitWithin n None = ⊤
IsLimitWithin n (Some limit) = nesting (seen_fragments limit.bound.now) ≤ n

abbrev pub IsRangeWithin : ℕ → RangeShape → Type 0
IsRangeWithin n shape = IsLimitWithin n shape.limit × IsLastWithin n shape.step

abbrev pub ArePartsWithin : ℕ → ClauseParts → Type 0
ArePartsWithin n parts.Nothing = ⊤
ArePartsWithin n (parts.Then first next) = (nesting (seen_fragments first.now) ≤ n)
    × (nesting (seen_fragments next.now) ≤ n)
ArePartsWithin n (parts.In collection) = nesting (seen_fragments collection.now) ≤ n
ArePartsWithin n (parts.From start range) = (nesting (seen_fragments start.now) ≤ n)
    × IsRangeWithin n range

-- how deep the deepest of the parts is nested

abbrev pub last_nesting : LastPiece → ℕ
last_nesting lasts.Nothing = 0
last_nesting (lasts.Part fragments) = nesting (seen_fragments fragments.now)
last_nesting lasts.Wrong = 0

abbrev pub limit_nesting : Option LimitShape → ℕ
limit_nesting None = 0
limit_nesting (Some limit) = nesting (seen_fragments limit.bound.now)

abbrev pub range_nesting : RangeShape → ℕ
range_nesting shape = max (limit_nesting shape.limit) (last_nesting shape.step)

abbrev pub parts_nesting : ClauseParts → ℕ
parts_nesting parts.Nothing = 0
parts_nesting (parts.Then first next) =
    max (nesting (seen_fragments first.now)) (nesting (seen_fragments next.now))
parts_nesting (parts.In collection) = nesting (seen_fragments collection.now)
parts_nesting (parts.From start range) =
    max (nesting (seen_fragments start.now)) (range_nesting range)
