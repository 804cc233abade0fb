-- How a variable begins, and what stands behind it.
use Rattle.std.specs.Prelude.{Option, Some, None, option_map}
use Rattle.dy_tree.specs.Fragments.{seen_fragments}
use Rattle.dy_rules.specs.Fragments.{items_of}
use Rattle.dy_rules.specs.TypeReading.{VariableFront, untyped_front, typed_front, type_front}
use Rattle.dy_read_types.specs.declared.variable_shape.VariableShape.{VariableShape}
use Rattle.dy_read_types.specs.declared.variable_shape.VariableShape.TheVariants as shapes

-- what is read where a variable begins so
abbrev pub variable_read : VariableShape → Option VariableFront
variable_read shapes.Nothing = None
variable_read (shapes.Plain token rest) =
    Some (untyped_front token.now (items_of (seen_fragments rest.now)))
variable_read (shapes.Typed token rest) =
    option_map (typed_front token.now) (type_front (items_of (seen_fragments rest.now)))
