-- How an item of a body is divided, and what stands for each part.
use Rattle.std.specs.Prelude.{◌≤◌, ◌<◌, ⊤, ℕ, false, List, Option, Some, None, option_map}
use Rattle.std.specs.Prelude.{option_and_then}
use Rattle.dy_tree.specs.declared.token.Token.{Token}
use Rattle.dy_tree.specs.Fragments.{seen_fragments}
use Rattle.dy_tree.specs.declared.splitters.Splitting.{Splitting}
use Rattle.dy_rules.specs.Arguments.{is_comma_fragment}
use Rattle.dy_rules.specs.Bodies.{let_of, handler_of, local_of, method_tree_of, method_alone}
use Rattle.dy_rules.specs.Cutting.{Item, cut, each}
use Rattle.dy_rules.specs.Fragments.{items_of}
use Rattle.dy_rules.specs.Reading.{expression_items}
use Rattle.dy_rules.specs.Signatures.{named_items}
use Rattle.dy_rules.specs.Trees.{Tree, ItemTree, expression_item, LocalMethod}
use Rattle.dy_rules.specs.Types.{TypeTree, TargetTree}
use Rattle.dy_rules.specs.TypeReading.{type_items, target_items}
use Rattle.dy_read_shapes.specs.declared.item_shape.ItemShape.{ItemShape}
use Rattle.dy_read_shapes.specs.declared.item_shape.ItemShape.TheVariants as shapes
use Rattle.dy_read_shapes.specs.declared.item_shape.MethodGroup.{MethodGroup}
use Rattle.dy_read_parts.specs.Nesting.{nesting}

-- what a `let` binds, where both of its sides were read
abbrev pub let_to : Token → Option Tree → TargetTree → Option ItemTree
let_to word assigned target = option_map (let_of word target) assigned

abbrev pub let_read : Token → Option TargetTree → Option Tree → Option ItemTree
let_read word target assigned = option_and_then (let_to word assigned) target

abbrev pub handler_to : Token → Option Tree → TypeTree → Option ItemTree
handler_to word handler condition = option_map (handler_of word condition) handler

abbrev pub handler_read : Token → Option TypeTree → Option Tree → Option ItemTree
handler_read word condition handler = option_and_then (handler_to word handler) condition

-- methods with commas between them
abbrev pub methods_items : List Item → Option (List LocalMethod)
methods_items items = each method_alone (cut is_comma_fragment false items)

-- what stands for an item that is divided so
abbrev pub shape_read : Splitting → ItemShape → Option ItemTree
shape_read words shapes.Nothing = None
shape_read words (shapes.Let word target assigned) =
    let_read word.now (target_items (items_of (seen_fragments target.now)))
    (expression_items words (items_of (seen_fragments assigned.now)))
shape_read words (shapes.Handler word condition handler) =
    handler_read word.now (type_items (items_of (seen_fragments condition.now)))
    (expression_items words (items_of (seen_fragments handler.now)))
shape_read words (shapes.Local word methods) =
    option_map (local_of word.now) (methods_items (items_of (seen_fragments methods.now)))
shape_read words (shapes.Expression fragments) =
    option_map expression_item (expression_items words (items_of (seen_fragments fragments.now)))

-- no part of it is nested deeper
abbrev pub IsShapeWithin : ℕ → ItemShape → Type 0
IsShapeWithin n shapes.Nothing = ⊤
IsShapeWithin n (shapes.Let word target assigned) = (nesting (seen_fragments target.now) ≤ n)
    × (nesting (seen_fragments assigned.now) ≤ n)
IsShapeWithin n (shapes.Handler word condition handler) =
    (nesting (seen_fragments condition.now) ≤ n) × (nesting (seen_fragments handler.now) ≤ n)
IsShapeWithin n (shapes.Local word methods) = nesting (seen_fragments methods.now) ≤ n
IsShapeWithin n (shapes.Expression fragments) = nesting (seen_fragments fragments.now) ≤ n

-- what stands for a method that stands alone
abbrev pub method_read : Option MethodGroup → Option LocalMethod
method_read None = None
method_read (Some group) =
    option_map (method_tree_of group.word.now)
    (named_items (items_of (seen_fragments group.inner.now)))

abbrev pub IsMethodShallower : ℕ → Option MethodGroup → Type 0
IsMethodShallower n None = ⊤
IsMethodShallower n (Some group) = nesting (seen_fragments group.inner.now) < n
