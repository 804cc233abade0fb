-- What stands between the brackets of a `select`, as the reader asks for it.
use Rattle.std.specs.Prelude.{◌≤◌, ⊤, ℕ, List, [], ◌∷◌, Option, None, option_map, option_and_then}
use Rattle.dy_tree.specs.Fragments.{seen_fragments}
use Rattle.dy_tree.specs.declared.splitters.Splitting.TheVariants as splittings
use Rattle.dy_rules.specs.Choices.{head_alone, head_with}
use Rattle.dy_rules.specs.Cutting.{Head, Item, Piece, Pieces}
use Rattle.dy_rules.specs.Fragments.{items_of}
use Rattle.dy_rules.specs.Reading.{expression_items}
use Rattle.dy_read_parts.specs.Nesting.{nesting}
use Rattle.dy_read_outers.specs.Grown.{read_grown}
use Rattle.dy_read_statements.specs.declared.head.Head.{Head as Found}
use Rattle.dy_read_statements.specs.declared.head.HeadShape.{HeadShape}
use Rattle.dy_read_statements.specs.declared.head.HeadShape.TheVariants as shapes

pub data SeenHead : Type 0 where
  alone_head : (selected : List Item) → SeenHead
  tested_head : (selected test : List Item) → SeenHead
  no_head : SeenHead

abbrev pub seen_head : HeadShape → SeenHead
seen_head (shapes.Alone selected) = alone_head (items_of (seen_fragments selected.now))
seen_head (shapes.Tested selected test) =
    tested_head (items_of (seen_fragments selected.now)) (items_of (seen_fragments test.now))
seen_head shapes.Absent = no_head

abbrev pub head_behind : List Item → List Piece → SeenHead
head_behind first [] = alone_head first
head_behind first (piece ∷ []) = tested_head first piece.items
head_behind first (piece ∷ second ∷ others) = no_head

abbrev pub head_cut : Pieces → SeenHead
head_cut pieces = head_behind pieces.first pieces.others

abbrev pub head_read : SeenHead → Option Head
head_read (alone_head selected) = option_map head_alone (expression_items splittings.Tests selected)
head_read (tested_head selected test) =
    option_and_then (head_with test) (expression_items splittings.Tests selected)
head_read no_head = None

-- no part of it is nested deeper
abbrev pub IsHeadWithin : ℕ → HeadShape → Type 0
IsHeadWithin n (shapes.Alone selected) = nesting (seen_fragments selected.now) ≤ n
IsHeadWithin n (shapes.Tested selected test) = (nesting (seen_fragments selected.now) ≤ n)
    × (nesting (seen_fragments test.now) ≤ n)
IsHeadWithin n shapes.Absent = ⊤

-- what was read of it
abbrev pub read_head : Found → Head
read_head head = record {
  selected = read_grown head.selected;
  test = option_map read_grown head.test;
}
