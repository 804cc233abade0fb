-- What stands between two semicolons of a `case` or a `select`, as the definitions see it.
use Rattle.std.specs.Prelude.{◌≤◌, ⊤, ℕ}
use Rattle.dy_tree.specs.Fragments.{seen_fragments}
use Rattle.dy_rules.specs.Choices as spec
use Rattle.dy_rules.specs.Cutting.{Pieces}
use Rattle.dy_rules.specs.Fragments.{items_of}
use Rattle.dy_read_parts.specs.Nesting.{nesting}
use Rattle.dy_read_parts.specs.declared.kind.PieceKind.{PieceKind}
use Rattle.dy_read_parts.specs.declared.kind.PieceKind.TheVariants as kinds

abbrev pub seen_kind : PieceKind → spec.PieceKind
seen_kind kinds.Item = spec.item_piece
seen_kind (kinds.Arm tests item) =
    spec.arm_piece (items_of (seen_fragments tests.now)) (items_of (seen_fragments item.now))
seen_kind (kinds.Otherwise rest) = spec.otherwise_piece (items_of (seen_fragments rest.now))
seen_kind kinds.Absent = spec.no_piece

-- a piece that is cut at its arrows
abbrev pub kind_cut : Pieces → spec.PieceKind
kind_cut pieces = spec.kind_behind pieces.first pieces.others

-- no part of it is nested deeper
abbrev pub IsKindWithin : ℕ → PieceKind → Type 0
IsKindWithin n kinds.Item = ⊤
IsKindWithin n (kinds.Arm tests item) = (nesting (seen_fragments tests.now) ≤ n)
    × (nesting (seen_fragments item.now) ≤ n)
IsKindWithin n (kinds.Otherwise rest) = nesting (seen_fragments rest.now) ≤ n
IsKindWithin n kinds.Absent = ⊤
