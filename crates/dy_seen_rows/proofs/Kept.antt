-- Where each library stays at its place, rows stay what they are.
use Rattle.std.proofs.Common.{◌≡◌, List, [], ◌∷◌, map, Option, Some, None, refl, ap, ◌∙◌}
use Rattle.std.specs.Option.{option_map}
use Rattle.dy_base.specs.declared.ids.ClassId.{ClassId}
use Rattle.dy_term.specs.declared.types.DyType.{DyType}
use Rattle.dy_term.specs.declared.types.Member.{Member}
use Rattle.dy_term.specs.declared.types.Member.TheVariants.{Class, Single, SingleClass, Range}
use Rattle.dy_term.specs.declared.rows.ClassRow.{ClassRow}
use Rattle.dy_lowered.specs.Linking.{linked_class, linked_member, linked_type}
use Rattle.dy_seen_rows.specs.declared.places.Places.TheVariants.{Kept}
use Rattle.dy_seen_rows.specs.Places.{placed}
use Rattle.dy_seen_rows.specs.Rows.{linked_class_row, linked_class_rows, without_slots}

-- ---- classes

ids_kept : (classes : List ClassId) → map (linked_class (placed Kept)) classes ≡ classes
ids_kept [] = refl
ids_kept (class ∷ classes) = ap (λ (rest : List ClassId). class ∷ rest) (ids_kept classes)

row_kept : (row : ClassRow) → linked_class_row (placed Kept) row ≡ without_slots row
row_kept row = λ i. record row { supers = ids_kept row.supers i; order = ids_kept row.order i; slots = [] }

pub rows_kept : (rows : List ClassRow) → linked_class_rows (placed Kept) rows ≡ map without_slots rows
rows_kept [] = refl
rows_kept (row ∷ rows) = λ i. row_kept row i ∷ rows_kept rows i

-- ---- types

member_kept : (member : Member) → linked_member (placed Kept) member ≡ member
member_kept (Class class) = refl
member_kept (Single literal) = refl
member_kept (SingleClass class) = refl
member_kept (Range least greatest) = refl

members_kept : (members : List Member) → map (linked_member (placed Kept)) members ≡ members
members_kept [] = refl
members_kept (member ∷ members) = λ i. member_kept member i ∷ members_kept members i

pub type_kept : (type : DyType) → linked_type (placed Kept) type ≡ type
type_kept type = λ i. record { members = members_kept type.members i }

pub named_kept : (named : Option DyType) → option_map (linked_type (placed Kept)) named ≡ named
named_kept None = refl
named_kept (Some type) = λ i. Some (type_kept type i)
