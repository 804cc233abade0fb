-- The rows of a program as functions from a class.
use Rattle.std.specs.Prelude.{ℕ, List, [], Option, None, slice_get}
use Rattle.std.specs.Option.{option_map_or}
use Rattle.dy_base.specs.declared.ids.ClassId.{ClassId}
use Rattle.dy_term.specs.declared.rows.ClassRow.{ClassRow}
use Rattle.dy_term.specs.declared.rows.Program.{Program}
use Rattle.dy_classes.specs.Orders.{lists_of, IsCyclic, Order, Stored}

-- the row of a class, where it has one
abbrev pub row_at : Program → ClassId → Option ClassRow
row_at program class =
    option_map_or (λ library. slice_get library.classes class.0.row)
    (slice_get program.libraries class.0.library) None

-- its name
abbrev pub name_at : Program → ClassId → List ℕ
name_at program class = option_map_or (λ row. row.name) (row_at program class) []

-- its direct superclasses
abbrev pub supers_at : Program → ClassId → List ClassId
supers_at program class = option_map_or (λ row. row.supers) (row_at program class) []

-- the order that its row stores
abbrev pub order_at : Program → ClassId → List ClassId
order_at program class = option_map_or (λ row. row.order) (row_at program class) []

-- the lists that the order of a class keeps
abbrev pub lists_at : Program → ClassId → List (List ClassId)
lists_at program class = lists_of (supers_at program) (order_at program) class

-- the class is its own superclass
abbrev pub IsCyclicAt : Program → ClassId → Type 0
IsCyclicAt program class = IsCyclic (supers_at program) class

-- unless the class is its own superclass, each of its superclasses stores its order, and none is
-- its own superclass
abbrev pub AreStored : Program → ClassId → Type 0
AreStored program class =
    (IsCyclicAt program class → ⊥) → Stored (supers_at program) (order_at program) class

-- the class is not its own superclass, and this is its order
abbrev pub IsOrderOf : Program → ClassId → List ClassId → Type 0
IsOrderOf program class list =
    (IsCyclicAt program class → ⊥) × Order (supers_at program) (order_at program) class list
