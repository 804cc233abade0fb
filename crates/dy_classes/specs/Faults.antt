-- Why a class is refused.
use Rattle.std.specs.Prelude.{◌≡◌, ℕ, List, [], ◌∷◌, ◌⊎◌, None}
use Rattle.dy_base.specs.declared.ids.ClassId.{ClassId}
use Rattle.dy_base.specs.declared.kind.Kind.{Kind}
use Rattle.dy_base.specs.declared.kind.Kind.TheVariants as kinds
use Rattle.dy_base.specs.declared.fault.Fault.{Fault}
use Rattle.dy_base.specs.declared.fault.Refusal.{Refusal}
use Rattle.dy_base.specs.declared.fault.Refusal.TheVariants as refusals
use Rattle.dy_term.specs.declared.rows.Program.{Program}
use Rattle.dy_classes.specs.Orders.{IsCyclic, Order}
use Rattle.dy_classes.specs.Rows.{supers_at, order_at, name_at}

-- a fault of a class: what is shown with it, and neither a library nor a place
abbrev pub class_fault : Kind → List (List ℕ) → Fault
class_fault kind shown = record
    { kind = kind; library = []; place = None; shown = shown; numbers = [] }

-- this fault, or want of memory
abbrev pub IsRefused : Fault → Refusal → Type 0
IsRefused fault (refusals.Fault told) = told ≡ fault
IsRefused fault refusals.Memory = Unit {0}

-- why a class has no order: it is its own superclass, or else there is no list that is one
abbrev pub OrderRefused : Program → ClassId → Refusal → Type 0
OrderRefused program class (refusals.Fault told) =
    ((told ≡ class_fault kinds.CyclicClass (name_at program class ∷ []))
    × IsCyclic (supers_at program) class)
    ⊎ ((told ≡ class_fault kinds.Inconsistent (name_at program class ∷ []))
    × (IsCyclic (supers_at program) class → ⊥)
    × ((l : List ClassId) → Order (supers_at program) (order_at program) class l → ⊥))
OrderRefused program class refusals.Memory = Unit {0}
