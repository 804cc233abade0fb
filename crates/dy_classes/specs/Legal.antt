-- Which classes are legal: primary superclasses are related (DRM 5, "Primary and Free Classes"),
-- and no two slots have one getter (DRM 5, "Slots").
use Rattle.std.specs.Prelude.{◌≡◌, ℕ, Bool, true, false, List, [], ◌∷◌, ◌++◌, ◌⊎◌, map, IsTrue}
use Rattle.std.specs.Prelude.{Option, Some, None, slice_get}
use Rattle.std.specs.Option.{option_map_or}
use Rattle.dy_base.specs.declared.ids.ClassId.{ClassId}
use Rattle.dy_base.specs.declared.ids.GenericId.{GenericId}
use Rattle.dy_base.specs.declared.kind.Kind.TheVariants as kinds
use Rattle.dy_base.specs.declared.fault.Refusal.{Refusal}
use Rattle.dy_base.specs.declared.fault.Refusal.TheVariants as refusals
use Rattle.dy_term.specs.declared.rows.Program.{Program}
use Rattle.dy_term.specs.declared.rows.ClassRow.{ClassRow}
use Rattle.dy_term.specs.declared.rows.SlotRow.{SlotRow}
use Rattle.dy_term.specs.declared.rows.GenericRow.{GenericRow}
use Rattle.dy_classes.specs.Lists.{In, Before, Once}
use Rattle.dy_classes.specs.Orders.{Above, Order}
use Rattle.dy_classes.specs.Rows.{row_at, supers_at, order_at, name_at}
use Rattle.dy_classes.specs.Faults.{class_fault}

-- whether a class is primary
abbrev pub primary_at : Program → ClassId → Bool
primary_at program class = option_map_or (λ row. row.is_primary) (row_at program class) false

-- neither class is above the other
abbrev pub AreUnrelated : Program → ClassId → ClassId → Type 0
AreUnrelated program a b = (Above (supers_at program) a b → ⊥) × (Above (supers_at program) b a → ⊥)

-- two primary classes of a list, in its order, that are unrelated
pub record Clash (program : Program) (list : List ClassId) (a b : ClassId) : Type 0 where
  pub before : Before a b list
  pub primary : IsTrue (primary_at program a)
  pub other : IsTrue (primary_at program b)
  pub unrelated : AreUnrelated program a b

-- the first such two, by the first and then by the second of them
pub record FirstClash (program : Program) (list : List ClassId) (a b : ClassId) : Type 0 where
  pub clash : Clash program list a b
  pub first : (x y : ClassId) → Clash program list x y → Before x a list → ⊥
  pub second : (y : ClassId) → Clash program list a y → Before y b list → ⊥

-- the slots of a class, in the order of the text
abbrev pub slots_at : Program → ClassId → List SlotRow
slots_at program class = option_map_or (λ row. row.slots) (row_at program class) []

abbrev pub getters_of : List SlotRow → List GenericId
getters_of slots = map (λ slot. slot.getter) slots

-- the getters of the slots of all classes of a list, from its last class to its first
abbrev pub getters : Program → List ClassId → List GenericId
getters program [] = []
getters program (class ∷ rest) = getters program rest ++ getters_of (slots_at program class)

-- the first element of a list that stands in it a second time
pub record Repeated {A : Type 0} (list : List A) (x : A) : Type 0 where
  pub before : List A
  pub after : List A
  pub whole : list ≡ before ++ x ∷ after
  pub again : In x before
  pub once : Once before

-- the row of a generic function, where it has one
abbrev pub generic_at : Program → GenericId → Option GenericRow
generic_at program generic =
    option_map_or (λ library. slice_get library.generics generic.0.row)
    (slice_get program.libraries generic.0.library) None

-- its name
abbrev pub generic_name : Program → GenericId → List ℕ
generic_name program generic = option_map_or (λ row. row.name) (generic_at program generic) []

-- of any two primary superclasses one is above the other, and no two slots have one getter
pub record IsLegal (program : Program) (class : ClassId) : Type 0 where
  pub related : (a b : ClassId) → Above (supers_at program) class a
      → Above (supers_at program) class b → IsTrue (primary_at program a)
      → IsTrue (primary_at program b)
      → Above (supers_at program) a b ⊎ Above (supers_at program) b a
  pub distinct : Once (getters program (order_at program class))

-- why a class is not legal by its slots: two of them have one getter
abbrev pub SlotRefused : Program → ClassId → Refusal → Type 0
SlotRefused program class (refusals.Fault told) =
    (g : GenericId) × Repeated (getters program (order_at program class)) g
    × (told ≡ class_fault kinds.SlotClash (name_at program class ∷ generic_name program g ∷ []))
SlotRefused program class refusals.Memory = Unit {0}

-- why a class is not legal: two primary superclasses are unrelated, or else two slots have one
-- getter
abbrev pub ClassRefused : Program → ClassId → Refusal → Type 0
ClassRefused program class (refusals.Fault told) =
    ((a : ClassId) × (b : ClassId) × FirstClash program (order_at program class) a b
    × (told ≡ class_fault kinds.TwoPrimaries
    (name_at program class ∷ name_at program a ∷ name_at program b ∷ [])))
    ⊎ (((a b : ClassId) → Clash program (order_at program class) a b → ⊥)
    × SlotRefused program class (refusals.Fault told))
ClassRefused program class refusals.Memory = Unit {0}

-- the class and each of its superclasses stores its order
abbrev pub AllStored : Program → ClassId → Type 0
AllStored program class = (x : ClassId) → Above (supers_at program) class x
    → Order (supers_at program) (order_at program) x (order_at program x)
