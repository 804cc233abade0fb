-- The orders of classes that get other names: where no two superclasses of a class become one, its
-- order stays as it is, and it stays off rings (DRM 5, "Computing the Class Precedence List").
use Rattle.std.specs.Prelude.{◌≡◌, List, map}
use Rattle.dy_base.specs.declared.ids.ClassId.{ClassId}
use Rattle.dy_classes.specs.Orders.{Above, IsCyclic, Order}

-- A class and those above it, seen with these new names: no two of them become one, and each has
-- the same superclasses and the same order as before, by their new names.
pub record AreRenamed (new : ClassId → ClassId) (supers order : ClassId → List ClassId)
    (new_supers new_order : ClassId → List ClassId) (class : ClassId) : Type 0 where
  pub apart : (x y : ClassId) → Above supers class x → Above supers class y → new x ≡ new y
      → x ≡ y
  pub above : (x : ClassId) → Above supers class x → new_supers (new x) ≡ map new (supers x)
  pub stored : (x : ClassId) → Above supers class x → new_order (new x) ≡ map new (order x)

-- what is above it is above it then, and nothing else
abbrev pub AboveIsKept : Type 0
AboveIsKept = (new : ClassId → ClassId) (supers order new_supers new_order : ClassId → List ClassId)
    (class : ClassId) → AreRenamed new supers order new_supers new_order class → (above : ClassId)
    → Above new_supers (new class) above
    → (x : ClassId) × Above supers class x × (above ≡ new x)

-- its order stays its order
abbrev pub OrdersAreKept : Type 0
OrdersAreKept = (new : ClassId → ClassId)
    (supers order new_supers new_order : ClassId → List ClassId) (class : ClassId)
    (list : List ClassId) → AreRenamed new supers order new_supers new_order class
    → Order supers order class list → Order new_supers new_order (new class) (map new list)

-- what is no superclass of its own stays so
abbrev pub RingsAreKept : Type 0
RingsAreKept = (new : ClassId → ClassId)
    (supers order new_supers new_order : ClassId → List ClassId) (class : ClassId)
    → AreRenamed new supers order new_supers new_order class → (IsCyclic supers class → ⊥)
    → IsCyclic new_supers (new class) → ⊥
