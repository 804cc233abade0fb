-- What holds of load orders, where each use clause names a library of a smaller number.
use Rattle.std.specs.Prelude.{◌≡◌, ◌↔◌, ℕ, ◌<◌, nat_eq, if◌then◌else◌, List, [], ◌∷◌, ◌++◌, fold}
use Rattle.std.specs.Prelude.{length, take, All, Contains, EachIndex, slice_index}
use Rattle.std.specs.List.{IsDistinct}
use Rattle.dy_load_order.specs.LoadOrder.{AreEarlier, used_by, is_in, visit, load_order}

-- To visit a library is to visit what it uses, in order, and then to put it behind, unless it is
-- there already.
abbrev pub IsVisit : List (List ℕ) → (List ℕ → ℕ → List ℕ) → Type 0
IsVisit uses visit = (order : List ℕ) (library : ℕ) → library < length uses
    → visit order library ≡ (if is_in order library then order
    else fold visit order (used_by uses library) ++ library ∷ [])

-- Visits are so, with no word of how long chains of uses are.
abbrev pub VisitsAreSo : Type 0
VisitsAreSo = (uses : List (List ℕ)) → AreEarlier uses → IsVisit uses (visit uses)

-- There is one way to visit so. Hence the load order is one thing.
abbrev pub VisitsAreOne : Type 0
VisitsAreOne = (uses : List (List ℕ)) (other : List ℕ → ℕ → List ℕ) → AreEarlier uses
    → IsVisit uses other → (order : List ℕ) (library : ℕ) → library < length uses
    → other order library ≡ visit uses order library

abbrev pub DylanIsFirst : Type 0
DylanIsFirst = (uses : List (List ℕ)) (main : ℕ) → AreEarlier uses
    → (others : List ℕ) × (load_order uses main ≡ 0 ∷ others)

abbrev pub MainIsLast : Type 0
MainIsLast = (uses : List (List ℕ)) (main : ℕ) → AreEarlier uses
    → (others : List ℕ) × (load_order uses main ≡ others ++ main ∷ [])

abbrev pub NoneIsTwice : Type 0
NoneIsTwice = (uses : List (List ℕ)) (main : ℕ) → AreEarlier uses
    → IsDistinct nat_eq (load_order uses main)

-- In front of each place of an order stands all that the library there uses.
abbrev pub HasUsedInFront : List (List ℕ) → List ℕ → Type 0
HasUsedInFront uses order = EachIndex order (λ place.
    All (Contains (take place order)) (used_by uses (slice_index order place)))

abbrev pub UsedAreInFront : Type 0
UsedAreInFront = (uses : List (List ℕ)) (main : ℕ) → AreEarlier uses
    → HasUsedInFront uses (load_order uses main)

-- A library reaches itself, and what is reached by one that it uses.
pub data Reaches (uses : List (List ℕ)) : ℕ → ℕ → Type 0 where
  itself : (library : ℕ) → Reaches uses library library
  by_use : (library used other : ℕ) → Contains (used_by uses library) used
      → Reaches uses used other → Reaches uses library other

abbrev pub ReachedAreLoaded : Type 0
ReachedAreLoaded = (uses : List (List ℕ)) (main library : ℕ) → AreEarlier uses
    → Contains (load_order uses main) library ↔ Reaches uses main library

-- A library that is compiled behind others leaves their load orders as they are.
abbrev pub OrdersStay : Type 0
OrdersStay = (uses : List (List ℕ)) (used : List ℕ) (library : ℕ) → AreEarlier uses
    → library < length uses → load_order (uses ++ used ∷ []) library ≡ load_order uses library
