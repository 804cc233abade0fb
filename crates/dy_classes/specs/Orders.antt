-- The class precedence list as a relation on the finished list (DRM 5, "Computing the Class
-- Precedence List"). A graph of classes is told by two functions: `supers` gives the direct
-- superclasses of a class, and `order` the list that is stored for it.
use Rattle.std.specs.Prelude.{◌≡◌, List, [], ◌∷◌, ◌⊎◌, map}
use Rattle.dy_base.specs.declared.ids.ClassId.{ClassId}
use Rattle.dy_classes.specs.Lists.{In, Before, Sub, Once}

-- x is c, or a superclass of it
pub data Above (supers : ClassId → List ClassId) : ClassId → ClassId → Type 0 where
  itself : {c : ClassId} → Above supers c c
  higher : {c s x : ClassId} → In s (supers c) → Above supers s x → Above supers c x

-- c is its own superclass
abbrev pub IsCyclic : (ClassId → List ClassId) → ClassId → Type 0
IsCyclic supers c = (s : ClassId) × In s (supers c) × Above supers s c

-- the lists that the order of c keeps: its direct superclasses, and the order of each
abbrev pub lists_of : (supers order : ClassId → List ClassId) → ClassId → List (List ClassId)
lists_of supers order c = supers c ∷ map order (supers c)

-- x is not listed so far, it is in some of the lists, and everything before it in them is listed
pub record Admissible (lists : List (List ClassId)) (listed : List ClassId)
    (x : ClassId) : Type 0 where
  pub fresh : In x listed → ⊥
  pub found : (m : List ClassId) × In m lists × In x m
  pub ready : (m : List ClassId) → In m lists → (z : ClassId) → Before z x m → In z listed

-- in what is listed so far, newest first, x has a direct subclass that is newer than any of y's
abbrev pub Later : (ClassId → List ClassId) → List ClassId → ClassId → ClassId → Type 0
Later supers [] x y = ⊥
Later supers (z ∷ listed) x y = (In y (supers z) → ⊥) × (In x (supers z) ⊎ Later supers listed x y)

-- each class of `rest` is, in its turn, that one of the admissible classes which comes later than
-- the others
abbrev pub Chosen : (ClassId → List ClassId) → List (List ClassId) → List ClassId → List ClassId
    → Type 0
Chosen supers lists listed [] = Unit {0}
Chosen supers lists listed (x ∷ rest) =
    Admissible lists listed x
    × ((y : ClassId) → Admissible lists listed y → (y ≡ x → ⊥) → Later supers listed x y)
    × Chosen supers lists (x ∷ listed) rest

-- l is the order of c, where each direct superclass has the order that is stored
pub record Order (supers order : ClassId → List ClassId) (c : ClassId)
    (l : List ClassId) : Type 0 where
  pub rest : List ClassId
  pub begins : l ≡ c ∷ rest
  pub once : Once l
  pub only : (x : ClassId) → In x l → Above supers c x
  pub all : (x : ClassId) → Above supers c x → In x l
  pub above : (s : ClassId) → In s (supers c) → Sub (order s) l
  pub direct : Sub (supers c) l
  pub chosen : Chosen supers (lists_of supers order c) (c ∷ []) rest

-- each superclass of c stores its order, and none is its own superclass
pub record Stored (supers order : ClassId → List ClassId) (c : ClassId) : Type 0 where
  pub orders : (s x : ClassId) → In s (supers c) → Above supers s x → Order supers order x (order x)
  pub acyclic : (s x : ClassId) → In s (supers c) → Above supers s x → IsCyclic supers x → ⊥
