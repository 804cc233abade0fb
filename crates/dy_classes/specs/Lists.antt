-- Lists: membership, what stands before what, subsequences.
use Rattle.std.specs.Prelude.{List, [], ◌∷◌}

-- x is an element
pub data In {A : Type 0} : A → List A → Type 0 where
  first : {x : A} {xs : List A} → In x (x ∷ xs)
  next : {x y : A} {xs : List A} → In x xs → In x (y ∷ xs)

-- somewhere in the list z stands, and x later
pub data Before {A : Type 0} : A → A → List A → Type 0 where
  now : {z x : A} {xs : List A} → In x xs → Before z x (z ∷ xs)
  later : {z x y : A} {xs : List A} → Before z x xs → Before z x (y ∷ xs)

-- the first list is a subsequence of the second
pub data Sub {A : Type 0} : List A → List A → Type 0 where
  done : {ys : List A} → Sub [] ys
  keep : {x : A} {xs ys : List A} → Sub xs ys → Sub (x ∷ xs) (x ∷ ys)
  skip : {y : A} {xs ys : List A} → Sub xs ys → Sub xs (y ∷ ys)

-- each element stands once
abbrev pub Once : {A : Type 0} → List A → Type 0
Once [] = Unit {0}
Once (x ∷ xs) = (In x xs → ⊥) × Once xs
