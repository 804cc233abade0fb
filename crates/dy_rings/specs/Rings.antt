-- Rings of a graph. A graph is told by what each node uses: node i uses what the list at place i
-- names, and a number that is not below the count of lists names no node.
use Rattle.std.specs.Prelude.{◌≡◌, ◌⊎◌, ◌<◌, ℕ, List, [], ◌∷◌, length, slice_get, Option}
use Rattle.std.specs.Prelude.{Some, None}

-- x is in the list
abbrev pub In : {A : Type 0} → A → List A → Type 0
In x [] = ⊥
In x (y ∷ ys) = (x ≡ y) ⊎ In x ys

-- nothing is in the list twice
abbrev pub Once : List ℕ → Type 0
Once [] = Unit {0}
Once (x ∷ xs) = (In x xs → ⊥) × Once xs

-- i stands in front of j in the list
abbrev pub Before : ℕ → ℕ → List ℕ → Type 0
Before i j [] = ⊥
Before i j (x ∷ xs) = ((i ≡ x) × In j xs) ⊎ Before i j xs

-- what is listed, where there is a list
abbrev pub listed : Option (List ℕ) → List ℕ
listed None = []
listed (Some used) = used

-- what the list at a place names
abbrev pub uses_at : List (List ℕ) → ℕ → List ℕ
uses_at uses i = listed (slice_get uses i)

-- i and j are nodes, and i uses j
pub record Uses (uses : List (List ℕ)) (i j : ℕ) : Type 0 where
  pub user : i < length uses
  pub used : j < length uses
  pub named : In j (uses_at uses i)

-- a chain of one use or more leads from i to j
pub data Leads (uses : List (List ℕ)) : ℕ → ℕ → Type 0 where
  straight : (i j : ℕ) → Uses uses i j → Leads uses i j
  further : (i j k : ℕ) → Uses uses i j → Leads uses j k → Leads uses i k

-- the order lists each node once and nothing else, and each behind all that it uses, but for those
-- that lead back to it, which stand on one ring with it
pub record IsBehindUsed (uses : List (List ℕ)) (order : List ℕ) : Type 0 where
  pub nodes : (i : ℕ) → (In i order → i < length uses) × (i < length uses → In i order)
  pub once : Once order
  pub behind : (i j : ℕ) → Uses uses i j → Before j i order ⊎ Leads uses j i
