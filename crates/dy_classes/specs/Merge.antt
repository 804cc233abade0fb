-- The class order, computed.
use Rattle.std.specs.Prelude.{◌≡◌, ◌⊎◌, ℕ, zero, suc, ◌+◌, Bool, true, false, cond, not, List, []}
use Rattle.std.specs.Prelude.{◌∷◌, ◌++◌, length, Option, Some, None}
use Rattle.dy_base.specs.declared.ids.ClassId.{ClassId}
use Rattle.dy_base.specs.Orders.{is_class}
use Rattle.dy_classes.specs.Orders.{lists_of}

abbrev pub mem : ClassId → List ClassId → Bool
mem x [] = false
mem x (y ∷ ys) = cond (is_class x y) true (mem x ys)

-- past what is listed, x is in no tail of m
abbrev pub ready_in : List ClassId → ClassId → List ClassId → Bool
ready_in listed x [] = true
ready_in listed x (z ∷ m) = cond (mem z listed) (ready_in listed x m) (not (mem x m))

abbrev pub ready_in_all : List ClassId → ClassId → List (List ClassId) → Bool
ready_in_all listed x [] = true
ready_in_all listed x (m ∷ ms) = cond (ready_in listed x m) (ready_in_all listed x ms) false

-- x is not listed, and can be next
abbrev pub ready : List (List ClassId) → List ClassId → ClassId → Bool
ready lists listed x = cond (mem x listed) false (ready_in_all listed x lists)

-- the first that passes
abbrev pub find : (ClassId → Bool) → List ClassId → Option ClassId
find p [] = None
find p (x ∷ xs) = cond (p x) (Some x) (find p xs)

abbrev pub or_else : Option ClassId → Option ClassId → Option ClassId
or_else (Some x) o = Some x
or_else None o = o

-- the next class: a direct superclass of the newest that has one to give
abbrev pub next_of : (ClassId → List ClassId) → (ClassId → Bool) → List ClassId → Option ClassId
next_of supers p [] = None
next_of supers p (z ∷ listed) = or_else (find p (supers z)) (next_of supers p listed)

-- what is listed in the end, newest first, after at most n more
abbrev pub run : (ClassId → List ClassId) → List (List ClassId) → ℕ → List ClassId → List ClassId
run supers lists zero listed = listed
run supers lists (suc n) listed =
    elim (next_of supers (ready lists listed) listed) as (λ _. List ClassId)
    [ Some x ↦ run supers lists n (x ∷ listed) | None ↦ listed ]

abbrev pub onto : List ClassId → List ClassId → List ClassId
onto [] l = l
onto (x ∷ listed) l = onto listed (x ∷ l)

-- a list from its end, so the newest class stands first
abbrev pub newest : List ClassId → List ClassId
newest l = onto l []

abbrev pub all_in : List ClassId → List ClassId → Bool
all_in [] listed = true
all_in (x ∷ m) listed = cond (mem x listed) (all_in m listed) false

abbrev pub all_listed : List (List ClassId) → List ClassId → Bool
all_listed [] listed = true
all_listed (m ∷ ms) listed = cond (all_in m listed) (all_listed ms listed) false

-- how long the lists are together
abbrev pub total : List (List ClassId) → ℕ
total [] = 0
total (m ∷ ms) = length m + total ms

-- the order after at most n more classes, or nothing where classes are left then
abbrev pub merged : (ClassId → List ClassId) → List (List ClassId) → ℕ → ClassId
    → Option (List ClassId)
merged supers lists n c =
    let listed = run supers lists n (c ∷ []) in
    cond (all_listed lists listed) (Some (onto listed [])) None

-- the merge lists l, and nothing is left
pub record IsMerged (supers order : ClassId → List ClassId) (c : ClassId)
    (l : List ClassId) : Type 0 where
  pub listed : newest l ≡ run supers (lists_of supers order c) (total (lists_of supers order c))
      (c ∷ [])
  pub whole : all_listed (lists_of supers order c) (newest l) ≡ true

-- c stands behind another class of a list, or the merge leaves something
abbrev pub IsStuck : (supers order : ClassId → List ClassId) → ClassId → Type 0
IsStuck supers order c =
    (ready (lists_of supers order c) [] c ≡ false)
    ⊎ (all_listed (lists_of supers order c)
    (run supers (lists_of supers order c) (total (lists_of supers order c)) (c ∷ [])) ≡ false)

-- the list with those of the others that it does not have yet
abbrev pub added : List ClassId → List ClassId → List ClassId
added found [] = found
added found (x ∷ xs) = cond (mem x found) (added found xs) (added (found ++ x ∷ []) xs)
