-- A merge that counts: what is left of each list, and how often a class stands in the tails of
-- that.
use Rattle.std.specs.Prelude.{◌≡◌, ℕ, ◌+◌, ◌<◌, ◌≤◌, Bool, true, false, cond, List, [], ◌∷◌, length}
use Rattle.std.specs.Prelude.{nat_eq, take, drop, slice_get, slice_index, slice_index_or, Vec}
use Rattle.std.specs.Option.{option_map_or}
use Rattle.std.specs.declared.alloc.Global.{Global}
use Rattle.dy_base.specs.declared.ids.ClassId.{ClassId}
use Rattle.dy_base.specs.Orders.{is_class}
use Rattle.dy_classes.specs.Lists.{In}
use Rattle.dy_classes.specs.Merge.{mem}

-- the number of a class in rows of numbers, one row a library
abbrev pub count_at : List (Vec ℕ Global) → ClassId → ℕ
count_at rows class = option_map_or (λ row. slice_index row.items class.0.row)
    (slice_get rows class.0.library) 0

-- how many numbers the row of a library has
abbrev pub row_length : List (Vec ℕ Global) → ℕ → ℕ
row_length rows library = option_map_or (λ row. length row.items) (slice_get rows library) 0

-- the class has a number
abbrev pub HasCount : List (Vec ℕ Global) → ClassId → Type 0
HasCount rows class = class.0.row < row_length rows class.0.library

-- the number of a class is 0
abbrev pub free : List (Vec ℕ Global) → ClassId → Bool
free rows class = nat_eq (count_at rows class) 0

abbrev pub one_if : Bool → ℕ
one_if true = 1
one_if false = 0

-- what is left of a list
abbrev pub past : List ClassId → List ClassId → List ClassId
past listed [] = []
past listed (z ∷ m) = cond (mem z listed) (past listed m) (z ∷ m)

abbrev pub tail : List ClassId → List ClassId
tail [] = []
tail (x ∷ m) = m

-- how often x stands in the list
abbrev pub occurs : ClassId → List ClassId → ℕ
occurs x [] = 0
occurs x (y ∷ m) = one_if (is_class x y) + occurs x m

-- how often x stands in the tails of what is left of the lists
abbrev pub tails : List ClassId → ClassId → List (List ClassId) → ℕ
tails listed x [] = 0
tails listed x (m ∷ ms) = occurs x (tail (past listed m)) + tails listed x ms

abbrev pub advanced : ClassId → List ClassId → List ClassId
advanced x [] = []
advanced x (y ∷ r) = cond (is_class x y) r (y ∷ r)

-- what is left has nothing that is listed
abbrev pub Clean : List ClassId → List ClassId → Type 0
Clean listed m = (y : ClassId) → In y (past listed m) → In y listed → ⊥

-- where x is being listed, and the first j lists have moved: the place in each list where what is
-- left of it begins, and for each class how often it stands in the tails, and one more if it is
-- listed
pub record Moving (lists : List (List ClassId)) (listed : List ClassId) (x : ClassId) (j : ℕ)
    (heads : List ℕ) (counts : List (Vec ℕ Global)) : Type 0 where
  pub places : length heads ≡ length lists
  pub count : (y : ClassId)
      → count_at counts y ≡ tails (x ∷ listed) y (take j lists) + tails listed y
      (drop j lists) + one_if (mem y listed)
  pub within : (k : ℕ) → k < length lists → slice_index heads k ≤ length (slice_index_or lists k [])
  pub moved : (k : ℕ) → k < j
      → drop (slice_index heads k) (slice_index_or lists k []) ≡ past (x ∷ listed)
      (slice_index_or lists k [])
  pub still : (k : ℕ) → j ≤ k → k < length lists
      → drop (slice_index heads k) (slice_index_or lists k []) ≡ past listed
      (slice_index_or lists k [])

-- the same between two classes
pub record Counted (lists : List (List ClassId)) (listed : List ClassId) (heads : List ℕ)
    (counts : List (Vec ℕ Global)) : Type 0 where
  pub places : length heads ≡ length lists
  pub count : (y : ClassId) → count_at counts y ≡ tails listed y lists + one_if (mem y listed)
  pub within : (k : ℕ) → k < length lists → slice_index heads k ≤ length (slice_index_or lists k [])
  pub lefts : (k : ℕ) → k < length lists
      → drop (slice_index heads k) (slice_index_or lists k []) ≡ past listed
      (slice_index_or lists k [])
  pub clean : (k : ℕ) → k < length lists → Clean listed (slice_index_or lists k [])

-- the number of each class that is found is 1, and that of each other 0
pub record AreMarked (found : List ClassId) (counts : List (Vec ℕ Global)) : Type 0 where
  pub mark : (y : ClassId) → count_at counts y ≡ one_if (mem y found)
