-- The place of a class in an order, by the sorted copy of the order.
use Rattle.std.proofs.Common.{◌≡◌, ℕ, zero, suc, ◌+◌, ◌<◌, ◌≤◌, ◌⊎◌, inl, inr, nat_eq, Bool, true, false, true≢false, cond, ◌&&◌, List, [], ◌∷◌, ◌++◌, length, get_or, drop, append_assoc, append-nil, add-one, Option, Some, None, position, slice_get, Contains, Ordering, Less, Equal, Greater, nat_cmp, refl, sym, ap, subst, ◌∙◌, arith}
use Rattle.std.specs.Ordering.{is_lt, is_gt, ordering_then, ordering_reverse}
use Rattle.std.specs.Option.{is_some}
use Rattle.std.specs.Cmp.{IsTotalOrder}
use Rattle.std.specs.FinMap.{nat_cmp-IsAntisymmetric}
use Rattle.std.specs.List.Sorted.{IsSorted, IsPartitionedBy, IsPartitionPoint}
use Rattle.std.proofs.lemmas.Bool.{cases_lt}
use Rattle.std.proofs.lemmas.Bool.Decides.{nat_tests}
use Rattle.std.proofs.lemmas.Cmp.{nat_cmp_total, on_total, then_total, tied_itself, nat_eq_equiv, ranked}
use Rattle.std.proofs.lemmas.List.{at_drop_more, at_drop_all}
use Rattle.std.proofs.lemmas.List.Quantifiers.{position-Some}
use Rattle.std.proofs.lemmas.List.Sorted.{ranks_by, sorted_far, Contains-permutation, IsPermutation-sym}
use Rattle.std.proofs.lemmas.Option.{none-some, same_Some, slice_get_within, slice_get-get_or, get_or_from_slice_get}
use Rattle.dy_base.specs.declared.ids.ClassId.{ClassId}
use Rattle.dy_base.specs.Orders.{is_class, class_cmp, placed_cmp, placed, IsSortedCopy}
use Rattle.dy_base.proofs.Positions.{none_passes}

class_total : IsTotalOrder class_cmp
class_total = then_total (on_total (λ (c : ClassId). c.0.library) nat_cmp_total) (on_total (λ (c : ClassId). c.0.row) nat_cmp_total)

placed_total : IsTotalOrder placed_cmp
placed_total = then_total (on_total (λ (e : ClassId × ℕ). e.0) class_total) (on_total (λ (e : ClassId × ℕ). e.1) nat_cmp_total)

both_equal : (a b : Ordering) → ordering_then a b ≡ Equal → (a ≡ Equal) × (b ≡ Equal)
both_equal Less b e = absurd (true≢false (ap is_lt e))
both_equal Equal b e = (refl, e)
both_equal Greater b e = absurd (true≢false (ap is_gt e))

-- whether an entry is of a class before another one
abbrev pub before : ClassId → ClassId × ℕ → Bool
before class e = is_lt (class_cmp e.0 class)

-- classes that compare as equal are equal
tied_class : (a b : ClassId) → class_cmp a b ≡ Equal → a ≡ b
tied_class a b e =
    let parts = both_equal _ _ e in
    let library = nat_cmp-IsAntisymmetric _ _ parts.0 in
    let row = nat_cmp-IsAntisymmetric _ _ parts.1 in
    λ i. record { 0 = record { library = library i; row = row i } }

and_true : (a b : Bool) → (a && b) ≡ true → (a ≡ true) × (b ≡ true)
and_true true b e = (refl, e)
and_true false b e = absurd (true≢false (sym e))

pub same_class : (a b : ClassId) → is_class a b ≡ true → a ≡ b
same_class a b e =
    let parts = and_true _ _ e in
    let library = same_number _ _ parts.0 in
    let row = same_number _ _ parts.1 in
    λ i. record { 0 = record { library = library i; row = row i } }
  where
    same_number : (m n : ℕ) → nat_eq m n ≡ true → m ≡ n
    same_number m n e = grind (arith, nat_tests)

pub class_itself : (a : ClassId) → is_class a a ≡ true
class_itself a = λ i. nat_eq_equiv.refl a.0.library i && nat_eq_equiv.refl a.0.row i

pub class_flips : (a b : ClassId) → is_class a b ≡ is_class b a
class_flips a b = λ i. nat_eq_equiv.symm a.0.library b.0.library i && nat_eq_equiv.symm a.0.row b.0.row i

not_before : (o p : Ordering) → is_lt (ordering_then o p) ≡ false → is_lt o ≡ false
not_before Less p e = e
not_before Equal p e = refl
not_before Greater p e = refl

less : (o : Ordering) → is_lt o ≡ true → o ≡ Less
less Less e = refl
less Equal e = absurd (true≢false (sym e))
less Greater e = absurd (true≢false (sym e))

-- what is no later than a class below another is below it
lower : (a b z : ClassId) (o : Ordering) → class_cmp a b ≡ o → is_lt (class_cmp b a) ≡ false → is_lt (class_cmp b z) ≡ true → is_lt (class_cmp a z) ≡ true
lower a b z Less is later below = ap is_lt (class_total.trans a b z is (less _ below))
lower a b z Equal is later below = ap is_lt (class_total.congr a b z is) ∙ below
lower a b z Greater is later below = absurd (true≢false (sym (ap is_lt (class_total.antisymm b a ∙ ap ordering_reverse is)) ∙ later))

pub partitioned : (class : ClassId) (copy : List (ClassId × ℕ)) → IsSorted placed_cmp copy → IsPartitionedBy (λ e. is_lt (class_cmp e.0 class)) copy
partitioned class copy sorted i j d le within below =
    let far = sorted_far (λ a b. is_lt (placed_cmp a b)) (ranks_by placed_total (λ e. e)) copy sorted i j d le within in
    lower (get_or copy i d).0 (get_or copy j d).0 class _ refl (not_before _ _ far) below

-- the places of a list
placed_at : (from : ℕ) (xs : List ClassId) (i : ℕ) (x : ClassId) → slice_get xs i ≡ Some x → slice_get (placed from xs) i ≡ Some (x, from + i)
placed_at from [] i x is = absurd (none-some x is)
placed_at from (y ∷ xs) zero x is = λ j. Some (same_Some y x is j, none_more from j)
  where
    none_more : (n : ℕ) → n ≡ n + 0
    none_more n = omega arith
placed_at from (y ∷ xs) (suc i) x is = placed_at (suc from) xs i x is ∙ ap (λ n. Some (x, n)) (moved from i)
  where
    moved : (m n : ℕ) → suc m + n ≡ m + suc n
    moved m n = omega arith

placed_from : (from : ℕ) (xs : List ClassId) (i : ℕ) (e : ClassId × ℕ) → slice_get (placed from xs) i ≡ Some e → (slice_get xs i ≡ Some e.0) × (e.1 ≡ from + i)
placed_from from [] i e is = absurd (none-some e is)
placed_from from (y ∷ xs) zero e is = let same = same_Some (y, from) e is in (ap (λ (p : ClassId × ℕ). Some p.0) same, ap (λ (p : ClassId × ℕ). p.1) (sym same) ∙ none_more from)
  where
    none_more : (n : ℕ) → n ≡ n + 0
    none_more n = omega arith
placed_from from (y ∷ xs) (suc i) e is = let rest = placed_from (suc from) xs i e is in (rest.0, rest.1 ∙ moved from i)
  where
    moved : (m n : ℕ) → suc m + n ≡ m + suc n
    moved m n = omega arith

contains_at : {X : Type 0} (xs : List X) (i : ℕ) (x : X) → slice_get xs i ≡ Some x → Contains xs x
contains_at xs i x is = (i, slice_get_within xs i x is, get_or_from_slice_get xs i x x is)

at_contains : {X : Type 0} (xs : List X) (x : X) → Contains xs x → (j : ℕ) × (slice_get xs j ≡ Some x)
at_contains xs x c = (c.0, slice_get-get_or xs c.0 x c.1 ∙ ap Some c.2)

-- what the places before a number say, with those from it on
pub placed_more : (done : List (ClassId × ℕ)) (xs : List ClassId) (i : ℕ) (d : ClassId) → i < length xs → (done ++ (get_or xs i d, i) ∷ []) ++ placed (i + 1) (drop (i + 1) xs) ≡ done ++ placed i (drop i xs)
placed_more done xs i d within =
    append_assoc done ((get_or xs i d, i) ∷ []) _
    ∙ ap (λ l. done ++ l) ((λ j. (get_or xs i d, i) ∷ placed (add-one i j) (drop (i + 1) xs)) ∙ sym (at_drop_more (placed i) xs i d within))

pub placed_all : (done : List (ClassId × ℕ)) (xs : List ClassId) (i : ℕ) → length xs ≤ i → done ++ placed i (drop i xs) ≡ done
placed_all done xs i past = ap (λ l. done ++ l) (at_drop_all (placed i) xs i past) ∙ append-nil done

-- a class has a first place exactly where it is there
pub held : (xs : List ClassId) (class : ClassId) (o : Option ℕ) → position (is_class class) xs ≡ o → (is_some o ≡ true → Contains xs class) × (Contains xs class → is_some o ≡ true)
held xs class None none =
    (λ e. absurd (true≢false (sym e)), λ c. let at = at_contains xs class c in absurd (true≢false (sym (class_itself class) ∙ none_passes (is_class class) xs at.0 class none at.1)))
held xs class (Some i) at = let found = position-Some (is_class class) xs i class at in (λ e. (i, found.0, sym (same_class class _ found.1)), λ c. refl)

-- what the search for a class answers at the first entry that is not before it
abbrev pub answer : ClassId → Option (ClassId × ℕ) → Option ℕ
answer class None = None
answer class (Some e) = cond (is_class e.0 class) (Some e.1) None

module _ (xs : List ClassId) (copy : List (ClassId × ℕ)) (is : IsSortedCopy xs copy) where
  to_copy : (i : ℕ) (x : ClassId) → slice_get xs i ≡ Some x → (j : ℕ) × (slice_get copy j ≡ Some (x, i))
  to_copy i x at =
      let there = placed_at 0 xs i x at ∙ ap (λ n. Some (x, n)) (from_zero i) in
      at_contains copy (x, i) (Contains-permutation (placed 0 xs) copy (x, i) is.same (contains_at (placed 0 xs) i (x, i) there))
    where
      from_zero : (n : ℕ) → 0 + n ≡ n
      from_zero n = omega arith

  from_copy : (j : ℕ) (e : ClassId × ℕ) → slice_get copy j ≡ Some e → slice_get xs e.1 ≡ Some e.0
  from_copy j e at =
      let there = at_contains (placed 0 xs) e (Contains-permutation copy (placed 0 xs) e (IsPermutation-sym (placed 0 xs) copy is.same) (contains_at copy j e at)) in
      let parts = placed_from 0 xs there.0 e there.1 in
      ap (slice_get xs) (parts.1 ∙ from_zero there.0) ∙ parts.0
    where
      from_zero : (n : ℕ) → 0 + n ≡ n
      from_zero n = omega arith

  missing : (class : ClassId) (o : Option (ClassId × ℕ)) (k : ℕ) → slice_get copy k ≡ o → position (is_class class) xs ≡ None → answer class o ≡ None
  missing class None k at none = refl
  missing class (Some e) k at none = ap (λ b. cond b (Some e.1) None) (class_flips e.0 class ∙ none_passes (is_class class) xs e.1 e.0 none (from_copy k e at))

  not_lower : (m n : ℕ) (o : Ordering) → o ≡ nat_cmp m n → is_lt o ≡ false → n ≤ m
  not_lower m n Less r later = absurd (true≢false later)
  not_lower m n Equal r later = let e : m ≡ n = ranked m n Equal r in omega (arith, e)
  not_lower m n Greater r later = let e : n < m = ranked m n Greater r in omega (arith, e)

  -- an entry that is not before a class, and not behind the class at a place
  meets : (class c : ClassId) (i m : ℕ) (o : Ordering) → class_cmp class c ≡ o → is_lt (class_cmp c class) ≡ false → is_lt (ordering_then o (nat_cmp i m)) ≡ false → (class ≡ c) × (m ≤ i)
  meets class c i m Less is later far = absurd (true≢false far)
  meets class c i m Equal is later far = (tied_class class c is, not_lower i m _ refl far)
  meets class c i m Greater is later far = absurd (true≢false (sym (ap is_lt (class_total.antisymm c class ∙ ap ordering_reverse is)) ∙ later))

  first_of : (class c : ClassId) (i m : ℕ) → position (is_class class) xs ≡ Some i → class ≡ c → m ≤ i → slice_get xs m ≡ Some c → ((m < i) ⊎ (i ≤ m)) → m ≡ i
  first_of class c i m at same le there (inl lt) =
      let later = (position-Some (is_class class) xs i class at).2 m lt in
      absurd (true≢false (sym (class_itself class) ∙ ap (is_class class) (same ∙ sym (get_or_from_slice_get xs m c class there)) ∙ later))
  first_of class c i m at same le there (inr ge) = omega (arith, le, ge)

  at_entry : (class : ClassId) (i k : ℕ) (e : ClassId × ℕ) → slice_get copy k ≡ Some e → position (is_class class) xs ≡ Some i → is_lt (class_cmp e.0 class) ≡ false → is_lt (placed_cmp (class, i) e) ≡ false
      → answer class (Some e) ≡ Some i
  at_entry class i k e there at later far =
      let met = meets class e.0 i e.1 _ refl later far in
      let place = first_of class e.0 i e.1 at met.0 met.1 (from_copy k e there) (cases_lt e.1 i) in
      ap (λ b. cond b (Some e.1) None) (ap (λ c. is_class c class) (sym met.0) ∙ class_itself class) ∙ ap Some place

  present : (class : ClassId) (i k : ℕ) → position (is_class class) xs ≡ Some i → IsPartitionPoint (λ e. is_lt (class_cmp e.0 class) ≡ true) (λ e. is_lt (class_cmp e.0 class) ≡ false) copy k
      → answer class (slice_get copy k) ≡ Some i
  present class i k at point =
      let found = position-Some (is_class class) xs i class at in
      let there : slice_get xs i ≡ Some class = slice_get-get_or xs i class found.0 ∙ ap Some (sym (same_class class _ found.1)) in
      let entry = to_copy i class there in
      by entry.0 entry.1 (cases_lt entry.0 k)
    where
      by : (j : ℕ) → slice_get copy j ≡ Some (class, i) → ((j < k) ⊎ (k ≤ j)) → answer class (slice_get copy k) ≡ Some i
      by j here (inl lt) =
          let below = point.0 j (class, i) (omega arith) lt in
          let seen = get_or_from_slice_get copy j (class, i) (class, i) here in
          absurd (true≢false (sym below ∙ ap (λ (e : ClassId × ℕ). is_lt (class_cmp e.0 class)) seen ∙ ap is_lt (tied_itself class_total class)))
      by j here (inr ge) =
          let within = slice_get_within copy j (class, i) here in
          let e = get_or copy k (class, i) in
          let stands = slice_get-get_or copy k (class, i) (omega (arith, ge, within)) in
          let far = sorted_far (λ a b. is_lt (placed_cmp a b)) (ranks_by placed_total (λ e. e)) copy is.sorted k j (class, i) ge within in
          let seen = get_or_from_slice_get copy j (class, i) (class, i) here in
          ap (answer class) stands
          ∙ at_entry class i k e stands at (point.1 k (class, i) (omega arith) (omega (arith, ge, within))) (sym (ap (λ (x : ClassId × ℕ). is_lt (placed_cmp x e)) seen) ∙ far)

  -- the search gives the first place
  pub found_place : (class : ClassId) (k : ℕ) → IsPartitionPoint (λ e. is_lt (class_cmp e.0 class) ≡ true) (λ e. is_lt (class_cmp e.0 class) ≡ false) copy k
      → answer class (slice_get copy k) ≡ position (is_class class) xs
  found_place class k point = by (position (is_class class) xs) refl
    where
      by : (o : Option ℕ) → position (is_class class) xs ≡ o → answer class (slice_get copy k) ≡ o
      by None none = missing class (slice_get copy k) k refl none
      by (Some i) at = present class i k at point

  -- the same from what the call of the search ensures
  pub found_by : (class : ClassId) (searched : List (ClassId × ℕ)) → searched ≡ copy → (k : ℕ)
      → (IsPartitionedBy (before class) searched → IsPartitionPoint (λ e. before class e ≡ true) (λ e. before class e ≡ false) searched k)
      → answer class (slice_get copy k) ≡ position (is_class class) xs
  found_by class searched same k by =
      let parted = subst (IsPartitionedBy (before class)) (sym same) (partitioned class copy is.sorted) in
      found_place class k (subst (λ l. IsPartitionPoint (λ e. before class e ≡ true) (λ e. before class e ≡ false) l k) same (by parted))
