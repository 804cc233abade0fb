-- What is in a list, once and before something else, and what stands at a place of it.
use Rattle.std.proofs.Common.{◌≡◌, ◌⊎◌, inl, inr, ℕ, zero, suc, ◌+◌, ◌-◌, ◌<◌, ◌≤◌, List, [], ◌∷◌, ◌++◌, length, take, drop, fold, Some, None, slice_get, slice_set, refl, sym, ap, subst, ◌∙◌, arith}
use Rattle.std.proofs.lemmas.Bool.{cases_eq}
use Rattle.std.proofs.lemmas.Option.{slice_get_within}
use Rattle.dy_rings.specs.Rings.{In, Once, Before}

pub none_is : {A : Type 0} (x : A) → None ≡ Some x → ⊥
none_is x e = cc

pub some_is : {A : Type 0} (x y : A) → Some x ≡ Some y → x ≡ y
some_is x y e = cc

-- ---- what is in a list

pub in_left : {A : Type 0} (x : A) (xs ys : List A) → In x xs → In x (xs ++ ys)
in_left x [] ys i = absurd i
in_left x (z ∷ zs) ys (inl e) = inl e
in_left x (z ∷ zs) ys (inr i) = inr (in_left x zs ys i)

pub in_right : {A : Type 0} (x : A) (xs ys : List A) → In x ys → In x (xs ++ ys)
in_right x [] ys i = i
in_right x (z ∷ zs) ys i = inr (in_right x zs ys i)

pub in_parts : {A : Type 0} (x : A) (xs ys : List A) → In x (xs ++ ys) → In x xs ⊎ In x ys
in_parts x [] ys i = inr i
in_parts x (z ∷ zs) ys (inl e) = inl (inl e)
in_parts x (z ∷ zs) ys (inr i) = elim (in_parts x zs ys i) [ inl j ↦ inl (inr j) | inr j ↦ inr j ]

pub in_one : {A : Type 0} (x y : A) → In x (y ∷ []) → x ≡ y
in_one x y (inl e) = e
in_one x y (inr i) = absurd i

pub in_last : {A : Type 0} (x : A) (xs : List A) → In x (xs ++ x ∷ [])
in_last x xs = in_right x xs (x ∷ []) (inl refl)

pub in_or_last : {A : Type 0} (x : A) (xs : List A) (y : A) → In x (xs ++ y ∷ []) → In x xs ⊎ (x ≡ y)
in_or_last x xs y i = elim (in_parts x xs (y ∷ []) i) [ inl j ↦ inl j | inr j ↦ inr (in_one x y j) ]

pub in_or_not : (x : ℕ) (xs : List ℕ) → In x xs ⊎ (In x xs → ⊥)
in_or_not x [] = inr (λ i. i)
in_or_not x (y ∷ ys) = head (cases_eq x y) (in_or_not x ys)
  where
    neither : (x ≡ y → ⊥) → (In x ys → ⊥) → (x ≡ y) ⊎ In x ys → ⊥
    neither d out (inl e) = d e
    neither d out (inr i) = out i

    head : (x ≡ y) ⊎ (x ≡ y → ⊥) → In x ys ⊎ (In x ys → ⊥) → In x (y ∷ ys) ⊎ (In x (y ∷ ys) → ⊥)
    head (inl e) t = inl (inl e)
    head (inr d) (inl i) = inl (inr i)
    head (inr d) (inr out) = inr (neither d out)

-- a list with something in it has a last item
pub ends : {A : Type 0} (x : A) (xs : List A) → In x xs → (front : List A) × (last : A) × (xs ≡ front ++ last ∷ [])
ends x [] i = absurd i
ends x (y ∷ []) i = ([], y, refl)
ends x (y ∷ z ∷ zs) i = let (front, last, e) = ends z (z ∷ zs) (inl refl) in (y ∷ front, last, ap (λ ys. y ∷ ys) e)

-- ---- what stands at a place

pub at_front : {A : Type 0} (xs ys : List A) (k : ℕ) (x : A) → slice_get xs k ≡ Some x → slice_get (xs ++ ys) k ≡ Some x
at_front [] ys k x e = absurd (none_is x e)
at_front (z ∷ zs) ys zero x e = e
at_front (z ∷ zs) ys (suc k) x e = at_front zs ys k x e

pub at_end : {A : Type 0} (xs : List A) (x : A) (ys : List A) → slice_get (xs ++ x ∷ ys) (length xs) ≡ Some x
at_end [] x ys = refl
at_end (z ∷ zs) x ys = at_end zs x ys

plus_none : (k : ℕ) → k + 0 ≡ k
plus_none k = omega arith

pub at_back : {A : Type 0} (xs ys : List A) (k : ℕ) → slice_get (xs ++ ys) (k + length xs) ≡ slice_get ys k
at_back [] ys k = ap (slice_get ys) (plus_none k)
at_back (z ∷ zs) ys k = ap (slice_get (z ∷ (zs ++ ys))) (more k (length zs)) ∙ at_back zs ys k
  where
    more : (m n : ℕ) → m + suc n ≡ suc (m + n)
    more m n = omega arith

pub at_parts : {A : Type 0} (xs ys : List A) (k : ℕ) (x : A) → slice_get (xs ++ ys) k ≡ Some x → (slice_get xs k ≡ Some x) ⊎ ((m : ℕ) × (k ≡ m + length xs) × (slice_get ys m ≡ Some x))
at_parts [] ys k x e = inr (k, omega arith, e)
at_parts (z ∷ zs) ys zero x e = inl e
at_parts (z ∷ zs) ys (suc k) x e = go (at_parts zs ys k x e)
  where
    more : (m n : ℕ) → k ≡ m + n → suc k ≡ m + suc n
    more m n same = omega arith

    go : (slice_get zs k ≡ Some x) ⊎ ((m : ℕ) × (k ≡ m + length zs) × (slice_get ys m ≡ Some x)) → (slice_get zs k ≡ Some x) ⊎ ((m : ℕ) × (suc k ≡ m + suc (length zs)) × (slice_get ys m ≡ Some x))
    go (inl f) = inl f
    go (inr (m, same, f)) = inr (m, more m (length zs) same, f)

pub at_one : {A : Type 0} (y : A) (m : ℕ) (x : A) → slice_get (y ∷ []) m ≡ Some x → (m ≡ 0) × (x ≡ y)
at_one y zero x e = (refl, sym (some_is y x e))
at_one y (suc m) x e = absurd (none_is x e)

pub at_or_last : {A : Type 0} (xs : List A) (y : A) (k : ℕ) (x : A) → slice_get (xs ++ y ∷ []) k ≡ Some x → (slice_get xs k ≡ Some x) ⊎ ((k ≡ length xs) × (x ≡ y))
at_or_last xs y k x e = go (at_parts xs (y ∷ []) k x e)
  where
    last : (m : ℕ) → k ≡ m + length xs → m ≡ 0 → k ≡ length xs
    last m e z = omega arith

    go : (slice_get xs k ≡ Some x) ⊎ ((m : ℕ) × (k ≡ m + length xs) × (slice_get (y ∷ []) m ≡ Some x)) → (slice_get xs k ≡ Some x) ⊎ ((k ≡ length xs) × (x ≡ y))
    go (inl f) = inl f
    go (inr (m, same, f)) = let (none, is) = at_one y m x f in inr (last m same none, is)

pub in_at : {A : Type 0} (x : A) (xs : List A) → In x xs → (k : ℕ) × (slice_get xs k ≡ Some x)
in_at x [] i = absurd i
in_at x (y ∷ ys) (inl e) = (0, ap Some (sym e))
in_at x (y ∷ ys) (inr i) = let (k, e) = in_at x ys i in (suc k, e)

pub at_in : {A : Type 0} (xs : List A) (k : ℕ) (x : A) → slice_get xs k ≡ Some x → In x xs
at_in [] k x e = absurd (none_is x e)
at_in (y ∷ ys) zero x e = inl (sym (some_is y x e))
at_in (y ∷ ys) (suc k) x e = inr (at_in ys k x e)

-- something stands at each place within
pub at_within : {A : Type 0} (xs : List A) (k : ℕ) → k < length xs → (x : A) × (slice_get xs k ≡ Some x)
at_within [] k l = absurd (omega arith)
at_within (x ∷ xs) zero l = (x, refl)
at_within (x ∷ xs) (suc k) l = at_within xs k (omega arith)

-- ---- parts of a list

pub at_dropped : {A : Type 0} (n : ℕ) (xs : List A) (k : ℕ) → slice_get (drop n xs) k ≡ slice_get xs (k + n)
at_dropped zero xs k = ap (slice_get xs) (sym (plus_none k))
at_dropped (suc n) [] k = refl
at_dropped (suc n) (x ∷ xs) k = at_dropped n xs k ∙ ap (slice_get (x ∷ xs)) (more k n)
  where
    more : (m n : ℕ) → suc (m + n) ≡ m + suc n
    more m n = omega arith

pub in_dropped : {A : Type 0} (n : ℕ) (xs : List A) (x : A) → In x (drop n xs) → (p : ℕ) × (n ≤ p) × (slice_get xs p ≡ Some x)
in_dropped n xs x i = let (k, e) = in_at x (drop n xs) i in (k + n, omega arith, sym (at_dropped n xs k) ∙ e)

pub dropped_in : {A : Type 0} (n : ℕ) (xs : List A) (p : ℕ) (x : A) → n ≤ p → slice_get xs p ≡ Some x → In x (drop n xs)
dropped_in n xs p x l e = at_in (drop n xs) (p - n) x (at_dropped n xs (p - n) ∙ ap (slice_get xs) same ∙ e)
  where
    same : p - n + n ≡ p
    same = omega (arith, l)

pub taken_at : {A : Type 0} (n : ℕ) (xs : List A) (p : ℕ) (x : A) → slice_get (take n xs) p ≡ Some x → (p < n) × (slice_get xs p ≡ Some x)
taken_at zero xs p x e = absurd (none_is x e)
taken_at (suc n) [] p x e = absurd (none_is x e)
taken_at (suc n) (y ∷ ys) zero x e = (omega arith, e)
taken_at (suc n) (y ∷ ys) (suc p) x e = let (l, f) = taken_at n ys p x e in (omega arith, f)

pub at_taken : {A : Type 0} (n : ℕ) (xs : List A) (p : ℕ) (x : A) → p < n → slice_get xs p ≡ Some x → slice_get (take n xs) p ≡ Some x
at_taken zero xs p x l e = absurd (omega arith)
at_taken (suc n) [] p x l e = absurd (none_is x e)
at_taken (suc n) (y ∷ ys) zero x l e = e
at_taken (suc n) (y ∷ ys) (suc p) x l e = at_taken n ys p x (omega arith) e

-- ---- what is there once, and before something else

pub once_append : (xs ys : List ℕ) → Once xs → Once ys → ((x : ℕ) → In x xs → In x ys → ⊥) → Once (xs ++ ys)
once_append [] ys o p apart = p
once_append (x ∷ xs) ys o p apart = (λ i. new (in_parts x xs ys i), once_append xs ys o.1 p (λ y a b. apart y (inr a) b))
  where
    new : In x xs ⊎ In x ys → ⊥
    new (inl i) = o.0 i
    new (inr i) = apart x (inl refl) i

pub distinct_once : (xs : List ℕ) → ((p q x : ℕ) → slice_get xs p ≡ Some x → slice_get xs q ≡ Some x → p ≡ q) → Once xs
distinct_once [] distinct = tt
distinct_once (x ∷ xs) distinct = (new, distinct_once xs (λ p q y a b. back p q (distinct (suc p) (suc q) y a b)))
  where
    back : (p q : ℕ) → suc p ≡ suc q → p ≡ q
    back p q e = omega arith

    new : In x xs → ⊥
    new i = let (k, e) = in_at x xs i in let same = distinct 0 (suc k) x refl e in omega arith

pub dropped_once : (n : ℕ) (xs : List ℕ) → ((p q x : ℕ) → slice_get xs p ≡ Some x → slice_get xs q ≡ Some x → p ≡ q) → Once (drop n xs)
dropped_once n xs distinct = distinct_once (drop n xs) (λ p q x a b. back p q (distinct (p + n) (q + n) x (sym (at_dropped n xs p) ∙ a) (sym (at_dropped n xs q) ∙ b)))
  where
    back : (p q : ℕ) → p + n ≡ q + n → p ≡ q
    back p q e = omega arith

pub before_left : (i j : ℕ) (xs ys : List ℕ) → Before i j xs → Before i j (xs ++ ys)
before_left i j [] ys b = absurd b
before_left i j (x ∷ xs) ys (inl b) = inl (b.0, in_left j xs ys b.1)
before_left i j (x ∷ xs) ys (inr b) = inr (before_left i j xs ys b)

pub before_across : (i j : ℕ) (xs ys : List ℕ) → In i xs → In j ys → Before i j (xs ++ ys)
before_across i j [] ys a b = absurd a
before_across i j (x ∷ xs) ys (inl e) b = inl (e, in_right j xs ys b)
before_across i j (x ∷ xs) ys (inr a) b = inr (before_across i j xs ys a b)

-- ---- a list in which something is set

pub length_set : {A : Type 0} (xs : List A) (i : ℕ) (v : A) → length (slice_set xs i v) ≡ length xs
length_set [] i v = refl
length_set (x ∷ xs) zero v = refl
length_set (x ∷ xs) (suc i) v = ap suc (length_set xs i v)

pub set_here : {A : Type 0} (xs : List A) (i : ℕ) (v : A) → i < length xs → slice_get (slice_set xs i v) i ≡ Some v
set_here [] i v l = absurd (omega arith)
set_here (x ∷ xs) zero v l = refl
set_here (x ∷ xs) (suc i) v l = set_here xs i v (omega arith)

pub set_there : {A : Type 0} (xs : List A) (i j : ℕ) (v : A) → (i ≡ j → ⊥) → slice_get (slice_set xs i v) j ≡ slice_get xs j
set_there [] i j v d = refl
set_there (x ∷ xs) zero zero v d = absurd (d refl)
set_there (x ∷ xs) zero (suc j) v d = refl
set_there (x ∷ xs) (suc i) zero v d = refl
set_there (x ∷ xs) (suc i) (suc j) v d = set_there xs i j v (λ e. d (ap suc e))

-- ---- a list in which one thing is set at many places

abbrev pub set_all : {A : Type 0} → A → List A → List ℕ → List A
set_all v xs is = fold (λ ys i. slice_set ys i v) xs is

pub length_set_all : {A : Type 0} (v : A) (is : List ℕ) (xs : List A) → length (set_all v xs is) ≡ length xs
length_set_all v [] xs = refl
length_set_all v (i ∷ is) xs = length_set_all v is (slice_set xs i v) ∙ length_set xs i v

pub set_all_there : {A : Type 0} (v : A) (is : List ℕ) (xs : List A) (j : ℕ) → (In j is → ⊥) → slice_get (set_all v xs is) j ≡ slice_get xs j
set_all_there v [] xs j out = refl
set_all_there v (i ∷ is) xs j out = set_all_there v is (slice_set xs i v) j (λ k. out (inr k)) ∙ set_there xs i j v (λ e. out (inl (sym e)))

set_all_keeps : {A : Type 0} (v : A) (is : List ℕ) (xs : List A) (j : ℕ) → slice_get xs j ≡ Some v → slice_get (set_all v xs is) j ≡ Some v
set_all_keeps v [] xs j e = e
set_all_keeps v (i ∷ is) xs j e = set_all_keeps v is (slice_set xs i v) j (one (cases_eq i j))
  where
    one : (i ≡ j) ⊎ (i ≡ j → ⊥) → slice_get (slice_set xs i v) j ≡ Some v
    one (inl s) = subst (λ (k : ℕ). slice_get (slice_set xs k v) j ≡ Some v) (sym s) (set_here xs j v (slice_get_within xs j v e))
    one (inr d) = set_there xs i j v d ∙ e

pub set_all_here : {A : Type 0} (v : A) (is : List ℕ) (xs : List A) (j : ℕ) → In j is → j < length xs → slice_get (set_all v xs is) j ≡ Some v
set_all_here v [] xs j i l = absurd i
set_all_here v (k ∷ is) xs j (inl e) l = set_all_keeps v is (slice_set xs k v) j (subst (λ (m : ℕ). slice_get (slice_set xs m v) j ≡ Some v) e (set_here xs j v l))
set_all_here v (k ∷ is) xs j (inr i) l = set_all_here v is (slice_set xs k v) j i (subst (λ (m : ℕ). j < m) (sym (length_set xs k v)) l)
