-- Laws of membership, of what stands before what, and of subsequences.
use Rattle.std.proofs.Common.{◌≡◌, List, [], ◌∷◌, ◌++◌, ◌⊎◌, map, inl, inr, refl}
use Rattle.dy_base.specs.declared.ids.ClassId.{ClassId}
use Rattle.dy_base.specs.Orders.{is_class}
use Rattle.dy_classes.proofs.Classes.{class_tells, class_itself, class_equal}
use Rattle.dy_classes.specs.Lists.{In, first, next, Before, now, later, Sub, done, keep, skip, Once}
use Rattle.dy_classes.specs.Merge.{onto}

pub sub_self : (xs : List ClassId) → Sub xs xs
sub_self [] = done
sub_self (x ∷ xs) = keep (sub_self xs)

pub sub_in : {xs ys : List ClassId} {x : ClassId} → Sub xs ys → In x xs → In x ys
sub_in done i = elim i [ ]
sub_in (keep s) first = first
sub_in (keep s) (next i) = next (sub_in s i)
sub_in (skip s) i = next (sub_in s i)

pub sub_before : {xs ys : List ClassId} {z x : ClassId} → Sub xs ys → Before z x xs → Before z x ys
sub_before done b = elim b [ ]
sub_before (keep s) (now i) = now (sub_in s i)
sub_before (keep s) (later b) = later (sub_before s b)
sub_before (skip s) b = later (sub_before s b)

pub sub_trans : {xs ys zs : List ClassId} → Sub xs ys → Sub ys zs → Sub xs zs
sub_trans done t = done
sub_trans (keep s) (keep t) = keep (sub_trans s t)
sub_trans (keep s) (skip t) = skip (sub_trans (keep s) t)
sub_trans (skip s) (keep t) = skip (sub_trans s t)
sub_trans (skip s) (skip t) = skip (sub_trans (skip s) t)

pub before_first : {xs : List ClassId} {z x : ClassId} → Before z x xs → In z xs
before_first (now i) = first
before_first (later b) = next (before_first b)

pub before_last : {xs : List ClassId} {z x : ClassId} → Before z x xs → In x xs
before_last (now i) = next i
before_last (later b) = next (before_last b)

-- two elements of a list: one comes before the other, or they are one
pub pairs : {xs : List ClassId} {x y : ClassId} → In x xs → In y xs → (x ≡ y) ⊎ (Before x y xs ⊎ Before y x xs)
pairs first first = inl refl
pairs first (next j) = inr (inl (now j))
pairs (next i) first = inr (inr (now i))
pairs (next i) (next j) = elim (pairs i j) [ inl e ↦ inl e | inr b ↦ elim b [ inl b ↦ inr (inl (later b)) | inr b ↦ inr (inr (later b)) ] ]

-- x is not before itself where each stands once
pub once_at : (f g : List ClassId) (z x : ClassId) → Once (f ++ x ∷ g) → Before z x (f ++ x ∷ g) → In z f
once_at [] g z x o (now i) = absurd (o.0 i)
once_at [] g z x o (later b) = absurd (o.0 (before_last b))
once_at (a ∷ f) g z x o (now i) = first
once_at (a ∷ f) g z x o (later b) = next (once_at f g z x o.1 b)

pub in_map : {A B : Type 0} {xs : List A} {x : A} (f : A → B) → In x xs → In (f x) (map f xs)
in_map f first = first
in_map f (next i) = next (in_map f i)

pub in_mapped : {A B : Type 0} (xs : List A) (f : A → B) (m : B) → In m (map f xs) → (x : A) × In x xs × (m ≡ f x)
in_mapped [] f m i = elim i [ ]
in_mapped (x ∷ xs) f m first = (x, first, refl)
in_mapped (x ∷ xs) f m (next i) = let (y, j, e) = in_mapped xs f m i in (y, next j, e)

-- `onto listed l` has what is listed and what is in l
pub onto_in : (listed l : List ClassId) (x : ClassId) → In x (onto listed l) → In x listed ⊎ In x l
onto_in [] l x i = inr i
onto_in (y ∷ listed) l x i = elim (onto_in listed (y ∷ l) x i) [ inl j ↦ inl (next j) | inr j ↦ head_or y l x listed j ]
  where
    head_or : (y : ClassId) (l : List ClassId) (x : ClassId) (listed : List ClassId) → In x (y ∷ l) → In x (y ∷ listed) ⊎ In x l
    head_or y l x listed first = inl first
    head_or y l x listed (next i) = inr i

pub in_onto : (listed l : List ClassId) (x : ClassId) → In x listed ⊎ In x l → In x (onto listed l)
in_onto [] l x (inl i) = elim i [ ]
in_onto [] l x (inr i) = i
in_onto (y ∷ listed) l x (inl first) = in_onto listed (y ∷ l) y (inr first)
in_onto (y ∷ listed) l x (inl (next i)) = in_onto listed (y ∷ l) x (inl i)
in_onto (y ∷ listed) l x (inr i) = in_onto listed (y ∷ l) x (inr (next i))

split_first : (y : ClassId) (f : List ClassId) (z : ClassId) (listed : List ClassId) → In z (y ∷ f) → In z (y ∷ listed) ⊎ In z f
split_first y f z listed first = inl first
split_first y f z listed (next i) = inr i

-- what stands before x, which comes next
pub onto_before : (listed f g : List ClassId) (z x : ClassId) → Once (onto listed (f ++ x ∷ g)) → Before z x (onto listed (f ++ x ∷ g)) → In z listed ⊎ In z f
onto_before [] f g z x o b = inr (once_at f g z x o b)
onto_before (y ∷ listed) f g z x o b =
    elim (onto_before listed (y ∷ f) g z x o b) [ inl i ↦ inl (next i) | inr i ↦ split_first y f z listed i ]

-- where each stands once, what comes next is not listed
pub once_tail : (listed l : List ClassId) → Once (onto listed l) → Once l
once_tail [] l o = o
once_tail (y ∷ listed) l o = (once_tail listed (y ∷ l) o).1

pub once_fresh : (listed l : List ClassId) (x : ClassId) → Once (onto listed l) → In x listed → In x l → ⊥
once_fresh [] l x o i j = elim i [ ]
once_fresh (y ∷ listed) l x o first j = (once_tail listed (y ∷ l) o).0 j
once_fresh (y ∷ listed) l x o (next i) j = once_fresh listed (y ∷ l) x o i (next j)

pub onto_once : (listed l : List ClassId) → Once listed → Once l → ((x : ClassId) → In x listed → In x l → ⊥) → Once (onto listed l)
onto_once [] l a b apart = b
onto_once (y ∷ listed) l a b apart =
    onto_once listed (y ∷ l) a.1 (λ i. apart y first i, b) (λ x i j. rest_apart y l x listed a.0 (apart x (next i)) i j)
  where
    rest_apart : (y : ClassId) (l : List ClassId) (x : ClassId) (listed : List ClassId) → (In y listed → ⊥) → (In x l → ⊥) → In x listed → In x (y ∷ l) → ⊥
    rest_apart y l x listed out none i first = out i
    rest_apart y l x listed out none i (next j) = none j
