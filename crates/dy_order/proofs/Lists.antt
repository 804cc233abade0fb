-- Membership, subsequences, and what is filtered.
use Rattle.std.proofs.Common.{◌≡◌, ℕ, zero, suc, ◌<◌, List, [], ◌∷◌, ◌++◌, ◌⊎◌, length, get_or, inl, inr, refl, sym, subst, arith}
use Rattle.dy_classes.specs.Lists.{In, first, next, Sub, done, keep, skip, Once}
use Rattle.dy_order.specs.Sorting.{Filtered, empty, kept, dropped}

module _ {A : Type 0} where
  pub sub_self : (xs : List A) → Sub xs xs
  sub_self [] = done
  sub_self (x ∷ xs) = keep (sub_self xs)

  pub sub_in : {xs ys : List A} {x : A} → Sub xs ys → In x xs → In x ys
  sub_in done i = elim i [ ]
  sub_in (keep s) first = first
  sub_in (keep s) (next i) = next (sub_in s i)
  sub_in (skip s) i = next (sub_in s i)

  pub sub_trans : {xs ys zs : List A} → Sub xs ys → Sub ys zs → Sub xs zs
  sub_trans done t = done
  sub_trans (keep s) (keep t) = keep (sub_trans s t)
  sub_trans (keep s) (skip t) = skip (sub_trans (keep s) t)
  sub_trans (skip s) (keep t) = skip (sub_trans s t)
  sub_trans (skip s) (skip t) = skip (sub_trans (skip s) t)

  pub sub_once : {xs ys : List A} → Sub xs ys → Once ys → Once xs
  sub_once done o = tt
  sub_once (keep s) o = (λ i. o.0 (sub_in s i), sub_once s o.1)
  sub_once (skip s) o = sub_once s o.1

  pub in_left : (xs ys : List A) (x : A) → In x xs → In x (xs ++ ys)
  in_left [] ys x i = elim i [ ]
  in_left (y ∷ xs) ys x first = first
  in_left (y ∷ xs) ys x (next i) = next (in_left xs ys x i)

  pub in_right : (xs ys : List A) (x : A) → In x ys → In x (xs ++ ys)
  in_right [] ys x i = i
  in_right (y ∷ xs) ys x i = next (in_right xs ys x i)

  pub in_either : (xs ys : List A) (x : A) → In x (xs ++ ys) → In x xs ⊎ In x ys
  in_either [] ys x i = inr i
  in_either (y ∷ xs) ys x first = inl first
  in_either (y ∷ xs) ys x (next i) = elim (in_either xs ys x i) [ inl j ↦ inl (next j) | inr j ↦ inr j ]

  pub only_in : (x y : A) → In x (y ∷ []) → x ≡ y
  only_in x y first = refl
  only_in x y (next i) = elim i [ ]

  pub append_once : (xs ys : List A) → Once xs → Once ys → ((x : A) → In x xs → In x ys → ⊥) → Once (xs ++ ys)
  append_once [] ys o p apart = p
  append_once (x ∷ xs) ys o p apart =
      (λ i. elim (in_either xs ys x i) [ inl j ↦ o.0 j | inr j ↦ apart x first j ], append_once xs ys o.1 p (λ y i j. apart y (next i) j))

  pub in_get : (xs : List A) (i : ℕ) (d : A) → i < length xs → In (get_or xs i d) xs
  in_get [] i d h = absurd (omega arith)
  in_get (x ∷ xs) zero d h = first
  in_get (x ∷ xs) (suc i) d h = next (in_get xs i d (omega arith))

  pub place_in : (xs : List A) (x d : A) → In x xs → (k : ℕ) × (k < length xs) × (get_or xs k d ≡ x)
  place_in [] x d i = elim i [ ]
  place_in (y ∷ xs) x d first = (0, omega arith, refl)
  place_in (y ∷ xs) x d (next i) = let (k, h, e) = place_in xs x d i in (suc k, omega arith, e)

  -- what stands at two places of a list that has each once is not one
  pub once_apart : (xs : List A) (i j : ℕ) (d : A) → Once xs → i < j → j < length xs → get_or xs i d ≡ get_or xs j d → ⊥
  once_apart [] i j d o h k e = absurd (omega arith)
  once_apart (x ∷ xs) zero zero d o h k e = absurd (omega arith)
  once_apart (x ∷ xs) zero (suc j) d o h k e = o.0 (subst (λ (v : A). In v xs) (sym e) (in_get xs j d (omega arith)))
  once_apart (x ∷ xs) (suc i) zero d o h k e = absurd (omega arith)
  once_apart (x ∷ xs) (suc i) (suc j) d o h k e = once_apart xs i j d o.1 (omega arith) (omega arith) e

  module _ (P : A → Type 0) where
    pub filtered_append : {xs ys zs ws : List A} → Filtered P xs ys → Filtered P zs ws → Filtered P (xs ++ zs) (ys ++ ws)
    filtered_append empty g = g
    filtered_append (kept p f) g = kept p (filtered_append f g)
    filtered_append (dropped p f) g = dropped p (filtered_append f g)

    pub filtered_sub : {xs ys : List A} → Filtered P xs ys → Sub ys xs
    filtered_sub empty = done
    filtered_sub (kept p f) = keep (filtered_sub f)
    filtered_sub (dropped p f) = skip (filtered_sub f)

    pub filtered_holds : {xs ys : List A} → Filtered P xs ys → (x : A) → In x ys → P x
    filtered_holds empty x i = elim i [ ]
    filtered_holds (kept p f) x first = p
    filtered_holds (kept p f) x (next i) = filtered_holds f x i
    filtered_holds (dropped p f) x i = filtered_holds f x i

    pub filtered_has : {xs ys : List A} → Filtered P xs ys → (x : A) → In x xs → P x → In x ys
    filtered_has empty x i p = elim i [ ]
    filtered_has (kept q f) x first p = first
    filtered_has (kept q f) x (next i) p = next (filtered_has f x i p)
    filtered_has (dropped q f) x first p = absurd (q p)
    filtered_has (dropped q f) x (next i) p = filtered_has f x i p

    pub filtered_one : {xs ys zs : List A} → Filtered P xs ys → Filtered P xs zs → ys ≡ zs
    filtered_one empty empty = refl
    filtered_one (kept {x = x} p f) (kept q g) = λ i. x ∷ filtered_one f g i
    filtered_one (kept p f) (dropped q g) = absurd (q p)
    filtered_one (dropped p f) (kept q g) = absurd (p q)
    filtered_one (dropped p f) (dropped q g) = filtered_one f g

    -- one of which P does not hold, put in or left out
    pub put_in : (before after : List A) (x : A) (ys : List A) → (P x → ⊥) → Filtered P (before ++ after) ys → Filtered P (before ++ x ∷ after) ys
    put_in [] after x ys out f = dropped out f
    put_in (y ∷ before) after x ys out (kept {ys = zs} p f) = kept p (put_in before after x zs out f)
    put_in (y ∷ before) after x ys out (dropped p f) = dropped p (put_in before after x ys out f)

    pub leave_out : (before after : List A) (x : A) (ys : List A) → (P x → ⊥) → Filtered P (before ++ x ∷ after) ys → Filtered P (before ++ after) ys
    leave_out [] after x ys out (kept p f) = absurd (out p)
    leave_out [] after x ys out (dropped p f) = f
    leave_out (y ∷ before) after x ys out (kept {ys = zs} p f) = kept p (leave_out before after x zs out f)
    leave_out (y ∷ before) after x ys out (dropped p f) = dropped p (leave_out before after x ys out f)
