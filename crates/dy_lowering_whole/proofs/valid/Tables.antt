-- An item of a list stands in its table, at the place that is written.
use Rattle.std.proofs.Common.{◌≡◌, ◌⊎◌, inl, inr, ℕ, zero, suc, ◌+◌, ◌<◌, Bool, true, false, true≢false, not, cond, List, [], ◌∷◌, ◌++◌, length, Option, Some, None, slice_get, refl, sym, ap, ◌∙◌, subst, arith}
use Rattle.std.specs.Prelude.{nat_lt, filter, filter_map, flat_map, unwrap_or}
use Rattle.std.specs.List.{cons_option, position_or_len}
use Rattle.std.proofs.lemmas.Option.{slice_get_within, same_Some, none-some}
use Rattle.dy_lowered.specs.Tables.{distinct, index_in}
use Rattle.dy_lowering_whole.proofs.valid.Sameness.{Tells}

abbrev pub IsIn : {A : Type 0} → A → List A → Type 0
IsIn x [] = ⊥
IsIn x (y ∷ ys) = (x ≡ y) ⊎ IsIn x ys

pub lt_true : (n m : ℕ) → n < m → nat_lt n m ≡ true
lt_true n m h = grind (arith, h)

pub in_from_get : {A : Type 0} (xs : List A) (k : ℕ) (x : A) → slice_get xs k ≡ Some x → IsIn x xs
in_from_get [] k x e = none-some x e
in_from_get (y ∷ xs) zero x e = inl (sym (same_Some y x e))
in_from_get (y ∷ xs) (suc k) x e = inr (in_from_get xs k x e)

pub in_front : {A : Type 0} (x : A) (xs ys : List A) → IsIn x xs → IsIn x (xs ++ ys)
in_front x [] ys h = absurd h
in_front x (y ∷ xs) ys (inl e) = inl e
in_front x (y ∷ xs) ys (inr h) = inr (in_front x xs ys h)

pub in_back : {A : Type 0} (x : A) (xs ys : List A) → IsIn x ys → IsIn x (xs ++ ys)
in_back x [] ys h = h
in_back x (y ∷ xs) ys h = inr (in_back x xs ys h)

pub in_flat_map : {A B : Type 0} (f : A → List B) (xs : List A) (x : A) (y : B) → IsIn x xs → IsIn y (f x) → IsIn y (flat_map f xs)
in_flat_map f [] x y h k = absurd h
in_flat_map f (z ∷ xs) x y (inl e) k = in_front y (f z) (flat_map f xs) (subst (λ w. IsIn y (f w)) e k)
in_flat_map f (z ∷ xs) x y (inr h) k = in_back y (f z) (flat_map f xs) (in_flat_map f xs x y h k)

-- what is made of an item is in the list of what is made
made_first : {B : Type 0} (o : Option B) (y : B) (ys : List B) → o ≡ Some y → IsIn y (cons_option o ys)
made_first None y ys e = absurd (none-some y e)
made_first (Some z) y ys e = inl (sym (same_Some z y e))

made_later : {B : Type 0} (o : Option B) (y : B) (ys : List B) → IsIn y ys → IsIn y (cons_option o ys)
made_later None y ys h = h
made_later (Some z) y ys h = inr h

pub in_filter_map : {A B : Type 0} (make : A → Option B) (xs : List A) (x : A) (y : B) → IsIn x xs → make x ≡ Some y → IsIn y (filter_map make xs)
in_filter_map make [] x y h e = absurd h
in_filter_map make (z ∷ xs) x y (inl p) e = made_first (make z) y (filter_map make xs) (ap make (sym p) ∙ e)
in_filter_map make (z ∷ xs) x y (inr h) e = made_later (make z) y (filter_map make xs) (in_filter_map make xs x y h e)

module _ {A : Type 0} where
  kept_later : (x y : A) (b : Bool) (ks : List A) → IsIn x ks → IsIn x (cond b (y ∷ ks) ks)
  kept_later x y true ks h = inr h
  kept_later x y false ks h = h

  kept_first : (x y : A) (b : Bool) (ks : List A) → x ≡ y → b ≡ true → IsIn x (cond b (y ∷ ks) ks)
  kept_first x y true ks e t = inl e
  kept_first x y false ks e t = absurd (true≢false (sym t))

  in_filter : (x : A) (test : A → Bool) (ys : List A) → IsIn x ys → test x ≡ true → IsIn x (filter test ys)
  in_filter x test [] h t = absurd h
  in_filter x test (y ∷ ys) (inl e) t = kept_first x y (test y) (filter test ys) e (ap test (sym e) ∙ t)
  in_filter x test (y ∷ ys) (inr h) t = kept_later x y (test y) (filter test ys) (in_filter x test ys h t)

module _ {A : Type 0} (same : A → A → Bool) (tells : Tells same) where
  in_rest : (x y : A) (ds : List A) (b : Bool) → same y x ≡ b → IsIn x ds → IsIn x (y ∷ filter (λ other. not (same y other)) ds)
  in_rest x y ds true e h = inl (sym (tells.equal y x e))
  in_rest x y ds false e h = inr (in_filter x (λ other. not (same y other)) ds h (ap not e))

  pub in_distinct : (x : A) (ys : List A) → IsIn x ys → IsIn x (distinct same ys)
  in_distinct x [] h = absurd h
  in_distinct x (y ∷ ys) (inl e) = inl e
  in_distinct x (y ∷ ys) (inr h) = in_rest x y (distinct same ys) (same y x) refl (in_distinct x ys h)

  -- where the item stands that is looked for
  found : (x y : A) (ys : List A) (b : Bool) → same x y ≡ b → (b ≡ false → slice_get ys (position_or_len (same x) ys) ≡ Some x) → slice_get (y ∷ ys) (cond (not b) (1 + position_or_len (same x) ys) 0) ≡ Some x
  found x y ys true e k = ap Some (sym (tells.equal x y e))
  found x y ys false e k =
      let n = position_or_len (same x) ys in
      let one_more : 1 + n ≡ suc n = omega arith in
      ap (λ (m : ℕ). slice_get (y ∷ ys) m) one_more ∙ k refl

  at_position : (x : A) (ys : List A) → IsIn x ys → slice_get ys (position_or_len (same x) ys) ≡ Some x
  at_position x [] h = absurd h
  at_position x (y ∷ ys) (inl e) = found x y ys (same x y) refl (λ f. absurd (true≢false (sym (ap (same x) (sym e) ∙ tells.itself x) ∙ f)))
  at_position x (y ∷ ys) (inr h) = found x y ys (same x y) refl (λ f. at_position x ys h)

  pub at_index : (x : A) (ys : List A) → IsIn x ys → slice_get ys (index_in same x ys) ≡ Some x
  at_index x ys h =
      let n = position_or_len (same x) ys in
      let at = at_position x ys h in
      let within = slice_get_within ys n x at in
      ap (λ (b : Bool). slice_get ys (unwrap_or (cond b (Some n) None) (length ys))) (lt_true n (length ys) within) ∙ at
