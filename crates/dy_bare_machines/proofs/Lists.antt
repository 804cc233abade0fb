-- Mapped lists: how many items pass a test, whether one does, and which do. Functions that agree where
-- a test leads.
use Rattle.std.proofs.Common.{◌≡◌, ℕ, ◌+◌, Bool, true, false, cond, ◌||◌, List, [], ◌∷◌, ◌++◌, map, refl, ap, ◌∙◌, fold}
use Rattle.std.specs.Prelude.{count_by, flat_map}
use Rattle.std.specs.List.{filter, list_any}

module _ {A B : Type 0} (f : A → B) (p : B → Bool) (q : A → Bool) (same : (x : A) → p (f x) ≡ q x) where
  counted : (n : ℕ) (xs : List A) → fold (λ a y. a + cond (p y) 1 0) n (map f xs) ≡ fold (λ a x. a + cond (q x) 1 0) n xs
  counted n [] = refl
  counted n (x ∷ xs) = ap (λ b. fold (λ a y. a + cond (p y) 1 0) (n + cond b 1 0) (map f xs)) (same x) ∙ counted (n + cond (q x) 1 0) xs

  pub count_mapped : (xs : List A) → count_by p (map f xs) ≡ count_by q xs
  count_mapped xs = counted 0 xs

  kept_if : (b : Bool) (x : A) (ys : List B) (xs : List A) → ys ≡ map f xs → cond b (f x ∷ ys) ys ≡ map f (cond b (x ∷ xs) xs)
  kept_if true x ys xs e = ap (λ (zs : List B). f x ∷ zs) e
  kept_if false x ys xs e = e

  pub filter_mapped : (xs : List A) → filter p (map f xs) ≡ map f (filter q xs)
  filter_mapped [] = refl
  filter_mapped (x ∷ xs) = ap (λ b. cond b (f x ∷ filter p (map f xs)) (filter p (map f xs))) (same x) ∙ kept_if (q x) x (filter p (map f xs)) (filter q xs) (filter_mapped xs)

-- the same test
pub any_same : {A : Type 0} (p q : A → Bool) → ((x : A) → p x ≡ q x) → (xs : List A) → list_any p xs ≡ list_any q xs
any_same p q same [] = refl
any_same p q same (x ∷ xs) = λ j. same x j || any_same p q same xs j

-- the same lists, joined
pub flat_same : {A B : Type 0} (f g : A → List B) → ((x : A) → f x ≡ g x) → (xs : List A) → flat_map f xs ≡ flat_map g xs
flat_same f g same [] = refl
flat_same f g same (x ∷ xs) = λ j. same x j ++ flat_same f g same xs j

pub same_if : {A B : Type 0} (f g : A → B) (b : Bool) (x y : A) → f x ≡ g x → f y ≡ g y → f (cond b x y) ≡ g (cond b x y)
same_if f g true x y e h = e
same_if f g false x y e h = h
