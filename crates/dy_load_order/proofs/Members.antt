-- Which libraries are in a list.
use Rattle.std.proofs.Common.{◌≡◌, ◌⊎◌, ℕ, suc, true, eqb, List, [], ◌∷◌, ◌++◌, get_or, take, drop, take-append-drop, subst, All, Contains, refl, sym, ◌∙◌, inl, inr, eqb-true, eq-eqb, arith}
use Rattle.std.proofs.lemmas.Bool.{or_cases, or_left, or_right}
use Rattle.std.proofs.lemmas.List.Elements.{All-contains}
use Rattle.std.proofs.lemmas.List.Folds.{list_any-append, list_any_at}
use Rattle.dy_load_order.specs.LoadOrder.{is_in}

pub in_head : (x : ℕ) (xs : List ℕ) → is_in (x ∷ xs) x ≡ true
in_head x xs = or_left (eqb x x) (is_in xs x) (eq-eqb x x refl)

pub in_tail : (y : ℕ) (xs : List ℕ) (x : ℕ) → is_in xs x ≡ true → is_in (y ∷ xs) x ≡ true
in_tail y xs x i = or_right (eqb x y) (is_in xs x) i

pub in_cases : (y : ℕ) (xs : List ℕ) (x : ℕ) → is_in (y ∷ xs) x ≡ true → (x ≡ y) ⊎ (is_in xs x ≡ true)
in_cases y xs x i = elim (or_cases (eqb x y) (is_in xs x) i) [ inl e ↦ inl (eqb-true x y e) | inr j ↦ inr j ]

pub in_more : (xs more : List ℕ) (x : ℕ) → is_in xs x ≡ true → is_in (xs ++ more) x ≡ true
in_more xs more x i = list_any-append (eqb x) xs more ∙ or_left (is_in xs x) (is_in more x) i

pub in_end : (xs : List ℕ) (x : ℕ) → is_in (xs ++ x ∷ []) x ≡ true
in_end xs x = list_any-append (eqb x) xs (x ∷ []) ∙ or_right (is_in xs x) (is_in (x ∷ []) x) (in_head x [])

pub in_parts : (xs : List ℕ) (y x : ℕ) → is_in (xs ++ y ∷ []) x ≡ true → (is_in xs x ≡ true) ⊎ (x ≡ y)
in_parts xs y x i = go (or_cases (is_in xs x) (is_in (y ∷ []) x) (sym (list_any-append (eqb x) xs (y ∷ [])) ∙ i))
  where
    last : (x ≡ y) ⊎ (is_in [] x ≡ true) → (is_in xs x ≡ true) ⊎ (x ≡ y)
    last (inl e) = inr e
    last (inr j) = absurd cc

    go : (is_in xs x ≡ true) ⊎ (is_in (y ∷ []) x ≡ true) → (is_in xs x ≡ true) ⊎ (x ≡ y)
    go (inl j) = inl j
    go (inr j) = last (in_cases y [] x j)

pub contains_in : (xs : List ℕ) (x : ℕ) → Contains xs x → is_in xs x ≡ true
contains_in xs x (k, within, same) = list_any_at (eqb x) xs k x within (eq-eqb x (get_or xs k x) (sym same))

pub in_contains : (xs : List ℕ) (x : ℕ) → is_in xs x ≡ true → Contains xs x
in_contains [] x i = absurd cc
in_contains (y ∷ ys) x i = go (in_contains ys x) (in_cases y ys x i)
  where
    later : Contains ys x → Contains (y ∷ ys) x
    later (k, within, same) = (suc k, omega arith, same)

    go : (is_in ys x ≡ true → Contains ys x) → (x ≡ y) ⊎ (is_in ys x ≡ true) → Contains (y ∷ ys) x
    go rest (inl e) = (0, omega arith, sym e)
    go rest (inr j) = later (rest j)

pub in_all : (P : ℕ → Type 0) (xs : List ℕ) (x : ℕ) → All P xs → is_in xs x ≡ true → P x
in_all P xs x all i = All-contains P xs x all (in_contains xs x i)

pub all_in : (P : ℕ → Type 0) (xs : List ℕ) → ((x : ℕ) → is_in xs x ≡ true → P x) → All P xs
all_in P xs each k d within = each (get_or xs k d) (list_any_at (eqb (get_or xs k d)) xs k d within (eq-eqb (get_or xs k d) (get_or xs k d) refl))

pub in_taken : (k : ℕ) (xs : List ℕ) (x : ℕ) → is_in (take k xs) x ≡ true → is_in xs x ≡ true
in_taken k xs x i = subst (λ ys. is_in ys x ≡ true) (take-append-drop k xs) (in_more (take k xs) (drop k xs) x i)
