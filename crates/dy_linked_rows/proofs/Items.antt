-- Lists without repetition, and places in them, where each item is renumbered and can be told again.
use Rattle.std.proofs.Common.{◌≡◌, ℕ, ◌+◌, Bool, true, false, cond, not, true≢false, nat_lt, List, [], ◌∷◌, length, map, Option, Some, None, unwrap_or, refl, sym, ap, ◌∙◌}
use Rattle.std.specs.Prelude.{filter, position}
use Rattle.std.specs.List.{prefix_len}
use Rattle.std.proofs.lemmas.List.{length-map}
use Rattle.dy_code.specs.Validity.{Every}
use Rattle.dy_lowered.specs.Tables.{distinct, index_in}
use Rattle.dy_sameness.proofs.Sameness.{Tells}
use Rattle.dy_linked_rows.proofs.Every.{every_filtered}

truth_same : (a b : Bool) → (a ≡ true → b ≡ true) → (b ≡ true → a ≡ true) → a ≡ b
truth_same true true f g = refl
truth_same true false f g = sym (f refl)
truth_same false true f g = g refl
truth_same false false f g = refl

module _ {A : Type 0} (same : A → A → Bool) (tells : Tells same) (f g : A → A) where
  abbrev pub Back : A → Type 0
  Back x = g (f x) ≡ x

  kept : (x y : A) → Back x → Back y → same (f x) (f y) ≡ same x y
  kept x y p q = truth_same (same (f x) (f y)) (same x y)
      (λ e. let h : f x ≡ f y = tells.equal (f x) (f y) e in let z : y ≡ x = sym q ∙ (sym (ap g h) ∙ p) in ap (same x) z ∙ tells.itself x)
      (λ e. let z : x ≡ y = tells.equal x y e in ap (λ (w : A). same (f x) (f w)) (sym z) ∙ tells.itself (f x))

  cond_mapped : (is : Bool) (y : A) (ys : List A) → cond is (f y ∷ map f ys) (map f ys) ≡ map f (cond is (y ∷ ys) ys)
  cond_mapped true y ys = refl
  cond_mapped false y ys = refl

  filter_mapped : (x : A) → Back x → (ys : List A) → Every Back ys → filter (λ other. not (same (f x) other)) (map f ys) ≡ map f (filter (λ other. not (same x other)) ys)
  filter_mapped x p [] all = refl
  filter_mapped x p (y ∷ ys) all =
      (λ j. cond (not (kept x y p all.0 j)) (f y ∷ filter_mapped x p ys all.1 j) (filter_mapped x p ys all.1 j))
      ∙ cond_mapped (not (same x y)) y (filter (λ other. not (same x other)) ys)

  pub every_distinct : (xs : List A) → Every Back xs → Every Back (distinct same xs)
  every_distinct [] all = tt
  every_distinct (x ∷ xs) all = (all.0, every_filtered Back (λ other. not (same x other)) (distinct same xs) (every_distinct xs all.1))

  pub distinct_mapped : (xs : List A) → Every Back xs → distinct same (map f xs) ≡ map f (distinct same xs)
  distinct_mapped [] all = refl
  distinct_mapped (x ∷ xs) all =
      (λ j. f x ∷ filter (λ other. not (same (f x) other)) (distinct_mapped xs all.1 j))
      ∙ ap (λ (ys : List A). f x ∷ ys) (filter_mapped x all.0 (distinct same xs) (every_distinct xs all.1))

  prefix_mapped : (x : A) → Back x → (xs : List A) → Every Back xs → prefix_len (λ other. not (same (f x) other)) (map f xs) ≡ prefix_len (λ other. not (same x other)) xs
  prefix_mapped x p [] all = refl
  prefix_mapped x p (y ∷ ys) all = λ j. cond (not (kept x y p all.0 j)) (1 + prefix_mapped x p ys all.1 j) 0

  pub index_mapped : (x : A) (xs : List A) → Back x → Every Back xs → index_in same (f x) (map f xs) ≡ index_in same x xs
  index_mapped x xs p all =
      let at = prefix_mapped x p xs all in
      let long = length-map xs f in
      λ j. unwrap_or (cond (nat_lt (at j) (long j)) (Some (at j)) None) (long j)
