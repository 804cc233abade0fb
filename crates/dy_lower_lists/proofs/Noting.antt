-- Lists in which each item stands once, where one more instruction comes behind the others.
use Rattle.std.proofs.Common.{◌≡◌, ℕ, Bool, true, false, ◌||◌, cond, List, [], ◌∷◌, ◌++◌, map, Option, Some, None, refl, sym, ap, ◌∙◌}
use Rattle.std.specs.Prelude.{not, filter, filter_map, if◌then◌else◌}
use Rattle.std.specs.List.{list_any, cons_option}
use Rattle.std.proofs.lemmas.List.{append-nil}
use Rattle.std.proofs.lemmas.List.Elements.{filter-append}
use Rattle.indexmap.specs.IndexSet.{insert_key}
use Rattle.dy_values.specs.Identity.{is_same_binding}
use Rattle.dy_code.specs.Fetching.{Instruction}
use Rattle.dy_lowered.specs.Items.{constant_of, name_of, bound_of, list_of, type_of, results_of}
use Rattle.dy_lowered.specs.Sameness.{is_same_literal, is_same_bound, is_same_params, is_same_type, is_same_results}
use Rattle.dy_lowered.specs.Tables.{Tables, distinct, tables_of}
use Rattle.dy_sameness.proofs.Equivalence.{equivalence}
use Rattle.dy_sameness.proofs.Sameness.{Tells, tells_literal, tells_binding, tells_bound, tells_params, tells_type, tells_results}
use Rattle.dy_lower_lists.specs.Listed.{with_item, noted}

module _ {A : Type 0} (same : A → A → Bool) (tells : Tells same) where
  turned : (x y : A) (b : Bool) → same x y ≡ b → same y x ≡ b
  turned x y b e = (equivalence same tells (λ (z : A). z)).symm y x ∙ e

  abbrev is_other : A → A → Bool
  is_other y o = not (same y o)

  any_kept : (x y d : A) (b : Bool) (rest all : List A) → same y d ≡ b → same x y ≡ false → list_any (same x) rest ≡ list_any (same x) all
      → list_any (same x) (cond (not b) (d ∷ rest) rest) ≡ (same x d || list_any (same x) all)
  any_kept x y d true rest all h e r =
      let none : same x d ≡ false = ap (λ z. same x z) (sym (tells.equal y d h)) ∙ e in
      r ∙ ap (λ (b : Bool). b || list_any (same x) all) (sym none)
  any_kept x y d false rest all h e r = ap (λ (b : Bool). same x d || b) r

  -- an item stands in a list where it does without another one
  any_left : (x y : A) (ds : List A) → same x y ≡ false → list_any (same x) (filter (is_other y) ds) ≡ list_any (same x) ds
  any_left x y [] e = refl
  any_left x y (d ∷ ds) e = any_kept x y d (same y d) (filter (is_other y) ds) ds refl e (any_left x y ds e)

  left_out : (x y : A) (ds : List A) (a : Bool) → same y x ≡ true → filter (is_other y) (if a then ds else ds ++ x ∷ []) ≡ filter (is_other y) ds
  left_out x y ds true e = refl
  left_out x y ds false e =
      filter-append (is_other y) ds (x ∷ []) ∙ ap (λ (c : Bool). filter (is_other y) ds ++ cond (not c) (x ∷ []) []) e ∙ append-nil (filter (is_other y) ds)

  kept_in : (x y : A) (ds : List A) (a : Bool) → same y x ≡ false
      → y ∷ filter (is_other y) (if a then ds else ds ++ x ∷ []) ≡ (if a then y ∷ filter (is_other y) ds else (y ∷ filter (is_other y) ds) ++ x ∷ [])
  kept_in x y ds true e = refl
  kept_in x y ds false e =
      ap (λ (r : List A). y ∷ r) (filter-append (is_other y) ds (x ∷ []) ∙ ap (λ (c : Bool). filter (is_other y) ds ++ cond (not c) (x ∷ []) []) e)

  abbrev inserting : A → A → List A → Bool → Bool → List A
  inserting x y kept b c = if (b || c) then y ∷ kept else (y ∷ kept) ++ x ∷ []

  pushed : (x y : A) (ds : List A) (b : Bool) → same x y ≡ b → y ∷ filter (is_other y) (insert_key same ds x) ≡ insert_key same (y ∷ filter (is_other y) ds) x
  pushed x y ds true h =
      let kept = filter (is_other y) ds in
      ap (λ (r : List A). y ∷ r) (left_out x y ds (list_any (same x) ds) (turned x y true h))
      ∙ ap (λ (b : Bool). inserting x y kept b (list_any (same x) kept)) (sym h)
  pushed x y ds false h =
      let kept = filter (is_other y) ds in
      kept_in x y ds (list_any (same x) ds) (turned x y false h)
      ∙ ap (λ (c : Bool). inserting x y kept false c) (sym (any_left x y ds h))
      ∙ ap (λ (b : Bool). inserting x y kept b (list_any (same x) kept)) (sym h)

  pub distinct_push : (xs : List A) (x : A) → distinct same (xs ++ x ∷ []) ≡ insert_key same (distinct same xs) x
  distinct_push [] x = refl
  distinct_push (y ∷ ys) x = ap (λ (ds : List A). y ∷ filter (is_other y) ds) (distinct_push ys x) ∙ pushed x y (distinct same ys) (same x y) refl

  with_last : (o : Option A) (ys : List A) → distinct same (ys ++ cons_option o []) ≡ with_item same (distinct same ys) o
  with_last None ys = ap (distinct same) (append-nil ys)
  with_last (Some x) ys = distinct_push ys x

  pub collected : {B : Type 0} (make : B → Option A) (xs : List B) (b : B) → distinct same (filter_map make (xs ++ b ∷ [])) ≡ with_item same (distinct same (filter_map make xs)) (make b)
  collected {B} make xs b = ap (distinct same) (made xs) ∙ with_last (make b) (filter_map make xs)
    where
      behind : (o : Option A) (ys zs : List A) → cons_option o (ys ++ zs) ≡ cons_option o ys ++ zs
      behind None ys zs = refl
      behind (Some y) ys zs = refl

      made : (ys : List B) → filter_map make (ys ++ b ∷ []) ≡ filter_map make ys ++ cons_option (make b) []
      made [] = refl
      made (y ∷ ys) = ap (cons_option (make y)) (made ys) ∙ behind (make y) (filter_map make ys) (cons_option (make b) [])

-- the lists of code with one more instruction
pub tables_push : (before : List Instruction) (i : Instruction) → tables_of (before ++ i ∷ []) ≡ noted (tables_of before) i
tables_push before i =
    let a = collected is_same_literal tells_literal constant_of before i in
    let b = collected is_same_binding tells_binding name_of before i in
    let c = collected is_same_bound tells_bound bound_of before i in
    let d = collected is_same_params tells_params list_of before i in
    let e = collected is_same_type tells_type type_of before i in
    let f = collected is_same_results tells_results results_of before i in
    λ j. record { constants = a j; names = b j; bound = c j; lists = d j; types = e j; results = f j }
