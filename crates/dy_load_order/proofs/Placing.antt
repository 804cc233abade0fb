-- The place of each library in an order, where one more is put behind.
use Rattle.std.proofs.Common.{◌≡◌, ◌⊎◌, ℕ, suc, ◌+◌, ◌<◌, ◌≤◌, Bool, true, false, cond, eqb, List, [], ◌∷◌, ◌++◌, Option, Some, None, length, get_or, set, replicate, refl, sym, ap, subst, ◌∙◌, inl, inr, length-set, ne_eqb, eq-eqb, get_or-set_same, get_or-set_other, take, length-take-le, is_some, arith}
use Rattle.std.specs.List.{position_from}
use Rattle.std.proofs.lemmas.Bool.{cases_eq}
use Rattle.std.proofs.lemmas.List.{length-replicate, get_or-replicate, take_more, get_or_read}
use Rattle.std.proofs.lemmas.Iterator.Adapters.{position_from-zero}
use Rattle.dy_load_order.specs.LoadOrder.{place_in}

-- a place, or that of one more library behind so many, if that is the one
abbrev after : Option ℕ → Bool → ℕ → Option ℕ
after (Some place) is count = Some place
after None is count = cond is (Some count) None

from_more : (test : ℕ → Bool) (from : ℕ) (xs : List ℕ) (y : ℕ) → position_from test from (xs ++ y ∷ []) ≡ after (position_from test from xs) (test y) (from + length xs)
from_more test from [] y = ap (λ (count : ℕ). cond (test y) (Some count) None) (omega arith)
from_more test from (x ∷ xs) y = go (from_more test (from + 1) xs y) (test x)
  where
    go : position_from test (from + 1) (xs ++ y ∷ []) ≡ after (position_from test (from + 1) xs) (test y) (from + 1 + length xs)
        → (t : Bool) → cond t (Some from) (position_from test (from + 1) (xs ++ y ∷ [])) ≡ after (cond t (Some from) (position_from test (from + 1) xs)) (test y) (from + suc (length xs))
    go rest true = refl
    go rest false = rest ∙ ap (after (position_from test (from + 1) xs) (test y)) (omega arith)

place_more : (order : List ℕ) (y x : ℕ) → place_in (order ++ y ∷ []) x ≡ after (place_in order x) (eqb x y) (length order)
place_more order y x =
    position_from-zero (eqb x) (order ++ y ∷ []) ∙ from_more (eqb x) 0 order y
    ∙ ap (λ (place : Option ℕ). after place (eqb x y) (0 + length order)) (sym (position_from-zero (eqb x) order))
    ∙ ap (after (place_in order x) (eqb x y)) (omega arith)

after_other : (place : Option ℕ) (count : ℕ) → after place false count ≡ place
after_other (Some k) count = refl
after_other None count = refl

-- each of so many libraries has its place
pub record ArePlaces (count : ℕ) (order : List ℕ) (places : List (Option ℕ)) : Type 0 where
  pub long : length places ≡ count
  pub each : (x : ℕ) → x < count → get_or places x None ≡ place_in order x

pub no_places : (count : ℕ) → ArePlaces count [] (replicate count None)
no_places count = record {
  long = length-replicate count None;
  each = λ x l. get_or-replicate count x None None l;
}

other_place : (count : ℕ) (order : List ℕ) (places : List (Option ℕ)) (y x : ℕ) → ArePlaces count order places → x < count → (x ≡ y → ⊥) → get_or places x None ≡ place_in (order ++ y ∷ []) x
other_place count order places y x are l other =
    are.each x l
    ∙ sym (place_more order y x ∙ ap (λ (t : Bool). after (place_in order x) t (length order)) (ne_eqb x y other) ∙ after_other (place_in order x) (length order))

pub placed_new : (count : ℕ) (order : List ℕ) (places : List (Option ℕ)) (y place : ℕ) → ArePlaces count order places → length order ≡ place → y < count → get_or places y None ≡ None
    → ArePlaces count (order ++ y ∷ []) (set places y (Some place))
placed_new count order places y place are end l none = record {
  long = length-set places y (Some place) ∙ are.long;
  each = λ x m. at x m (cases_eq x y);
}
  where
    inside : y < length places
    inside = let e = are.long in omega arith

    here : place_in (order ++ y ∷ []) y ≡ Some place
    here =
        place_more order y y
        ∙ ap (λ (before : Option ℕ). after before (eqb y y) (length order)) (sym (are.each y l) ∙ none)
        ∙ ap (λ (t : Bool). after None t (length order)) (eq-eqb y y refl) ∙ ap Some end

    at : (x : ℕ) → x < count → (x ≡ y) ⊎ (x ≡ y → ⊥) → get_or (set places y (Some place)) x None ≡ place_in (order ++ y ∷ []) x
    at x m (inl e) =
        ap (λ (k : ℕ). get_or (set places y (Some place)) k None) e ∙ get_or-set_same places y (Some place) None inside
        ∙ sym (ap (place_in (order ++ y ∷ [])) e ∙ here)
    at x m (inr other) = get_or-set_other places y x (Some place) None other ∙ other_place count order places y x are m other

pub placed_old : (count : ℕ) (order : List ℕ) (places : List (Option ℕ)) (y : ℕ) → ArePlaces count order places → (y < count → (k : ℕ) × (get_or places y None ≡ Some k)) → ArePlaces count (order ++ y ∷ []) places
placed_old count order places y are old = record {
  long = are.long;
  each = λ x m. at x m (cases_eq x y);
}
  where
    stays : (k x : ℕ) → place_in order x ≡ Some k → place_in (order ++ y ∷ []) x ≡ Some k
    stays k x e = place_more order y x ∙ ap (λ (before : Option ℕ). after before (eqb x y) (length order)) e

    same : (x : ℕ) → x < count → (k : ℕ) × (get_or places x None ≡ Some k) → get_or places x None ≡ place_in (order ++ y ∷ []) x
    same x m (k, is) = is ∙ sym (stays k x (sym (are.each x m) ∙ is))

    at : (x : ℕ) → x < count → (x ≡ y) ⊎ (x ≡ y → ⊥) → get_or places x None ≡ place_in (order ++ y ∷ []) x
    at x m (inl e) = same x m (subst (λ (z : ℕ). (k : ℕ) × (get_or places z None ≡ Some k)) (sym e) (old (omega arith)))
    at x m (inr other) = other_place count order places y x are m other

-- ---- one turn, from what was read at the library's entry

none_is : (o : Option ℕ) → is_some o ≡ false → o ≡ None
none_is None e = refl
none_is (Some k) e = absurd cc

some_is : (o : Option ℕ) → is_some o ≡ true → (k : ℕ) × (o ≡ Some k)
some_is None e = absurd cc
some_is (Some k) e = (k, refl)

module _ (count : ℕ) (order : List ℕ) (places : List (Option ℕ)) (place : ℕ) (are : ArePlaces count (take place order) places) (within : place < length order) where
  taken : length (take place order) ≡ place
  taken = length-take-le place order (omega arith)

  one_more : take (place + 1) order ≡ take place order ++ get_or order place 0 ∷ []
  one_more = take_more order place 0 within

  entry : (o : Option ℕ) → get_or order place 0 < count → o ≡ get_or places (get_or order place 0) o → get_or places (get_or order place 0) None ≡ o
  entry o l e = let long = are.long in sym (get_or_read places (get_or order place 0) o (omega arith) e None)

  pub turn_new : (o : Option ℕ) → get_or order place 0 < count → o ≡ get_or places (get_or order place 0) o → is_some o ≡ false
      → ArePlaces count (take (place + 1) order) (set places (get_or order place 0) (Some place))
  turn_new o l e none =
      subst (λ (xs : List ℕ). ArePlaces count xs (set places (get_or order place 0) (Some place))) (sym one_more)
      (placed_new count (take place order) places (get_or order place 0) place are taken l (entry o l e ∙ none_is o none))

  pub turn_old : (o : Option ℕ) → o ≡ get_or places (get_or order place 0) o → is_some o ≡ true → ArePlaces count (take (place + 1) order) places
  turn_old o e some =
      let (k, is) = some_is o some in
      subst (λ (xs : List ℕ). ArePlaces count xs places) (sym one_more)
      (placed_old count (take place order) places (get_or order place 0) are (λ l. (k, entry o l e ∙ is)))

  pub turn_past : count ≤ get_or order place 0 → ArePlaces count (take (place + 1) order) places
  turn_past past =
      subst (λ (xs : List ℕ). ArePlaces count xs places) (sym one_more)
      (placed_old count (take place order) places (get_or order place 0) are (λ l. absurd (omega arith)))
