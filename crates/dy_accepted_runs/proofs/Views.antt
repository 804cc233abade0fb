-- Which libraries are in a view.
use Rattle.std.proofs.Common.{◌≡◌, ◌≢◌, ◌⊎◌, inl, inr, ℕ, suc, ◌+◌, ◌<◌, ◌≤◌, true, false, true≢false, eqb, eq-eqb, List, [], ◌∷◌, ◌++◌, map, length, get_or, All, Contains, refl, sym, ap, ◌∙◌, subst, arith}
use Rattle.std.specs.List.{IsDistinct}
use Rattle.std.proofs.lemmas.Bool.{cases_lt}
use Rattle.std.proofs.lemmas.List.{get_or_append_left, get_or_at, get_or_push, length_push}
use Rattle.std.proofs.lemmas.List.Elements.{Contains-get_or}
use Rattle.std.proofs.lemmas.Map.Keys.{apart_from_distinct}
use Rattle.dy_code.specs.Validity.{Every}
use Rattle.dy_load_order.specs.LoadOrder.{is_in, load_order}
use Rattle.dy_load_order.proofs.Members.{contains_in}
use Rattle.dy_load_order.proofs.Keeping.{only}
use Rattle.dy_load_order.proofs.Lawful.{main_is_last, none_is_twice}
use Rattle.dy_views.specs.declared.compiled.Compiled.{Compiled}
use Rattle.dy_views.specs.Views.{order_of, AreCompiled, AreThere}
use Rattle.dy_views.specs.Laws.{view_at}
use Rattle.dy_views.proofs.Standing.{next_earlier, seen_are_small}
use Rattle.dy_accepted_runs.proofs.Lists.{every_of}

-- ---- of a library that was compiled

module _ (c : Compiled) (are : AreCompiled c) (k : ℕ) (low : k < length c.exports) where
  pub loaded : view_at c k ≡ load_order c.uses k
  loaded = let long = are.orders in are.loaded k (omega (arith, low, long))

  -- a view has no library of a greater number
  pub seen_low : (m : ℕ) → Contains (view_at c k) m → m ≤ k
  seen_low m has = go (only c.uses are.earlier (suc k) k [] m (omega arith) (subst (λ (xs : List ℕ). is_in xs m ≡ true) loaded (contains_in (view_at c k) m has)))
    where
      go : (m ≤ k) ⊎ (is_in [] m ≡ true) → m ≤ k
      go (inl le) = le
      go (inr i) = absurd cc

  pub all_seen_low : Every (λ m. m < length c.exports) (view_at c k)
  all_seen_low = every_of (λ m. m < length c.exports) (view_at c k) (λ j d within. let le = seen_low (get_or (view_at c k) j d) (Contains-get_or (view_at c k) j d within) in omega (arith, le, low))

  pub seen_once : IsDistinct eqb (view_at c k)
  seen_once = subst (IsDistinct eqb) (sym loaded) (none_is_twice c.uses k are.earlier)

  pub own_last : (others : List ℕ) × (view_at c k ≡ others ++ k ∷ [])
  own_last = let (others, is) = main_is_last c.uses k are.earlier in (others, loaded ∙ is)

-- ---- of the next one

module _ (c : Compiled) (uses : List ℕ) (are : AreCompiled c) (there : AreThere c uses) where
  pub next_last : (others : List ℕ) × (order_of c uses ≡ others ++ length c.exports ∷ [])
  next_last =
      let (others, is) = main_is_last (c.uses ++ uses ∷ []) (length c.uses) (next_earlier c uses are there) in
      (others, is ∙ ap (λ (n : ℕ). others ++ n ∷ []) are.uses)

  -- the others are earlier
  pub others_low : (others : List ℕ) → order_of c uses ≡ others ++ length c.exports ∷ [] → Every (λ m. m < length c.exports) others
  others_low others is = every_of (λ m. m < length c.exports) others low
    where
      once : IsDistinct eqb (others ++ length c.exports ∷ [])
      once = subst (IsDistinct eqb) is (none_is_twice (c.uses ++ uses ∷ []) (length c.uses) (next_earlier c uses are there))

      under : (m : ℕ) → m ≤ length c.exports → (m ≡ length c.exports → ⊥) → m < length c.exports
      under m le other = go (cases_lt m (length c.exports))
        where
          go : (m < length c.exports) ⊎ (length c.exports ≤ m) → m < length c.exports
          go (inl less) = less
          go (inr more) = absurd (other (omega (arith, le, more)))

      low : All (λ m. m < length c.exports) others
      low j d within =
          let long = length_push others (length c.exports) in
          let here : get_or (others ++ length c.exports ∷ []) j d ≡ get_or others j d = get_or_append_left others (length c.exports ∷ []) d j within in
          let last : get_or (others ++ length c.exports ∷ []) (length others) d ≡ length c.exports = get_or_push others (length c.exports) d (length others) refl in
          let has : Contains (others ++ length c.exports ∷ []) (get_or others j d) = subst (Contains (others ++ length c.exports ∷ [])) here (Contains-get_or (others ++ length c.exports ∷ []) j d (omega (arith, long, within))) in
          let le : get_or others j d ≤ length c.exports = seen_are_small c uses are there (get_or others j d) (subst (λ (xs : List ℕ). Contains xs (get_or others j d)) (sym is) has) in
          let new : eqb (get_or (others ++ length c.exports ∷ []) j d) (get_or (others ++ length c.exports ∷ []) (length others) d) ≡ false = apart_from_distinct eqb (others ++ length c.exports ∷ []) j (length others) d once within (omega (arith, long)) in
          let other : get_or others j d ≡ length c.exports → ⊥ = λ same. true≢false (sym (eq-eqb (get_or (others ++ length c.exports ∷ []) j d) (get_or (others ++ length c.exports ∷ []) (length others) d) (here ∙ same ∙ sym last)) ∙ new) in
          under (get_or others j d) le other
