-- The locals that a `let` binds stand at places of the body, each at one.
use Rattle.std.proofs.Common.{◌≡◌, ℕ, ◌-◌, ◌≤◌, ◌<◌, Bool, true, false, not, nat_eq, nat_lt, nat_le, List, [], ◌∷◌, map, refl, sym, ap, subst, arith}
use Rattle.std.specs.List.{list_all, list_any}
use Rattle.std.specs.Option.{option_map}
use Rattle.std.specs.declared.option.Option.{Option}
use Rattle.std.specs.declared.option.Option.TheVariants.{None, Some}
use Rattle.std.proofs.lemmas.Bool.{true≢false, and_parts, or_parts, leb-true, ltb-true, le-ltb, eqb-false}
use Rattle.dy_term.specs.declared.types.DyType.{DyType}
use Rattle.dy_term.specs.declared.rows.Program.{Program}
use Rattle.dy_outcome.specs.declared.place.Place.{Place}
use Rattle.dy_outcome.specs.declared.place.Place.TheVariants.{Own}
use Rattle.dy_outcome.specs.States.{Does}
use Rattle.dy_outcome.specs.Parts.{letting}
use Rattle.dy_meaning.specs.Layouts.{Layout, own_or_captured, place_of}
use Rattle.dy_lowered.specs.Flat.{Code}
use Rattle.dy_lowered.specs.Parts as parts
use Rattle.dy_lowered.specs.Readiness.{with_rest, are_distinct, is_own, are_bound}
use Rattle.dy_lowering_law.specs.Following.{Follows, Prepares}
use Rattle.dy_lowering_law.specs.parts.Lets.{IsOwn, AreOwn, IsNone, AreDistinct, all_places}
use Rattle.dy_lowering_law.proofs.parts.Binding.{all_lets_follow}

not_true : (b : Bool) → not b ≡ true → b ≡ false
not_true true e = absurd (true≢false (sym e))
not_true false e = refl

module _ (layout : Layout) (last : ℕ) where
  place_is : (number : ℕ) → layout.first ≤ number → place_of layout number ≡ Own (number - layout.first) (layout.in_cell number)
  place_is number h = ap (λ b. own_or_captured b layout number) (le-ltb number layout.first h)

  least : (number : ℕ) → is_own layout.first last number ≡ true → layout.first ≤ number
  least number h = leb-true layout.first number (and_parts (nat_le layout.first number) (nat_lt number last) h).0

  pub own_at : (number : ℕ) → is_own layout.first last number ≡ true → IsOwn (last - layout.first) (place_of layout number)
  own_at number h =
      let low = least number h in
      let high : number < last = ltb-true number last (and_parts (nat_le layout.first number) (nat_lt number last) h).1 in
      let within : number - layout.first < last - layout.first = omega (arith, low, high) in
      subst (IsOwn (last - layout.first)) (sym (place_is number low)) within

  all_own : (numbers : List ℕ) → list_all (is_own layout.first last) numbers ≡ true → AreOwn (last - layout.first) (map (place_of layout) numbers)
  all_own [] h = tt
  all_own (number ∷ numbers) h =
      let both = and_parts (is_own layout.first last number) (list_all (is_own layout.first last) numbers) h in
      (own_at number both.0, all_own numbers both.1)

  differ : (number other : ℕ) → layout.first ≤ number → layout.first ≤ other → nat_eq number other ≡ false → number - layout.first ≡ other - layout.first → ⊥
  differ number other h g e same = eqb-false number other e (omega (arith, h, g, same))

  none_at : (number : ℕ) (numbers : List ℕ) → layout.first ≤ number → list_any (nat_eq number) numbers ≡ false → list_all (is_own layout.first last) numbers ≡ true
      → IsNone (number - layout.first) (map (place_of layout) numbers)
  none_at number [] low none h = tt
  none_at number (other ∷ numbers) low none h =
      let apart = or_parts (nat_eq number other) (list_any (nat_eq number) numbers) none in
      let both = and_parts (is_own layout.first last other) (list_all (is_own layout.first last) numbers) h in
      let here = least other both.0 in
      subst (λ (place : Place). IsNone (number - layout.first) (place ∷ map (place_of layout) numbers)) (sym (place_is other here))
      (differ number other low here apart.0, none_at number numbers low apart.1 both.1)

  all_distinct : (numbers : List ℕ) → list_all (is_own layout.first last) numbers ≡ true → are_distinct numbers ≡ true → AreDistinct (map (place_of layout) numbers)
  all_distinct [] h distinct = tt
  all_distinct (number ∷ numbers) h distinct =
      let both = and_parts (is_own layout.first last number) (list_all (is_own layout.first last) numbers) h in
      let parted = and_parts (not (list_any (nat_eq number) numbers)) (are_distinct numbers) distinct in
      let low = least number both.0 in
      subst (λ (place : Place). AreDistinct (place ∷ map (place_of layout) numbers)) (sym (place_is number low))
      (none_at number numbers low (not_true (list_any (nat_eq number) numbers) parted.0) both.1, all_distinct numbers both.1 parted.1)

  places_same : (locals : List (ℕ × DyType)) (rest : Option ℕ)
      → map (place_of layout) (with_rest (map (λ local. local.0) locals) rest) ≡ all_places (map (λ local. place_of layout local.0) locals) (option_map (place_of layout) rest)
  places_same [] None = refl
  places_same [] (Some rest) = refl
  places_same (local ∷ locals) None = ap (λ (places : List Place). place_of layout local.0 ∷ places) (places_same locals None)
  places_same (local ∷ locals) (Some rest) = ap (λ (places : List Place). place_of layout local.0 ∷ places) (places_same locals (Some rest))

pub let_items_follow : (program : Program) (n before last : ℕ) (layout : Layout) (locals : List (ℕ × DyType)) (rest : Option ℕ) (code : Code) (does : Does)
    → are_bound layout.first last (with_rest (map (λ local. local.0) locals) rest) ≡ true → Follows program n before (last - layout.first) code does
    → Prepares program n before (last - layout.first) (parts.letting (map (λ local. place_of layout local.0) locals) (option_map (place_of layout) rest) code) (letting (map (λ local. place_of layout local.0) locals) (option_map (place_of layout) rest) does)
let_items_follow program n before last layout locals rest code does bound follows =
    let numbers = with_rest (map (λ local. local.0) locals) rest in
    let both = and_parts (list_all (is_own layout.first last) numbers) (are_distinct numbers) bound in
    let same = places_same layout last locals rest in
    all_lets_follow program n before (last - layout.first) (map (λ local. place_of layout local.0) locals) (option_map (place_of layout) rest) code does
    (subst (AreOwn (last - layout.first)) same (all_own layout last numbers both.0)) (subst AreDistinct same (all_distinct layout last numbers both.0 both.1)) follows
