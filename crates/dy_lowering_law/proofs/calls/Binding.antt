-- What is wrong with arguments, and where they go.
use Rattle.std.proofs.Common.{◌≡◌, ℕ, zero, suc, ◌+◌, ◌-◌, ◌≤◌, Bool, true, false, List, [], ◌∷◌, ◌++◌, map, take, drop, length, Option, Some, None, refl, sym, ap, ◌∙◌, arith, append-nil, length-append, length-take-le, take_all}
use Rattle.std.specs.Prelude.{nat_eq, nat_le, ◌||◌, is_some, if◌then◌else◌}
use Rattle.std.proofs.lemmas.List.{length-map}
use Rattle.dy_term.specs.declared.types.DyType.{DyType}
use Rattle.dy_term.specs.declared.types.Params.{Params}
use Rattle.dy_term.specs.declared.rows.Program.{Program}
use Rattle.dy_values.specs.declared.value.Variant.{Variant}
use Rattle.dy_values.specs.declared.object.ObjectRow.TheVariants as object
use Rattle.dy_values.specs.declared.error.ErrorRow.{ErrorRow}
use Rattle.dy_values.specs.declared.store.Store.{Store}
use Rattle.dy_values.specs.Errors.{wrong_number}
use Rattle.dy_values.specs.Spending.{first}
use Rattle.dy_values.specs.Stores.{with_object, next_object}
use Rattle.dy_outcome.specs.declared.place.Place.{Place}
use Rattle.dy_outcome.specs.declared.state.State.{State}
use Rattle.dy_outcome.specs.States.{Gave, and_then, spend_if, made}
use Rattle.dy_outcome.specs.Parts as means
use Rattle.dy_outcome.specs.Parts.{all_bound, bound}
use Rattle.dy_outcome.specs.Places.{bind}
use Rattle.dy_outcome.specs.Calls.{is_taken}
use Rattle.dy_code.specs.Fetching.{rest_locals}
use Rattle.dy_meaning.specs.Layouts.{Layout, place_of, from}
use Rattle.dy_meaning.specs.Programs as meaning
use Rattle.dy_steps.specs.Configurations.{Goes}
use Rattle.dy_steps.specs.Effects as effects
use Rattle.dy_steps.specs.Arguments.{wrong_behind, wrong, keyword_error, or_else, arguments_error, keyword_values, with_locals, placed, vector_made, collected}
use Rattle.dy_steps.specs.Steps.{steps}
use Rattle.dy_lowered.specs.Bodies as bodies
use Rattle.dy_lowered.specs.Parts.{cells}
use Rattle.dy_lowering_law.specs.Following.{Spot, standing, after_any, Holds}
use Rattle.dy_lowering_law.specs.Kinds.{GoesOn}
use Rattle.dy_lowering_law.specs.Machines.{linked_program, machine_of}
use Rattle.dy_lowering_law.specs.Renumbering.{body_of, renumbered_store}
use Rattle.dy_lowering_law.proofs.Same.{next_same, added_same}
use Rattle.dy_lowering_law.proofs.calls.Parameters.{owns, owned, bound_places, taken_bound, last_bound, cells_come}

-- No value is of a wrong type: types are not looked at yet.
module _ (program : Program) (store : Store) where
  right_behind : (values : List Variant) (rest : Option DyType) → wrong_behind (machine_of program) store values rest ≡ None
  right_behind [] rest = refl
  right_behind (value ∷ values) None = refl
  right_behind (value ∷ values) (Some type) = right_behind values (Some type)

  pub none_wrong : (values : List Variant) (types : List DyType) (rest : Option DyType) → wrong (machine_of program) store values types rest ≡ None
  none_wrong values [] rest = right_behind values rest
  none_wrong [] (type ∷ types) rest = refl
  none_wrong (value ∷ values) (type ∷ types) rest = none_wrong values types rest

-- the arguments are counted as a call counts them
abbrev no_keywords : Option (List (List ℕ))
no_keywords = None

counted : (rest : Bool) (place : Place) (wanted count : ℕ) → (if rest || is_some no_keywords then nat_le wanted count else nat_eq count wanted) ≡ is_taken (meaning.rest_place rest place) wanted count
counted true place wanted count = refl
counted false place wanted count = refl

abbrev pub unless_taken : Bool → Option ErrorRow
unless_taken true = None
unless_taken false = Some wrong_number

if_taken : (b : Bool) → (if b then None else Some wrong_number) ≡ unless_taken b
if_taken true = refl
if_taken false = refl

pub error_is : (program : Program) (store : Store) (params : Params) (place : Place) (values : List Variant) → params.keys ≡ None
    → arguments_error (machine_of program) store params values ≡ unless_taken (is_taken (meaning.rest_place params.rest place) (length params.required) (length values))
error_is program store params place values none =
    (λ i. if (if params.rest || is_some (none i) then nat_le (length params.required) (length values) else nat_eq (length values) (length params.required))
    then or_else (keyword_error store (none i) params.all_keys (drop (length params.required) values)) (none_wrong program store (take (length params.required) values) params.required None i)
    else Some wrong_number)
    ∙ (λ i. if counted params.rest place (length params.required) (length values) i then None else Some wrong_number)
    ∙ if_taken (is_taken (meaning.rest_place params.rest place) (length params.required) (length values))

-- parameters are so many as are wanted
pub length_from : (n at : ℕ) → length (from at n) ≡ n
length_from zero at = refl
length_from (suc n) at = ap suc (length_from n (at + 1))

pub length_places : (layout : Layout) (n at : ℕ) → length (map (place_of layout) (from at n)) ≡ n
length_places layout n at = length-map (from at n) (place_of layout) ∙ length_from n at

length_flags : (layout : Layout) (n at : ℕ) → length (map layout.in_cell (from at n)) ≡ n
length_flags layout n at = length-map (from at n) layout.in_cell ∙ length_from n at

-- one more at the end
more_places : (layout : Layout) (n at : ℕ) → map (place_of layout) (from at n) ++ place_of layout (at + n) ∷ [] ≡ map (place_of layout) (from at (suc n))
more_places layout zero at = let here : at + 0 ≡ at = omega arith in ap (λ k. place_of layout k ∷ []) here
more_places layout (suc n) at =
    let next : at + suc n ≡ at + 1 + n = omega arith in
    ap (λ (k : ℕ). place_of layout at ∷ (map (place_of layout) (from (at + 1) n) ++ place_of layout k ∷ [])) next
    ∙ ap (λ (l : List Place). place_of layout at ∷ l) (more_places layout n (at + 1))

pub equal_from : (a b : ℕ) → nat_eq a b ≡ true → a ≡ b
equal_from a b h = grind (arith, h)

least_from : (a b : ℕ) → nat_le a b ≡ true → a ≤ b
least_from a b h = grind (arith, h)

module _ (program : Program) (before : ℕ) (layout : Layout) (params : Params) (none : params.keys ≡ None) (y : Spot) where
  abbrev required : ℕ
  required = length params.required

  abbrev places : List Place
  places = map (place_of layout) (from layout.first required)

  abbrev last : Place
  last = place_of layout (layout.first + required)

  -- the locals are there, and then the cells
  with_cells : (all : List Place) (flags : List Bool) (values : List Variant) (s : State) (j : ℕ) → all ≡ owns 0 flags → length values ≡ length flags → length flags ≤ length s.frame.locals
      → Holds (linked_program program) before y.running.body 2 (cells all)
      → GoesOn (machine_of program) (Goes (standing (body_of program) y 2 [] (with_locals values s) j)) (λ k. Goes (standing (body_of program) y (2 + length (cells all)) [] (all_bound all values s) k))
  with_cells all flags values s j e long room holds =
      let comes = cells_come program before all y 2 [] (with_locals values s) j holds in
      record {
        count = comes.count;
        searches = comes.searches;
        there = comes.there ∙ ap (λ (t : State). Goes (standing (body_of program) y (2 + length (cells all)) [] t comes.searches)) (bound_places all flags values s e long room);
      }

  -- a new vector of the arguments behind
  rest_bound : (cost : Bool) (values : List Variant) (s : State) (j : ℕ) → required ≤ length values → required + 1 ≤ length s.frame.locals
      → Holds (linked_program program) before y.running.body 2 (cells (places ++ last ∷ []))
      → GoesOn (machine_of program)
      (effects.spend_if cost (length (drop required values) + 1) (standing (body_of program) y 2 [] s j) (vector_made (drop required values) (λ vector. placed params (vector ∷ []) values)))
      (after_any (body_of program) y (2 + length (cells (places ++ last ∷ [])))
      (and_then (spend_if cost (length (drop required values) + 1) s (made (object.Vector false (drop required values)))) (λ vs t. Gave [] (bind last (first vs) (all_bound places values t)))) [])
  rest_bound false values s j enough room holds = record { count = 0; searches = j; there = refl }
  rest_bound true values s j enough room holds =
      let number = body_of program in
      let others = drop required values in
      let row = object.Vector false others in
      let vector = next_object s.store in
      let t : State = record s { fuel = record { left = s.fuel.left - (length others + 1) }; store = with_object s.store row } in
      let taken = take required values ++ vector ∷ [] in
      let flags = map layout.in_cell (from layout.first (suc required)) in
      let count : length (take required values) ≡ required = length-take-le required values enough in
      let long : length taken ≡ length flags = omega (arith, count, length-append (take required values) (vector ∷ []), length_flags layout (suc required) layout.first) in
      let few : length flags ≤ length s.frame.locals = omega (arith, length_flags layout (suc required) layout.first, room) in
      let own : places ++ last ∷ [] ≡ owns 0 flags = more_places layout required layout.first ∙ owned layout (suc required) 0 layout.first (omega arith) in
      let same : all_bound (places ++ last ∷ []) taken t ≡ bind last vector (all_bound places values t) =
      last_bound places last (take required values) vector t (count ∙ sym (length_places layout required layout.first))
      ∙ ap (λ (n : ℕ). bind last vector (all_bound places (take n values) t)) (sym (length_places layout required layout.first))
      ∙ ap (λ (u : State). bind last vector u) (taken_bound places values t) in
      let on = with_cells (places ++ last ∷ []) flags taken t j own long few holds in
      let from_step : effects.spend_if true (length others + 1) (standing number y 2 [] s j) (vector_made others (λ v. placed params (v ∷ []) values)) ≡ Goes (standing number y 2 [] (with_locals taken t) j) =
      (λ i. placed params (next_same number s.store i ∷ []) values (record (standing number y 2 [] t j) { state = record (standing number y 2 [] t j).state { store = added_same number s.store row i } }))
      ∙ (λ i. Goes (record (standing number y 2 [] t j) { state = with_locals (taken ++ keyword_values (renumbered_store number t.store) (none i) others) (standing number y 2 [] t j).state }))
      ∙ ap (λ (l : List Variant). Goes (standing number y 2 [] (with_locals l t) j)) (append-nil taken) in
      record {
        count = on.count;
        searches = on.searches;
        there = ap (steps (machine_of program) on.count) from_step ∙ on.there
            ∙ ap (λ (u : State). Goes (standing number y (2 + length (cells (places ++ last ∷ []))) [] u on.searches)) same;
      }

  -- what was given is bound, and the register is empty as before
  pub binds : (rest : Bool) (values : List Variant) (s : State) (j : ℕ) → is_taken (meaning.rest_place rest last) required (length values) ≡ true → required + rest_locals rest ≤ length s.frame.locals
      → Holds (linked_program program) before y.running.body 2 (cells (places ++ bodies.rest_place rest last))
      → GoesOn (machine_of program) (collected rest params values (standing (body_of program) y 2 [] s j))
      (after_any (body_of program) y (2 + length (cells (places ++ bodies.rest_place rest last))) (bound places (meaning.rest_place rest last) values s) [])
  binds false values s j taken room holds =
      let number = body_of program in
      let flags = map layout.in_cell (from layout.first required) in
      let count : length values ≡ required = equal_from (length values) required taken in
      let long : length values ≡ length flags = omega (arith, count, length_flags layout required layout.first) in
      let few : length flags ≤ length s.frame.locals = omega (arith, length_flags layout required layout.first, room) in
      let own : places ++ [] ≡ owns 0 flags = append-nil places ∙ owned layout required 0 layout.first (omega arith) in
      let on = with_cells (places ++ []) flags values s j own long few holds in
      let all : take required values ≡ values = take_all required values (omega (arith, count)) in
      let from_step : collected false params values (standing number y 2 [] s j) ≡ Goes (standing number y 2 [] (with_locals values s) j) =
      (λ i. Goes (record (standing number y 2 [] s j) { state = with_locals (take required values ++ [] ++ keyword_values (renumbered_store number s.store) (none i) (drop required values)) (standing number y 2 [] s j).state }))
      ∙ ap (λ (l : List Variant). Goes (standing number y 2 [] (with_locals l s) j)) (append-nil (take required values ++ []) ∙ append-nil (take required values) ∙ all) in
      record {
        count = on.count;
        searches = on.searches;
        there = ap (steps (machine_of program) on.count) from_step ∙ on.there
            ∙ ap (λ (l : List Place). Goes (standing number y (2 + length (cells (places ++ []))) [] (all_bound l values s) on.searches)) (append-nil places);
      }
  binds true values s j taken room holds =
      let number = body_of program in
      let q = 2 + length (cells (places ++ last ∷ [])) in
      let enough = least_from required (length values) taken in
      let on = rest_bound (nat_le (length (drop required values) + 1) s.fuel.left) values s j enough room holds in
      record {
        count = on.count;
        searches = on.searches;
        there = on.there ∙ ap (λ (n : ℕ). after_any number y q (and_then (means.collected (drop n values) s) (λ vs t. Gave [] (bind last (first vs) (all_bound places values t)))) [] on.searches) (sym (length_places layout required layout.first));
      }
