-- The code of a term from linked code of its parts is its code, linked: no distance and no count sees
-- a reference.
use Rattle.std.proofs.Common.{◌≡◌, ℕ, zero, suc, ◌+◌, negsuc, Bool, true, false, List, [], ◌∷◌, ◌++◌, length, map, Option, Some, None, refl, sym, ap, ◌∙◌}
use Rattle.std.specs.Prelude.{flat_map}
use Rattle.std.specs.Option.{option_map}
use Rattle.std.proofs.lemmas.List.{length-map}
use Rattle.dy_base.specs.declared.ids.BindingId.{BindingId}
use Rattle.dy_outcome.specs.declared.place.Place.{Place}
use Rattle.dy_outcome.specs.declared.place.Place.TheVariants.{Own, Captured}
use Rattle.dy_code.specs.Fetching.{Instruction, Push, Tick, Closure, CallKnown, CallValue, Values, Spread, Handle, Save, Restore}
use Rattle.dy_lowered.specs.Flat.{Flat, Plain, Jump, Code, one, past, past_if_false}
use Rattle.dy_lowered.specs.Parts.{truth, read, kept, assigned, put, cell, cells, arguments, with_arguments, calling, assigning, choice, branching, both, first_alone, either, Comparing, by_identity, by_function, compared, meeting, arm, selecting, or_no_match, waiting, select, stored, bound, letting, captures, closing, Method, declared, defined, local_methods, Part, Runs, Binds, Handles, part_code, values_behind, handler_count, without_handlers, body, loop}
use Rattle.dy_lowered.specs.Linking.{linked_name, linked_type}
use Rattle.dy_linked_rows.specs.Code.{linked_instruction, linked_flat, linked_flats}
use Rattle.dy_linked_rows.proofs.Lists.{map_both}

module _ (places : ℕ → ℕ) where
  abbrev pub linked_part : Part → Part
  linked_part (Runs term) = Runs (linked_flats places term)
  linked_part (Binds binding) = Binds (linked_flats places binding)
  linked_part (Handles condition function) = Handles (linked_type places condition) (linked_flats places function)

module _ (places : ℕ → ℕ) where
  abbrev L : Code → Code
  L = linked_flats places

  pub join : (xs ys xs' ys' : Code) → xs' ≡ L xs → ys' ≡ L ys → xs' ++ ys' ≡ L (xs ++ ys)
  join = map_both (linked_flat places)

  pub as_long : (code : Code) → length (L code) ≡ length code
  as_long code = length-map code (linked_flat places)

  -- locals
  pub read_fixed : (place : Place) → read place ≡ L (read place)
  read_fixed (Own number false) = refl
  read_fixed (Own number true) = refl
  read_fixed (Captured number) = refl

  kept_fixed : (place : Place) → kept place ≡ L (kept place)
  kept_fixed (Own number in_cell) = refl
  kept_fixed (Captured number) = refl

  assigned_fixed : (place : Place) → assigned place ≡ L (assigned place)
  assigned_fixed (Own number false) = refl
  assigned_fixed (Own number true) = refl
  assigned_fixed (Captured number) = refl

  pub put_fixed : (place : Place) → put place ≡ L (put place)
  put_fixed (Own number in_cell) = refl
  put_fixed (Captured number) = refl

  pub cell_fixed : (place : Place) → cell place ≡ L (cell place)
  cell_fixed (Own number true) = refl
  cell_fixed (Own number false) = refl
  cell_fixed (Captured number) = refl

  pub cells_fixed : (all : List Place) → cells all ≡ L (cells all)
  cells_fixed [] = refl
  cells_fixed (place ∷ all) = join (cell place) (cells all) (cell place) (cells all) (cell_fixed place) (cells_fixed all)

  -- calls
  arguments_linked : (terms : List Code) → arguments (map L terms) ≡ L (arguments terms)
  arguments_linked [] = refl
  arguments_linked (term ∷ terms) =
      join term (Plain Push ∷ arguments terms) (L term) (Plain Push ∷ arguments (map L terms)) refl (ap (λ (c : Code). Plain Push ∷ c) (arguments_linked terms))

  pub with_linked : (terms : List Code) (call : Instruction) → with_arguments (map L terms) (linked_instruction places call) ≡ L (with_arguments terms call)
  with_linked terms call = join (arguments terms) (one call) (arguments (map L terms)) (one (linked_instruction places call)) (arguments_linked terms) refl

  pub calling_linked : (named : Option BindingId) (function : Code) (terms : List Code) → calling (option_map (linked_name places) named) (L function) (map L terms) ≡ L (calling named function terms)
  calling_linked (Some named) function terms =
      ap (λ (n : ℕ). with_arguments (map L terms) (CallKnown (linked_name places named) n)) (length-map terms L) ∙ with_linked terms (CallKnown named (length terms))
  calling_linked None function terms =
      let called = ap (λ (n : ℕ). with_arguments (map L terms) (CallValue n)) (length-map terms L) ∙ with_linked terms (CallValue (length terms)) in
      join function (Plain Push ∷ with_arguments terms (CallValue (length terms))) (L function) (Plain Push ∷ with_arguments (map L terms) (CallValue (length (map L terms)))) refl (ap (λ (c : Code). Plain Push ∷ c) called)

  pub assigning_linked : (place : Place) (term : Code) → assigning place (L term) ≡ L (assigning place term)
  assigning_linked place term = join term (assigned place) (L term) (assigned place) refl (assigned_fixed place)

  -- choices
  pub choice_linked : (test guarded other : Code) → choice (L test) (L guarded) (L other) ≡ L (choice test guarded other)
  choice_linked test guarded other =
      let behind : L guarded ++ (past (length other) ∷ L other) ≡ L (guarded ++ (past (length other) ∷ other)) =
      join guarded (past (length other) ∷ other) (L guarded) (past (length other) ∷ L other) refl refl in
      (λ j. L test ++ (past_if_false (as_long guarded j + 1) ∷ (L guarded ++ (past (as_long other j) ∷ L other))))
      ∙ join test (past_if_false (length guarded + 1) ∷ (guarded ++ (past (length other) ∷ other))) (L test) (past_if_false (length guarded + 1) ∷ (L guarded ++ (past (length other) ∷ L other))) refl
      (ap (λ (c : Code). past_if_false (length guarded + 1) ∷ c) behind)

  pub branching_linked : (branches : List (Code × Code)) (other : Code) → branching (map (λ (b : Code × Code). (L b.0, L b.1)) branches) (L other) ≡ L (branching branches other)
  branching_linked [] other = refl
  branching_linked (branch ∷ branches) other =
      ap (λ (c : Code). choice (L branch.0) (L branch.1) c) (branching_linked branches other) ∙ choice_linked branch.0 branch.1 (branching branches other)

  pub both_linked : (left right : Code) → both (L left) (L right) ≡ L (both left right)
  both_linked left right = choice_linked left right (truth false)

  pub either_linked : (left right : Code) → either (L left) (L right) ≡ L (either left right)
  either_linked left right = choice_linked left first_alone right

  -- how a `select` compares names nothing
  record IsFixed (by : Comparing) : Type 0 where
    again : by.again ≡ L by.again
    call : by.call ≡ linked_instruction places by.call
    away : by.away ≡ linked_instruction places by.away

  module _ (by : Comparing) (fixed : IsFixed by) where
    compared_linked : (value : Code) → compared by (L value) ≡ L (compared by value)
    compared_linked value =
        join by.again (value ++ (Plain Push ∷ one by.call)) by.again (L value ++ (Plain Push ∷ one by.call)) fixed.again
        (join value (Plain Push ∷ one by.call) (L value) (Plain Push ∷ one by.call) refl (λ j. Plain Push ∷ one (fixed.call j)))

    meeting_linked : (values : List Code) (missed : ℕ) → meeting by (map L values) missed ≡ L (meeting by values missed)
    meeting_linked [] missed = refl
    meeting_linked (value ∷ values) missed =
        let here = meeting_linked values missed in
        let others = meeting by values missed in
        (λ j. compared_linked value j ++ (past_if_false 1 ∷ past (length (here j)) ∷ here j))
        ∙ ((λ j. L (compared by value) ++ (past_if_false 1 ∷ past (as_long others j) ∷ L others))
        ∙ join (compared by value) (past_if_false 1 ∷ past (length others) ∷ others) (L (compared by value)) (past_if_false 1 ∷ past (length others) ∷ L others) refl refl)

    arm_linked : (values : List Code) (term others : Code) → arm by (map L values) (L term) (L others) ≡ L (arm by values term others)
    arm_linked values term others =
        let met : Code = Plain by.away ∷ (term ++ past (length others) ∷ []) in
        let inner : L term ++ past (length others) ∷ [] ≡ L (term ++ past (length others) ∷ []) = join term (past (length others) ∷ []) (L term) (past (length others) ∷ []) refl refl in
        let same : Plain by.away ∷ (L term ++ past (length (L others)) ∷ []) ≡ L met =
        (λ j. Plain (fixed.away j) ∷ (L term ++ past (as_long others j) ∷ [])) ∙ ap (λ (c : Code). Plain (linked_instruction places by.away) ∷ c) inner in
        (λ j. meeting by (map L values) (length (same j)) ++ (same j ++ L others))
        ∙ ((λ j. meeting by (map L values) (as_long met j) ++ (L met ++ L others))
        ∙ join (meeting by values (length met)) (met ++ others) (meeting by (map L values) (length met)) (L met ++ L others) (meeting_linked values (length met)) (join met others (L met) (L others) refl refl))

    selecting_linked : (arms : List (List Code × Code)) (missed : Code) → selecting by (map (λ (a : List Code × Code). (map L a.0, L a.1)) arms) (L missed) ≡ L (selecting by arms missed)
    selecting_linked [] missed = λ j. Plain (fixed.away j) ∷ L missed
    selecting_linked (first ∷ arms) missed =
        ap (λ (c : Code). arm by (map L first.0) (L first.1) c) (selecting_linked arms missed) ∙ arm_linked first.0 first.1 (selecting by arms missed)

  identity_fixed : IsFixed by_identity
  identity_fixed = record { again = refl; call = refl; away = refl }

  function_fixed : IsFixed by_function
  function_fixed = record { again = refl; call = refl; away = refl }

  or_linked : (last : Option Code) → or_no_match (option_map L last) ≡ L (or_no_match last)
  or_linked None = refl
  or_linked (Some last) = refl

  waiting_linked : (test : Code) → waiting (L test) ≡ L (waiting test)
  waiting_linked test = ap (λ (c : Code). Plain Save ∷ c) (join test (Plain Push ∷ Plain Restore ∷ one Push) (L test) (Plain Push ∷ Plain Restore ∷ one Push) refl refl)

  abbrev linked_arms : List (List Code × Code) → List (List Code × Code)
  linked_arms arms = map (λ (a : List Code × Code). (map L a.0, L a.1)) arms

  pub select_linked : (value : Code) (test : Option Code) (arms : List (List Code × Code)) (last : Option Code) → select (L value) (option_map L test) (linked_arms arms) (option_map L last) ≡ L (select value test arms last)
  select_linked value None arms last =
      let inner = ap (λ (c : Code). selecting by_identity (linked_arms arms) c) (or_linked last) ∙ selecting_linked by_identity identity_fixed arms (or_no_match last) in
      join value (Plain Push ∷ selecting by_identity arms (or_no_match last)) (L value) (Plain Push ∷ selecting by_identity (linked_arms arms) (or_no_match (option_map L last))) refl (ap (λ (c : Code). Plain Push ∷ c) inner)
  select_linked value (Some test) arms last =
      let inner = ap (λ (c : Code). selecting by_function (linked_arms arms) c) (or_linked last) ∙ selecting_linked by_function function_fixed arms (or_no_match last) in
      join value (waiting test ++ selecting by_function arms (or_no_match last)) (L value) (waiting (L test) ++ selecting by_function (linked_arms arms) (or_no_match (option_map L last))) refl
      (join (waiting test) (selecting by_function arms (or_no_match last)) (waiting (L test)) (selecting by_function (linked_arms arms) (or_no_match (option_map L last))) (waiting_linked test) inner)

  -- bindings
  stored_fixed : (all : List Place) → stored all ≡ L (stored all)
  stored_fixed [] = refl
  stored_fixed (place ∷ all) =
      join (stored all) (Plain (Values 1) ∷ put place) (stored all) (Plain (Values 1) ∷ put place) (stored_fixed all) (ap (λ (c : Code). Plain (Values 1) ∷ c) (put_fixed place))

  spread_fixed : (all : List Place) → stored all ++ cells all ≡ L (stored all ++ cells all)
  spread_fixed all = join (stored all) (cells all) (stored all) (cells all) (stored_fixed all) (cells_fixed all)

  bound_fixed : (all : List Place) (rest : Option Place) → bound all rest ≡ L (bound all rest)
  bound_fixed [] None = refl
  bound_fixed (place ∷ []) None = join (put place) (cell place) (put place) (cell place) (put_fixed place) (cell_fixed place)
  bound_fixed (place ∷ other ∷ others) None = ap (λ (c : Code). Plain (Spread (length (place ∷ other ∷ others)) false) ∷ c) (spread_fixed (place ∷ other ∷ others))
  bound_fixed [] (Some rest) = ap (λ (c : Code). Plain (Spread 0 true) ∷ c) (spread_fixed (rest ∷ []))
  bound_fixed (place ∷ []) (Some rest) = ap (λ (c : Code). Plain (Spread 1 true) ∷ c) (spread_fixed (place ∷ rest ∷ []))
  bound_fixed (place ∷ other ∷ others) (Some rest) =
      let all = place ∷ other ∷ others in
      ap (λ (c : Code). Plain (Spread (length all) true) ∷ c) (spread_fixed (all ++ rest ∷ []))

  pub letting_linked : (all : List Place) (rest : Option Place) (term : Code) → letting all rest (L term) ≡ L (letting all rest term)
  letting_linked all rest term = join term (bound all rest) (L term) (bound all rest) refl (bound_fixed all rest)

  -- closures
  captures_fixed : (all : List Place) → captures all ≡ L (captures all)
  captures_fixed [] = refl
  captures_fixed (place ∷ all) =
      join (kept place) (Plain Push ∷ captures all) (kept place) (Plain Push ∷ captures all) (kept_fixed place) (ap (λ (c : Code). Plain Push ∷ c) (captures_fixed all))

  pub closing_fixed : (number : ℕ) (all : List Place) → closing number all ≡ L (closing number all)
  closing_fixed number all = join (captures all) (one (Closure number (length all))) (captures all) (one (Closure number (length all))) (captures_fixed all) refl

  declared_fixed : (methods : List Method) → declared methods ≡ L (declared methods)
  declared_fixed [] = refl
  declared_fixed (method ∷ methods) =
      join (put method.place ++ cell method.place) (declared methods) (put method.place ++ cell method.place) (declared methods)
      (join (put method.place) (cell method.place) (put method.place) (cell method.place) (put_fixed method.place) (cell_fixed method.place)) (declared_fixed methods)

  defined_fixed : (methods : List Method) → defined methods ≡ L (defined methods)
  defined_fixed [] = refl
  defined_fixed (method ∷ methods) =
      let made = closing method.body method.captured in
      join (made ++ assigned method.place) (defined methods) (made ++ assigned method.place) (defined methods)
      (join made (assigned method.place) made (assigned method.place) (closing_fixed method.body method.captured) (assigned_fixed method.place)) (defined_fixed methods)

  pub methods_fixed : (methods : List Method) → local_methods methods ≡ L (local_methods methods)
  methods_fixed methods =
      join (truth false) (declared methods ++ defined methods) (truth false) (declared methods ++ defined methods) refl
      (join (declared methods) (defined methods) (declared methods) (defined methods) (declared_fixed methods) (defined_fixed methods))

  -- bodies and loops
  part_linked : (part : Part) → part_code (linked_part places part) ≡ L (part_code part)
  part_linked (Runs term) = refl
  part_linked (Binds binding) = refl
  part_linked (Handles condition function) =
      join function (Plain Push ∷ one (Handle condition)) (L function) (Plain Push ∷ one (Handle (linked_type places condition))) refl refl

  parts_linked : (parts : List Part) → flat_map part_code (map (linked_part places) parts) ≡ L (flat_map part_code parts)
  parts_linked [] = refl
  parts_linked (part ∷ parts) =
      join (part_code part) (flat_map part_code parts) (part_code (linked_part places part)) (flat_map part_code (map (linked_part places) parts)) (part_linked part) (parts_linked parts)

  values_linked : (parts : List Part) (values : Code) → values_behind (map (linked_part places) parts) (L values) ≡ L (values_behind parts values)
  values_linked [] values = refl
  values_linked (Runs term ∷ parts) values = values_linked parts []
  values_linked (Binds binding ∷ parts) values = values_linked parts (truth false)
  values_linked (Handles condition function ∷ parts) values = values_linked parts (truth false)

  handlers_same : (parts : List Part) → handler_count (map (linked_part places) parts) ≡ handler_count parts
  handlers_same [] = refl
  handlers_same (Runs term ∷ parts) = handlers_same parts
  handlers_same (Binds binding ∷ parts) = handlers_same parts
  handlers_same (Handles condition function ∷ parts) = ap (λ (n : ℕ). 1 + n) (handlers_same parts)

  without_fixed : (count : ℕ) → without_handlers count ≡ L (without_handlers count)
  without_fixed zero = refl
  without_fixed (suc count) = refl

  pub body_linked : (parts : List Part) → body (map (linked_part places) parts) ≡ L (body parts)
  body_linked parts =
      let linked = map (linked_part places) parts in
      let count = handler_count parts in
      join (flat_map part_code parts) (values_behind parts (truth false) ++ without_handlers count) (flat_map part_code linked) (values_behind linked (truth false) ++ without_handlers (handler_count linked)) (parts_linked parts)
      (join (values_behind parts (truth false)) (without_handlers count) (values_behind linked (truth false)) (without_handlers (handler_count linked)) (values_linked parts (truth false)) (ap without_handlers (handlers_same parts) ∙ without_fixed count))

  pub loop_linked : (test inner : Code) → loop (L test) (L inner) ≡ L (loop test inner)
  loop_linked test inner =
      let back = Jump (negsuc (length test + length inner + 2)) in
      let behind : L inner ++ (back ∷ truth false) ≡ L (inner ++ (back ∷ truth false)) = join inner (back ∷ truth false) (L inner) (back ∷ truth false) refl refl in
      (λ j. L test ++ (past_if_false (as_long inner j + 2) ∷ Plain Tick ∷ (L inner ++ (Jump (negsuc (as_long test j + as_long inner j + 2)) ∷ truth false))))
      ∙ join test (past_if_false (length inner + 2) ∷ Plain Tick ∷ (inner ++ (back ∷ truth false))) (L test) (past_if_false (length inner + 2) ∷ Plain Tick ∷ (L inner ++ (back ∷ truth false))) refl
      (ap (λ (c : Code). past_if_false (length inner + 2) ∷ Plain Tick ∷ c) behind)
