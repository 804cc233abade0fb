-- How much the code of each kind of term weighs, where each instruction weighs 1 at most.
use Rattle.std.proofs.Common.{◌≡◌, ℕ, zero, suc, ◌+◌, ◌≤◌, Bool, true, false, negsuc, List, [], ◌∷◌, ◌++◌, length, Option, Some, None, refl, arith, length-append}
use Rattle.std.specs.Prelude.{flat_map}
use Rattle.dy_base.specs.declared.ids.BindingId.{BindingId}
use Rattle.dy_term.specs.declared.types.DyType.{DyType}
use Rattle.dy_outcome.specs.declared.place.Place.{Place}
use Rattle.dy_outcome.specs.declared.place.Place.TheVariants.{Own, Captured}
use Rattle.dy_code.specs.Fetching.{Instruction}
use Rattle.dy_code.specs.Fetching as instr
use Rattle.dy_lowered.specs.Flat.{Flat, Plain, Jump, Code, one, past, past_if_false}
use Rattle.dy_lowered.specs.Parts.{truth, read, kept, assigned, put, cell, cells, arguments, with_arguments, calling, assigning, choice, branching, both, first_alone, either, Comparing, by_identity, by_function, compared, meeting, selecting, or_no_match, waiting, select, stored, bound, letting, captures, closing, Method, declared, defined, local_methods, Part, Runs, Binds, Handles, part_code, values_behind, handler_count, without_handlers, body, loop}

module _ (w : Flat → ℕ) where
  abbrev pub weigh : Code → ℕ
  weigh [] = 0
  weigh (flat ∷ code) = w flat + weigh code

  pub weigh_join : (a b : Code) → weigh (a ++ b) ≡ weigh a + weigh b
  weigh_join [] b = omega arith
  weigh_join (flat ∷ a) b = omega (arith, weigh_join a b)

-- Each instruction weighs 1 at most.
module _ (w : Flat → ℕ) (light : (flat : Flat) → w flat ≤ 1) where
  abbrev W : Code → ℕ
  W code = weigh w code

  join : (a b : Code) → W (a ++ b) ≡ W a + W b
  join a b = weigh_join w a b

  pub by_length : (code : Code) → W code ≤ length code
  by_length [] = omega arith
  by_length (flat ∷ code) = omega (arith, light flat, by_length code)

  pub by_count : (code : Code) (count : ℕ) → length code ≡ count → W code ≤ count
  by_count code count e = omega (arith, e, by_length code)

  pub read_weighs : (place : Place) → W (read place) ≤ 1
  read_weighs (Own number false) = by_count (read (Own number false)) 1 refl
  read_weighs (Own number true) = by_count (read (Own number true)) 1 refl
  read_weighs (Captured number) = by_count (read (Captured number)) 1 refl

  pub kept_weighs : (place : Place) → W (kept place) ≤ 1
  kept_weighs (Own number in_cell) = by_count (kept (Own number in_cell)) 1 refl
  kept_weighs (Captured number) = by_count (kept (Captured number)) 1 refl

  pub assigned_weighs : (place : Place) → W (assigned place) ≤ 1
  assigned_weighs (Own number false) = by_count (assigned (Own number false)) 1 refl
  assigned_weighs (Own number true) = by_count (assigned (Own number true)) 1 refl
  assigned_weighs (Captured number) = by_count (assigned (Captured number)) 1 refl

  pub put_weighs : (place : Place) → W (put place) ≤ 1
  put_weighs (Own number in_cell) = by_count (put (Own number in_cell)) 1 refl
  put_weighs (Captured number) = omega arith

  pub cell_weighs : (place : Place) → W (cell place) ≤ 1
  cell_weighs (Own number true) = by_count (cell (Own number true)) 1 refl
  cell_weighs (Own number false) = omega arith
  cell_weighs (Captured number) = omega arith

  pub cells_weigh : (places : List Place) → W (cells places) ≤ length places
  cells_weigh [] = omega arith
  cells_weigh (place ∷ places) = omega (arith, join (cell place) (cells places), cell_weighs place, cells_weigh places)

  stored_weigh : (places : List Place) → W (stored places) ≤ length places + length places
  stored_weigh [] = omega arith
  stored_weigh (place ∷ places) = omega (arith, join (stored places) (Plain (instr.Values 1) ∷ put place), stored_weigh places, put_weighs place, light (Plain (instr.Values 1)))

  bound_all : (places : List Place) (collects : Bool) (count : ℕ) → W (Plain (instr.Spread count collects) ∷ (stored places ++ cells places)) ≤ 1 + (length places + (length places + length places))
  bound_all places collects count = omega (arith, light (Plain (instr.Spread count collects)), join (stored places) (cells places), stored_weigh places, cells_weigh places)

  abbrev pub rest_count : Option Place → ℕ
  rest_count None = 0
  rest_count (Some place) = 1

  bound_weighs : (places : List Place) (rest : Option Place) → W (bound places rest) ≤ 1 + ((length places + rest_count rest) + ((length places + rest_count rest) + (length places + rest_count rest)))
  bound_weighs (place ∷ []) None = omega (arith, join (put place) (cell place), put_weighs place, cell_weighs place)
  bound_weighs [] None = omega (arith, bound_all [] false 0)
  bound_weighs (place ∷ other ∷ others) None = omega (arith, bound_all (place ∷ other ∷ others) false (length (place ∷ other ∷ others)))
  bound_weighs places (Some rest) = let all = places ++ rest ∷ [] in omega (arith, length-append places (rest ∷ []), bound_all all true (length places))

  pub letting_weighs : (places : List Place) (rest : Option Place) (term : Code) → W (letting places rest term) ≤ W term + (1 + ((length places + rest_count rest) + ((length places + rest_count rest) + (length places + rest_count rest))))
  letting_weighs places rest term = omega (arith, join term (bound places rest), bound_weighs places rest)

  -- arguments, as a sum
  abbrev pub sum_of : List Code → ℕ
  sum_of [] = 0
  sum_of (term ∷ terms) = 1 + (W term + sum_of terms)

  arguments_weigh : (terms : List Code) → W (arguments terms) ≤ sum_of terms
  arguments_weigh [] = omega arith
  arguments_weigh (term ∷ terms) = omega (arith, join term (Plain instr.Push ∷ arguments terms), light (Plain instr.Push), arguments_weigh terms)

  pub with_weighs : (terms : List Code) (call : Instruction) → W (with_arguments terms call) ≤ sum_of terms + 1
  with_weighs terms call = omega (arith, join (arguments terms) (one call), light (Plain call), arguments_weigh terms)

  pub calling_weighs : (named : Option BindingId) (function : Code) (terms : List Code) → W (calling named function terms) ≤ W function + (sum_of terms + 2)
  calling_weighs (Some named) function terms = omega (arith, with_weighs terms (instr.CallKnown named (length terms)))
  calling_weighs None function terms =
      omega (arith, join function (Plain instr.Push ∷ with_arguments terms (instr.CallValue (length terms))), light (Plain instr.Push), with_weighs terms (instr.CallValue (length terms)))

  pub assigning_weighs : (place : Place) (term : Code) → W (assigning place term) ≤ W term + 1
  assigning_weighs place term = omega (arith, join term (assigned place), assigned_weighs place)

  pub choice_weighs : (test guarded other : Code) → W (choice test guarded other) ≤ W test + (W guarded + (W other + 2))
  choice_weighs test guarded other =
      omega (arith, join test (past_if_false (length guarded + 1) ∷ (guarded ++ (past (length other) ∷ other))), join guarded (past (length other) ∷ other), light (past_if_false (length guarded + 1)), light (past (length other)))

  abbrev pub pairs_of : List (Code × Code) → ℕ
  pairs_of [] = 0
  pairs_of (branch ∷ branches) = W branch.0 + (W branch.1 + (2 + pairs_of branches))

  pub branching_weighs : (branches : List (Code × Code)) (other : Code) → W (branching branches other) ≤ pairs_of branches + W other
  branching_weighs [] other = omega arith
  branching_weighs (branch ∷ branches) other = omega (arith, choice_weighs branch.0 branch.1 (branching branches other), branching_weighs branches other)

  truth_weighs : (value : Bool) → W (truth value) ≤ 1
  truth_weighs value = by_count (truth value) 1 refl

  pub both_weigh : (left right : Code) → W (both left right) ≤ W left + (W right + 3)
  both_weigh left right = omega (arith, choice_weighs left right (truth false), truth_weighs false)

  pub either_weighs : (left right : Code) → W (either left right) ≤ W left + (W right + 4)
  either_weighs left right = omega (arith, choice_weighs left first_alone right, by_count first_alone 2 refl)

  -- a `select`
  compared_weighs : (by : Comparing) (value : Code) → length by.again ≡ 3 → W (compared by value) ≤ W value + 5
  compared_weighs by value e =
      omega (arith, join by.again (value ++ (Plain instr.Push ∷ one by.call)), join value (Plain instr.Push ∷ one by.call), by_count by.again 3 e, light (Plain instr.Push), light (Plain by.call))

  abbrev pub values_of : List Code → ℕ
  values_of [] = 0
  values_of (value ∷ values) = W value + (7 + values_of values)

  meeting_weighs : (by : Comparing) (values : List Code) (missed : ℕ) → length by.again ≡ 3 → W (meeting by values missed) ≤ values_of values + 1
  meeting_weighs by [] missed e = omega (arith, light (past missed))
  meeting_weighs by (value ∷ values) missed e =
      let others = meeting by values missed in
      omega (arith, join (compared by value) (past_if_false 1 ∷ past (length others) ∷ others), compared_weighs by value e, light (past_if_false 1), light (past (length others)), meeting_weighs by values missed e)

  abbrev pub arms_of : List (List Code × Code) → ℕ
  arms_of [] = 0
  arms_of (first ∷ arms) = values_of first.0 + (W first.1 + (3 + arms_of arms))

  selecting_weighs : (by : Comparing) (arms : List (List Code × Code)) (missed : Code) → length by.again ≡ 3 → W (selecting by arms missed) ≤ arms_of arms + (W missed + 1)
  selecting_weighs by [] missed e = omega (arith, light (Plain by.away))
  selecting_weighs by (first ∷ arms) missed e =
      let others = selecting by arms missed in
      let met = Plain by.away ∷ (first.1 ++ past (length others) ∷ []) in
      omega (
        arith,
        join (meeting by first.0 (length met)) (met ++ others),
        join met others,
        join first.1 (past (length others) ∷ []),
        light (Plain by.away),
        light (past (length others)),
        meeting_weighs by first.0 (length met) e,
        selecting_weighs by arms missed e,
      )

  abbrev pub held_of : Option Code → ℕ
  held_of None = 0
  held_of (Some term) = W term

  no_match_weighs : (last : Option Code) → W (or_no_match last) ≤ held_of last + 1
  no_match_weighs None = omega (arith, light (Plain instr.NoMatch))
  no_match_weighs (Some term) = omega arith

  pub select_weighs : (value : Code) (test : Option Code) (arms : List (List Code × Code)) (last : Option Code) → W (select value test arms last) ≤ W value + (held_of test + (arms_of arms + (held_of last + 6)))
  select_weighs value None arms last =
      let rest = selecting by_identity arms (or_no_match last) in
      omega (arith, join value (Plain instr.Push ∷ rest), light (Plain instr.Push), selecting_weighs by_identity arms (or_no_match last) refl, no_match_weighs last)
  select_weighs value (Some test) arms last =
      let rest = selecting by_function arms (or_no_match last) in
      let end = Plain instr.Push ∷ Plain instr.Restore ∷ one instr.Push in
      omega (
        arith,
        join value (waiting test ++ rest),
        join (waiting test) rest,
        join test end,
        by_count end 3 refl,
        light (Plain instr.Save),
        selecting_weighs by_function arms (or_no_match last) refl,
        no_match_weighs last,
      )

  -- closures
  captures_weigh : (places : List Place) → W (captures places) ≤ length places + length places
  captures_weigh [] = omega arith
  captures_weigh (place ∷ places) = omega (arith, join (kept place) (Plain instr.Push ∷ captures places), kept_weighs place, light (Plain instr.Push), captures_weigh places)

  pub closing_weighs : (number : ℕ) (places : List Place) → W (closing number places) ≤ length places + (length places + 1)
  closing_weighs number places = omega (arith, join (captures places) (one (instr.Closure number (length places))), light (Plain (instr.Closure number (length places))), captures_weigh places)

  abbrev pub methods_of : List Method → ℕ
  methods_of [] = 0
  methods_of (method ∷ methods) = W (closing method.body method.captured) + (3 + methods_of methods)

  methods_weigh : (methods : List Method) → W (declared methods) + W (defined methods) ≤ methods_of methods
  methods_weigh [] = omega arith
  methods_weigh (method ∷ methods) =
      omega (
        arith,
        join (put method.place ++ cell method.place) (declared methods),
        join (put method.place) (cell method.place),
        put_weighs method.place,
        cell_weighs method.place,
        join (closing method.body method.captured ++ assigned method.place) (defined methods),
        join (closing method.body method.captured) (assigned method.place),
        assigned_weighs method.place,
        methods_weigh methods,
      )

  pub local_methods_weigh : (methods : List Method) → W (local_methods methods) ≤ methods_of methods + 1
  local_methods_weigh methods = omega (arith, join (truth false) (declared methods ++ defined methods), join (declared methods) (defined methods), truth_weighs false, methods_weigh methods)

  -- bodies
  abbrev pub parts_of : List Part → ℕ
  parts_of [] = 0
  parts_of (part ∷ parts) = W (part_code part) + parts_of parts

  parts_weigh : (parts : List Part) → W (flat_map part_code parts) ≤ parts_of parts
  parts_weigh [] = omega arith
  parts_weigh (part ∷ parts) = omega (arith, join (part_code part) (flat_map part_code parts), parts_weigh parts)

  values_weigh : (parts : List Part) (values : Code) → W values ≤ 1 → W (values_behind parts values) ≤ 1
  values_weigh [] values h = h
  values_weigh (Runs term ∷ parts) values h = values_weigh parts [] (omega arith)
  values_weigh (Binds binding ∷ parts) values h = values_weigh parts (truth false) (truth_weighs false)
  values_weigh (Handles condition function ∷ parts) values h = values_weigh parts (truth false) (truth_weighs false)

  without_weighs : (count : ℕ) → W (without_handlers count) ≤ 1
  without_weighs zero = omega arith
  without_weighs (suc count) = omega (arith, light (Plain (instr.Unhandle (suc count))))

  pub body_weighs : (parts : List Part) → W (body parts) ≤ parts_of parts + 2
  body_weighs parts =
      omega (
        arith,
        join (flat_map part_code parts) (values_behind parts (truth false) ++ without_handlers (handler_count parts)),
        join (values_behind parts (truth false)) (without_handlers (handler_count parts)),
        parts_weigh parts,
        values_weigh parts (truth false) (truth_weighs false),
        without_weighs (handler_count parts),
      )

  pub handler_weighs : (condition : DyType) (function : Code) → W (part_code (Handles condition function)) ≤ W function + 2
  handler_weighs condition function = omega (arith, join function (Plain instr.Push ∷ one (instr.Handle condition)), light (Plain instr.Push), light (Plain (instr.Handle condition)))

  pub loop_weighs : (test inner : Code) → W (loop test inner) ≤ W test + (W inner + 4)
  loop_weighs test inner =
      let back = Jump (negsuc (length test + length inner + 2)) in
      omega (
        arith,
        join test (past_if_false (length inner + 2) ∷ Plain instr.Tick ∷ (inner ++ (back ∷ truth false))),
        join inner (back ∷ truth false),
        light (past_if_false (length inner + 2)),
        light (Plain instr.Tick),
        light back,
        truth_weighs false,
      )
