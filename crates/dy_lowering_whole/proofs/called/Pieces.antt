-- The code of a term calls generic functions that are there, where that of its parts does.
use Rattle.std.proofs.Common.{◌≡◌, ℕ, zero, suc, ◌+◌, Bool, true, false, negsuc, List, [], ◌∷◌, ◌++◌, length, Option, Some, None}
use Rattle.std.specs.Prelude.{flat_map}
use Rattle.std.specs.List.{list_all}
use Rattle.dy_base.specs.declared.ids.BindingId.{BindingId}
use Rattle.dy_outcome.specs.declared.place.Place.{Place}
use Rattle.dy_outcome.specs.declared.place.Place.TheVariants.{Own, Captured}
use Rattle.dy_code.specs.declared.unit.Linked.{Linked}
use Rattle.dy_code.specs.Fetching.{Instruction}
use Rattle.dy_code.specs.Fetching as instr
use Rattle.dy_code.specs.Validity.{Every}
use Rattle.dy_lowered.specs.Flat.{Flat, Plain, Jump, Code, one, past, past_if_false}
use Rattle.dy_lowered.specs.Parts.{truth, read, kept, captures as captured_code, closing, Method, declared, defined, local_methods, loop, assigned, put, cell, cells, arguments, with_arguments, calling, assigning, choice, branching, first_alone, Comparing, by_identity, by_function, compared, meeting, arm, selecting, or_no_match, waiting, select, stored, bound, letting, Part, Runs, Binds, Handles, part_code, values_behind, handler_count, without_handlers, body}
use Rattle.dy_lowering_whole.specs.valid.Valid.{FlatFound}
use Rattle.dy_lowering_whole.proofs.valid.Laying.{every_append}
use Rattle.dy_lowering_whole.proofs.valid.Sameness.{both_true, no}

-- whether an instruction is no search for a method
abbrev pub searches_nothing : Flat → Bool
searches_nothing (Plain (instr.Search generic count)) = false
searches_nothing _ = true

module _ (linked : Linked) where
  abbrev pub Found : Code → Type 0
  Found code = Every (FlatFound linked) code

  nothing_found : (flat : Flat) → searches_nothing flat ≡ true → FlatFound linked flat
  nothing_found (Plain (instr.Search generic count)) e = no e
  nothing_found _ e = tt

  -- code without such instructions
  pub plain : (code : Code) → list_all searches_nothing code ≡ true → Found code
  plain [] e = tt
  plain (flat ∷ code) e = let p = both_true (searches_nothing flat) (list_all searches_nothing code) e in (nothing_found flat p.0, plain code p.1)

  pub join : (first second : Code) → Found first → Found second → Found (first ++ second)
  join first second a b = every_append (FlatFound linked) first second a b

  pub found_read : (place : Place) → Found (read place)
  found_read (Own number false) = (tt, tt)
  found_read (Own number true) = (tt, tt)
  found_read (Captured number) = (tt, tt)

  found_assigned : (place : Place) → Found (assigned place)
  found_assigned (Own number false) = (tt, tt)
  found_assigned (Own number true) = (tt, tt)
  found_assigned (Captured number) = (tt, tt)

  pub found_put : (place : Place) → Found (put place)
  found_put (Own number in_cell) = (tt, tt)
  found_put (Captured number) = tt

  pub found_cell : (place : Place) → Found (cell place)
  found_cell (Own number true) = (tt, tt)
  found_cell (Own number false) = tt
  found_cell (Captured number) = tt

  pub found_cells : (places : List Place) → Found (cells places)
  found_cells [] = tt
  found_cells (place ∷ places) = join (cell place) (cells places) (found_cell place) (found_cells places)

  pub found_assigning : (place : Place) (term : Code) → Found term → Found (assigning place term)
  found_assigning place term h = join term (assigned place) h (found_assigned place)

  found_arguments : (terms : List Code) → Every Found terms → Found (arguments terms)
  found_arguments [] all = tt
  found_arguments (term ∷ terms) all = join term (Plain instr.Push ∷ arguments terms) all.0 (tt, found_arguments terms all.1)

  pub found_with : (terms : List Code) (call : Instruction) → Every Found terms → FlatFound linked (Plain call) → Found (with_arguments terms call)
  found_with terms call all h = join (arguments terms) (one call) (found_arguments terms all) (h, tt)

  pub found_calling : (named : Option BindingId) (function : Code) (terms : List Code) → Found function → Every Found terms → Found (calling named function terms)
  found_calling (Some named) function terms h all = found_with terms (instr.CallKnown named (length terms)) all tt
  found_calling None function terms h all =
      join function (Plain instr.Push ∷ with_arguments terms (instr.CallValue (length terms))) h (tt, found_with terms (instr.CallValue (length terms)) all tt)

  pub found_choice : (test guarded other : Code) → Found test → Found guarded → Found other → Found (choice test guarded other)
  found_choice test guarded other a b c =
      join test (past_if_false (length guarded + 1) ∷ (guarded ++ (past (length other) ∷ other))) a (tt, join guarded (past (length other) ∷ other) b (tt, c))

  abbrev pub PairsFound : List (Code × Code) → Type 0
  PairsFound branches = Every (λ (branch : Code × Code). Found branch.0 × Found branch.1) branches

  pub found_branching : (branches : List (Code × Code)) (other : Code) → PairsFound branches → Found other → Found (branching branches other)
  found_branching [] other all h = h
  found_branching (branch ∷ branches) other all h =
      let first = all.0 in
      found_choice branch.0 branch.1 (branching branches other) first.0 first.1 (found_branching branches other all.1 h)

  -- how a `select` compares
  record ComparesFound (by : Comparing) : Type 0 where
    pub compares : (value : Code) → Found value → Found (compared by value)
    pub away : FlatFound linked (Plain by.away)

  identity_found : ComparesFound by_identity
  identity_found = record { compares = λ value h. (tt, (tt, (tt, join value _ h (tt, (tt, tt))))); away = tt }

  function_found : ComparesFound by_function
  function_found = record { compares = λ value h. (tt, (tt, (tt, join value _ h (tt, (tt, tt))))); away = tt }

  abbrev pub ArmsFound : List (List Code × Code) → Type 0
  ArmsFound arms = Every (λ (arm : List Code × Code). Every Found arm.0 × Found arm.1) arms

  module _ (by : Comparing) (how : ComparesFound by) where
    found_meeting : (values : List Code) (missed : ℕ) → Every Found values → Found (meeting by values missed)
    found_meeting [] missed all = (tt, tt)
    found_meeting (value ∷ values) missed all =
        let others = meeting by values missed in
        join (compared by value) (past_if_false 1 ∷ past (length others) ∷ others) (how.compares value all.0) (tt, (tt, found_meeting values missed all.1))

    found_arm : (values : List Code) (term others : Code) → Every Found values → Found term → Found others → Found (arm by values term others)
    found_arm values term others all h rest =
        let met = Plain by.away ∷ (term ++ past (length others) ∷ []) in
        join (meeting by values (length met)) (met ++ others) (found_meeting values (length met) all)
        (join met others (how.away, join term (past (length others) ∷ []) h (tt, tt)) rest)

    found_selecting : (arms : List (List Code × Code)) (missed : Code) → ArmsFound arms → Found missed → Found (selecting by arms missed)
    found_selecting [] missed all h = (how.away, h)
    found_selecting (first ∷ arms) missed all h =
        let here = all.0 in
        found_arm first.0 first.1 (selecting by arms missed) here.0 here.1 (found_selecting arms missed all.1 h)

  abbrev pub SomeFound : Option Code → Type 0
  SomeFound None = Unit {0}
  SomeFound (Some term) = Found term

  found_or_no_match : (last : Option Code) → SomeFound last → Found (or_no_match last)
  found_or_no_match None h = (tt, tt)
  found_or_no_match (Some term) h = h

  found_waiting : (test : Code) → Found test → Found (waiting test)
  found_waiting test h = (tt, join test (Plain instr.Push ∷ Plain instr.Restore ∷ one instr.Push) h (tt, (tt, (tt, tt))))

  pub found_select : (value : Code) (test : Option Code) (arms : List (List Code × Code)) (last : Option Code) → Found value → SomeFound test → ArmsFound arms → SomeFound last
      → Found (select value test arms last)
  found_select value None arms last a b c d =
      let rest = selecting by_identity arms (or_no_match last) in
      join value (Plain instr.Push ∷ rest) a (tt, found_selecting by_identity identity_found arms (or_no_match last) c (found_or_no_match last d))
  found_select value (Some test) arms last a b c d =
      let rest = selecting by_function arms (or_no_match last) in
      join value (waiting test ++ rest) a (join (waiting test) rest (found_waiting test b) (found_selecting by_function function_found arms (or_no_match last) c (found_or_no_match last d)))

  -- binding
  found_stored : (places : List Place) → Found (stored places)
  found_stored [] = tt
  found_stored (place ∷ places) = join (stored places) (Plain (instr.Values 1) ∷ put place) (found_stored places) (tt, found_put place)

  found_all : (places : List Place) → Found (stored places ++ cells places)
  found_all places = join (stored places) (cells places) (found_stored places) (found_cells places)

  found_bound : (places : List Place) (rest : Option Place) → Found (bound places rest)
  found_bound (place ∷ []) None = join (put place) (cell place) (found_put place) (found_cell place)
  found_bound [] None = (tt, found_all [])
  found_bound (place ∷ other ∷ others) None = (tt, found_all (place ∷ other ∷ others))
  found_bound places (Some rest) = (tt, found_all (places ++ rest ∷ []))

  pub found_letting : (places : List Place) (rest : Option Place) (term : Code) → Found term → Found (letting places rest term)
  found_letting places rest term h = join term (bound places rest) h (found_bound places rest)

  -- bodies
  abbrev pub PartFound : Part → Type 0
  PartFound (Runs term) = Found term
  PartFound (Binds binding) = Found binding
  PartFound (Handles condition function) = Found function

  found_part : (part : Part) → PartFound part → Found (part_code part)
  found_part (Runs term) h = h
  found_part (Binds binding) h = h
  found_part (Handles condition function) h = join function (Plain instr.Push ∷ one (instr.Handle condition)) h (tt, (tt, tt))

  found_parts : (parts : List Part) → Every PartFound parts → Found (flat_map part_code parts)
  found_parts [] all = tt
  found_parts (part ∷ parts) all = join (part_code part) (flat_map part_code parts) (found_part part all.0) (found_parts parts all.1)

  found_values : (parts : List Part) (values : Code) → Found values → Found (values_behind parts values)
  found_values [] values h = h
  found_values (Runs term ∷ parts) values h = found_values parts [] tt
  found_values (Binds binding ∷ parts) values h = found_values parts (truth false) (tt, tt)
  found_values (Handles condition function ∷ parts) values h = found_values parts (truth false) (tt, tt)

  found_without : (count : ℕ) → Found (without_handlers count)
  found_without zero = tt
  found_without (suc count) = (tt, tt)

  pub found_body : (parts : List Part) → Every PartFound parts → Found (body parts)
  found_body parts all =
      join (flat_map part_code parts) (values_behind parts (truth false) ++ without_handlers (handler_count parts)) (found_parts parts all)
      (join (values_behind parts (truth false)) (without_handlers (handler_count parts)) (found_values parts (truth false) (tt, tt)) (found_without (handler_count parts)))

  pub found_loop : (test inner : Code) → Found test → Found inner → Found (loop test inner)
  found_loop test inner a b =
      let last = Jump (negsuc (length test + length inner + 2)) ∷ truth false in
      join test (past_if_false (length inner + 2) ∷ Plain instr.Tick ∷ (inner ++ last)) a (tt, (tt, join inner last b (tt, (tt, tt))))

  -- closures
  found_kept : (place : Place) → Found (kept place)
  found_kept (Own number in_cell) = (tt, tt)
  found_kept (Captured number) = (tt, tt)

  found_captures : (places : List Place) → Found (captured_code places)
  found_captures [] = tt
  found_captures (place ∷ places) = join (kept place) (Plain instr.Push ∷ captured_code places) (found_kept place) (tt, found_captures places)

  pub found_closing : (number : ℕ) (places : List Place) → Found (closing number places)
  found_closing number places = join (captured_code places) (one (instr.Closure number (length places))) (found_captures places) (tt, tt)

  found_declared : (methods : List Method) → Found (declared methods)
  found_declared [] = tt
  found_declared (method ∷ methods) =
      join (put method.place ++ cell method.place) (declared methods) (join (put method.place) (cell method.place) (found_put method.place) (found_cell method.place)) (found_declared methods)

  found_defined : (methods : List Method) → Found (defined methods)
  found_defined [] = tt
  found_defined (method ∷ methods) =
      join (closing method.body method.captured ++ assigned method.place) (defined methods)
      (join (closing method.body method.captured) (assigned method.place) (found_closing method.body method.captured) (found_assigned method.place)) (found_defined methods)

  pub found_local_methods : (methods : List Method) → Found (local_methods methods)
  found_local_methods methods = join (truth false) (declared methods ++ defined methods) (tt, tt) (join (declared methods) (defined methods) (found_declared methods) (found_defined methods))
