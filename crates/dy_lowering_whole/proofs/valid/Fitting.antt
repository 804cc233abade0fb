-- The code of terms that are lowered yet names what is there.
use Rattle.std.proofs.Common.{◌≡◌, ℕ, zero, suc, ◌+◌, ◌<◌, Bool, true, false, negsuc, List, [], ◌∷◌, ◌++◌, length, Option, Some, None, refl, arith}
use Rattle.std.specs.Prelude.{flat_map, nat_lt}
use Rattle.dy_base.specs.declared.ids.BindingId.{BindingId}
use Rattle.dy_base.specs.declared.ids.What.{What}
use Rattle.dy_base.specs.declared.ids.What.TheVariants as whats
use Rattle.dy_term.specs.declared.term.ForClause.{ForClause}
use Rattle.dy_term.specs.declared.term.Item.{Item}
use Rattle.dy_term.specs.declared.term.Term.{Term, Term-F}
use Rattle.dy_term.specs.declared.term.BlockRow.{BlockRow}
use Rattle.dy_term.specs.declared.term.ForRow.{ForRow}
use Rattle.dy_term.specs.declared.term.Lambda.{Lambda}
use Rattle.dy_outcome.specs.declared.place.Place.{Place}
use Rattle.dy_outcome.specs.declared.place.Place.TheVariants.{Own, Captured}
use Rattle.dy_code.specs.Fetching.{Instruction}
use Rattle.dy_code.specs.Fetching as instr
use Rattle.dy_code.specs.Validity.{Every}
use Rattle.dy_meaning.specs.Globals.{is_variable}
use Rattle.dy_lowered.specs.Bodies.{FlatBody}
use Rattle.dy_lowered.specs.Flat.{Flat, Plain, Jump, Code, one, past, past_if_false}
use Rattle.dy_lowered.specs.Parts.{truth, read, kept, captures as captured_code, closing, Method, declared, defined, local_methods, loop, assigned, put, cell, cells, arguments, with_arguments, calling, choice, branching, first_alone, Comparing, by_identity, by_function, compared, meeting, arm, selecting, or_no_match, waiting, select, stored, bound, letting, Part, Runs, Binds, Handles, part_code, values_behind, handler_count, without_handlers, body}
use Rattle.dy_lowered.specs.Terms.{when_function, function_of}
use Rattle.dy_lowering_whole.specs.valid.Writing.{IsNamed, IsBody, FlatFits}
use Rattle.dy_lowering_whole.specs.valid.Simple.{FlatSimple, PlaceFits}
use Rattle.dy_lowering_whole.proofs.valid.Laying.{every_append}
use Rattle.dy_lowering_whole.proofs.valid.Sameness.{no}

module _ (made : ℕ → ℕ → Type 0) (bodies : List FlatBody) (locals captures : ℕ) where
  abbrev pub Fine : Flat → Type 0
  Fine flat = FlatFits bodies locals captures flat × FlatSimple made flat

  abbrev pub Fit : Code → Type 0
  Fit code = Every Fine code

  abbrev pub There : Place → Type 0
  There place = PlaceFits locals captures place

  pub fit_join : (first second : Code) → Fit first → Fit second → Fit (first ++ second)
  fit_join first second a b = every_append Fine first second a b

  pub fit_truth : (value : Bool) → Fit (truth value)
  fit_truth value = ((tt, tt), tt)

  pub fit_read : (place : Place) → There place → Fit (read place)
  fit_read (Own number false) h = ((h, tt), tt)
  fit_read (Own number true) h = ((h, tt), tt)
  fit_read (Captured number) h = ((h, tt), tt)

  pub fit_assigned : (place : Place) → There place → Fit (assigned place)
  fit_assigned (Own number false) h = ((h, tt), tt)
  fit_assigned (Own number true) h = ((h, tt), tt)
  fit_assigned (Captured number) h = ((h, tt), tt)

  pub fit_put : (place : Place) → There place → Fit (put place)
  fit_put (Own number in_cell) h = ((h, tt), tt)
  fit_put (Captured number) h = tt

  pub fit_cell : (place : Place) → There place → Fit (cell place)
  fit_cell (Own number true) h = ((h, tt), tt)
  fit_cell (Own number false) h = tt
  fit_cell (Captured number) h = tt

  pub fit_cells : (places : List Place) → Every There places → Fit (cells places)
  fit_cells [] all = tt
  fit_cells (place ∷ places) all = fit_join (cell place) (cells places) (fit_cell place all.0) (fit_cells places all.1)

  fit_arguments : (terms : List Code) → Every Fit terms → Fit (arguments terms)
  fit_arguments [] all = tt
  fit_arguments (term ∷ terms) all = fit_join term (Plain instr.Push ∷ arguments terms) all.0 ((tt, tt), fit_arguments terms all.1)

  pub fit_with : (terms : List Code) (call : Instruction) → Every Fit terms → Fine (Plain call) → Fit (with_arguments terms call)
  fit_with terms call all h = fit_join (arguments terms) (one call) (fit_arguments terms all) (h, tt)

  abbrev pub IsFunction : Option BindingId → Type 0
  IsFunction None = Unit {0}
  IsFunction (Some named) = named.what ≡ whats.Function

  pub fit_calling : (named : Option BindingId) (function : Code) (terms : List Code) → IsFunction named → Fit function → Every Fit terms → Fit (calling named function terms)
  fit_calling (Some named) function terms is h all = fit_with terms (instr.CallKnown named (length terms)) all (is, tt)
  fit_calling None function terms is h all = fit_join function (Plain instr.Push ∷ with_arguments terms (instr.CallValue (length terms))) h ((tt, tt), fit_with terms (instr.CallValue (length terms)) all (tt, tt))

  pub fit_choice : (test guarded other : Code) → Fit test → Fit guarded → Fit other → Fit (choice test guarded other)
  fit_choice test guarded other a b c =
      fit_join test (past_if_false (length guarded + 1) ∷ (guarded ++ (past (length other) ∷ other))) a ((tt, tt), fit_join guarded (past (length other) ∷ other) b ((tt, tt), c))

  abbrev pub PairsFit : List (Code × Code) → Type 0
  PairsFit [] = Unit {0}
  PairsFit (branch ∷ branches) = Fit branch.0 × Fit branch.1 × PairsFit branches

  pub fit_branching : (branches : List (Code × Code)) (other : Code) → PairsFit branches → Fit other → Fit (branching branches other)
  fit_branching [] other all h = h
  fit_branching (branch ∷ branches) other all h = fit_choice branch.0 branch.1 (branching branches other) all.0 all.1 (fit_branching branches other all.2 h)

  pub fit_first_alone : Fit first_alone
  fit_first_alone = ((tt, tt), ((tt, tt), tt))

  -- how a `select` compares
  record ComparesFit (by : Comparing) : Type 0 where
    pub compares : (value : Code) → Fit value → Fit (compared by value)
    pub away : Fine (Plain by.away)

  identity_fits : ComparesFit by_identity
  identity_fits = record { compares = λ value h. ((tt, tt), ((tt, tt), ((tt, tt), fit_join value _ h ((tt, tt), ((tt, tt), tt))))); away = (tt, tt) }

  function_fits : ComparesFit by_function
  function_fits = record { compares = λ value h. ((tt, tt), ((tt, tt), ((tt, tt), fit_join value _ h ((tt, tt), ((tt, tt), tt))))); away = (tt, tt) }

  abbrev pub ArmsFit : List (List Code × Code) → Type 0
  ArmsFit [] = Unit {0}
  ArmsFit (first ∷ arms) = Every Fit first.0 × Fit first.1 × ArmsFit arms

  module _ (by : Comparing) (how : ComparesFit by) where
    fit_meeting : (values : List Code) (missed : ℕ) → Every Fit values → Fit (meeting by values missed)
    fit_meeting [] missed all = ((tt, tt), tt)
    fit_meeting (value ∷ values) missed all =
        let others = meeting by values missed in
        fit_join (compared by value) (past_if_false 1 ∷ past (length others) ∷ others) (how.compares value all.0) ((tt, tt), ((tt, tt), fit_meeting values missed all.1))

    fit_arm : (values : List Code) (term others : Code) → Every Fit values → Fit term → Fit others → Fit (arm by values term others)
    fit_arm values term others all h rest =
        let met = Plain by.away ∷ (term ++ past (length others) ∷ []) in
        fit_join (meeting by values (length met)) (met ++ others) (fit_meeting values (length met) all)
        (fit_join met others (how.away, fit_join term (past (length others) ∷ []) h ((tt, tt), tt)) rest)

    fit_selecting : (arms : List (List Code × Code)) (missed : Code) → ArmsFit arms → Fit missed → Fit (selecting by arms missed)
    fit_selecting [] missed all h = (how.away, h)
    fit_selecting (first ∷ arms) missed all h = fit_arm first.0 first.1 (selecting by arms missed) all.0 all.1 (fit_selecting arms missed all.2 h)

  abbrev pub HeldFit : Option Code → Type 0
  HeldFit None = Unit {0}
  HeldFit (Some term) = Fit term

  fit_or_no_match : (last : Option Code) → HeldFit last → Fit (or_no_match last)
  fit_or_no_match None h = ((tt, tt), tt)
  fit_or_no_match (Some term) h = h

  fit_waiting : (test : Code) → Fit test → Fit (waiting test)
  fit_waiting test h = ((tt, tt), fit_join test (Plain instr.Push ∷ Plain instr.Restore ∷ one instr.Push) h ((tt, tt), ((tt, tt), ((tt, tt), tt))))

  pub fit_select : (value : Code) (test : Option Code) (arms : List (List Code × Code)) (last : Option Code) → Fit value → HeldFit test → ArmsFit arms → HeldFit last → Fit (select value test arms last)
  fit_select value None arms last a b c d =
      let rest = selecting by_identity arms (or_no_match last) in
      fit_join value (Plain instr.Push ∷ rest) a ((tt, tt), fit_selecting by_identity identity_fits arms (or_no_match last) c (fit_or_no_match last d))
  fit_select value (Some test) arms last a b c d =
      let rest = selecting by_function arms (or_no_match last) in
      fit_join value (waiting test ++ rest) a (fit_join (waiting test) rest (fit_waiting test b) (fit_selecting by_function function_fits arms (or_no_match last) c (fit_or_no_match last d)))

  -- binding
  fit_stored : (places : List Place) → Every There places → Fit (stored places)
  fit_stored [] all = tt
  fit_stored (place ∷ places) all = fit_join (stored places) (Plain (instr.Values 1) ∷ put place) (fit_stored places all.1) ((tt, tt), fit_put place all.0)

  fit_all : (places : List Place) → Every There places → Fit (stored places ++ cells places)
  fit_all places all = fit_join (stored places) (cells places) (fit_stored places all) (fit_cells places all)

  abbrev pub RestFits : Option Place → Type 0
  RestFits None = Unit {0}
  RestFits (Some place) = There place

  fit_bound : (places : List Place) (rest : Option Place) → Every There places → RestFits rest → Fit (bound places rest)
  fit_bound (place ∷ []) None all h = fit_join (put place) (cell place) (fit_put place all.0) (fit_cell place all.0)
  fit_bound [] None all h = ((tt, tt), fit_all [] all)
  fit_bound (place ∷ other ∷ others) None all h = ((tt, tt), fit_all (place ∷ other ∷ others) all)
  fit_bound places (Some rest) all h = ((tt, tt), fit_all (places ++ rest ∷ []) (every_append There places (rest ∷ []) all (h, tt)))

  pub fit_letting : (places : List Place) (rest : Option Place) (term : Code) → Every There places → RestFits rest → Fit term → Fit (letting places rest term)
  fit_letting places rest term all h k = fit_join term (bound places rest) k (fit_bound places rest all h)

  -- bodies
  abbrev pub PartFits : Part → Type 0
  PartFits (Runs term) = Fit term
  PartFits (Binds binding) = Fit binding
  PartFits (Handles condition function) = Fit function

  fit_part : (part : Part) → PartFits part → Fit (part_code part)
  fit_part (Runs term) h = h
  fit_part (Binds binding) h = h
  fit_part (Handles condition function) h = fit_join function (Plain instr.Push ∷ one (instr.Handle condition)) h ((tt, tt), ((tt, tt), tt))

  fit_parts : (parts : List Part) → Every PartFits parts → Fit (flat_map part_code parts)
  fit_parts [] all = tt
  fit_parts (part ∷ parts) all = fit_join (part_code part) (flat_map part_code parts) (fit_part part all.0) (fit_parts parts all.1)

  fit_values : (parts : List Part) (values : Code) → Fit values → Fit (values_behind parts values)
  fit_values [] values h = h
  fit_values (Runs term ∷ parts) values h = fit_values parts [] tt
  fit_values (Binds binding ∷ parts) values h = fit_values parts (truth false) (fit_truth false)
  fit_values (Handles condition function ∷ parts) values h = fit_values parts (truth false) (fit_truth false)

  fit_without : (count : ℕ) → Fit (without_handlers count)
  fit_without zero = tt
  fit_without (suc count) = ((tt, tt), tt)

  pub fit_body : (parts : List Part) → Every PartFits parts → Fit (body parts)
  fit_body parts all =
      fit_join (flat_map part_code parts) (values_behind parts (truth false) ++ without_handlers (handler_count parts)) (fit_parts parts all)
      (fit_join (values_behind parts (truth false)) (without_handlers (handler_count parts)) (fit_values parts (truth false) (fit_truth false)) (fit_without (handler_count parts)))

  pub fit_loop : (test inner : Code) → Fit test → Fit inner → Fit (loop test inner)
  fit_loop test inner a b =
      let last = Jump (negsuc (length test + length inner + 2)) ∷ truth false in
      fit_join test (past_if_false (length inner + 2) ∷ Plain instr.Tick ∷ (inner ++ last)) a ((tt, tt), ((tt, tt), fit_join inner last b ((tt, tt), ((tt, tt), tt))))

  -- closures
  fit_kept : (place : Place) → There place → Fit (kept place)
  fit_kept (Own number in_cell) h = ((h, tt), tt)
  fit_kept (Captured number) h = ((h, tt), tt)

  fit_captures : (places : List Place) → Every There places → Fit (captured_code places)
  fit_captures [] all = tt
  fit_captures (place ∷ places) all = fit_join (kept place) (Plain instr.Push ∷ captured_code places) (fit_kept place all.0) ((tt, tt), fit_captures places all.1)

  pub fit_closing : (number : ℕ) (places : List Place) → Every There places → IsBody bodies number (length places) × made number (length places) → Fit (closing number places)
  fit_closing number places all known = fit_join (captured_code places) (one (instr.Closure number (length places))) (fit_captures places all) ((known.0, known.1), tt)

  -- a local method
  abbrev pub MethodFits : Method → Type 0
  MethodFits method = There method.place × Every There method.captured × (IsBody bodies method.body (length method.captured) × made method.body (length method.captured))

  fit_declared : (methods : List Method) → Every MethodFits methods → Fit (declared methods)
  fit_declared [] all = tt
  fit_declared (method ∷ methods) all =
      let first = all.0 in
      fit_join (put method.place ++ cell method.place) (declared methods) (fit_join (put method.place) (cell method.place) (fit_put method.place first.0) (fit_cell method.place first.0)) (fit_declared methods all.1)

  fit_defined : (methods : List Method) → Every MethodFits methods → Fit (defined methods)
  fit_defined [] all = tt
  fit_defined (method ∷ methods) all =
      let first = all.0 in
      fit_join (closing method.body method.captured ++ assigned method.place) (defined methods)
      (fit_join (closing method.body method.captured) (assigned method.place) (fit_closing method.body method.captured first.1 first.2) (fit_assigned method.place first.0)) (fit_defined methods all.1)

  pub fit_local_methods : (methods : List Method) → Every MethodFits methods → Fit (local_methods methods)
  fit_local_methods methods all = fit_join (truth false) (declared methods ++ defined methods) (fit_truth false) (fit_join (declared methods) (defined methods) (fit_declared methods all) (fit_defined methods all))

  pub named_of : (w : What) → is_variable w ≡ true → IsNamed w
  named_of whats.Class e = tt
  named_of whats.Generic e = tt
  named_of whats.Variable e = tt
  named_of whats.Constant e = tt
  named_of whats.Function e = tt
  named_of whats.Macro e = no e

  when_is : (w : What) (named : BindingId) → named.what ≡ w → IsFunction (when_function w named)
  when_is whats.Class named e = tt
  when_is whats.Generic named e = tt
  when_is whats.Variable named e = tt
  when_is whats.Constant named e = tt
  when_is whats.Function named e = e
  when_is whats.Macro named e = tt

  pub function_is : (t : Term-F ForClause Item Term BlockRow ForRow Lambda) → IsFunction (function_of t)
  function_is (Term-F.Global binding) = when_is binding.what binding refl
  function_is _ = tt

  pub less_of : (n m : ℕ) → nat_lt n m ≡ true → n < m
  less_of n m e = grind (arith, e)
