-- The code of a `for` names what is there, where that of its parts does.
use Rattle.std.proofs.Common.{◌≡◌, ℕ, zero, suc, ◌+◌, Bool, true, false, ◌&&◌, ℤ, pos, negsuc, ◌+ℤ◌, ◌-ℤ◌, List, [], ◌∷◌, ◌++◌, length, Option, Some, None, refl}
use Rattle.std.specs.Prelude.{flat_map, int_lt, if◌then◌else◌}
use Rattle.std.specs.List.{list_all}
use Rattle.dy_term.specs.declared.term.Limit.{Limit}
use Rattle.dy_term.specs.declared.term.Limit.TheVariants.{To, Above, Below}
use Rattle.dy_outcome.specs.declared.place.Place.{Place}
use Rattle.dy_code.specs.Fetching as instr
use Rattle.dy_code.specs.Validity.{Every}
use Rattle.dy_meaning.specs.Meaning.{identity}
use Rattle.dy_lowered.specs.Bodies.{FlatBody}
use Rattle.dy_lowered.specs.Flat.{Flat, Plain, Jump, JumpFalse, Code, one, past_if_false, past}
use Rattle.dy_lowered.specs.Parts.{read, put, cell}
use Rattle.dy_lowered.specs.Turns.{Amount, Known, Given, Clause, Takes, Counts, Counter, addition, comparison, number, with_number, integer, leaves_if, greatest_number, bound_below, bound_above, tested_by, room_for, bound_starting, stepping, up_to, raised, meeting, by_one, counter, tested, finished, counted, operand, operands, all_operands, amount, bound, starting, variable, bindings, limit_reached, testing, tests, overflows, counted_on, advancing, advances, renewed, turns, for_loop}
use Rattle.dy_lowering_whole.proofs.valid.Fitting.{Fine, Fit, There, HeldFit, fit_join, fit_truth, fit_read, fit_put, fit_cell}
use Rattle.dy_lowering_whole.proofs.valid.Sameness.{both_true, no}

-- Instructions that name nothing.
abbrev names_nothing : Flat → Bool
names_nothing (Plain (instr.Const value)) = true
names_nothing (Plain instr.Push) = true
names_nothing (Plain instr.Tick) = true
names_nothing (Plain (instr.Values count)) = true
names_nothing (Plain (instr.Spread count collects)) = true
names_nothing (Plain (instr.Op operation count)) = true
names_nothing (Plain instr.Save) = true
names_nothing (Plain instr.Restore) = true
names_nothing (Jump distance) = true
names_nothing (JumpFalse distance) = true
names_nothing _ = false

module _ (made : ℕ → ℕ → Type 0) (bodies : List FlatBody) (locals captures : ℕ) where
  abbrev Fits : Code → Type 0
  Fits code = Fit made bodies locals captures code

  abbrev Here : Place → Type 0
  Here place = There made bodies locals captures place

  abbrev pub AmountFits : Amount → Type 0
  AmountFits (Known number) = Unit {0}
  AmountFits (Given code) = Fits code

  abbrev pub LimitFits : Option (Limit × Amount) → Type 0
  LimitFits None = Unit {0}
  LimitFits (Some limit) = AmountFits limit.1

  abbrev pub ClauseFits : Clause → Type 0
  ClauseFits (Takes place start next) = Here place × Fits start × Fits next
  ClauseFits (Counts place start limit step) = Here place × Fits start × LimitFits limit × AmountFits step

  abbrev pub TestFits : Option (Bool × Code) → Type 0
  TestFits None = Unit {0}
  TestFits (Some test) = Fits test.1

  nothing_fits : (flat : Flat) → names_nothing flat ≡ true → Fine made bodies locals captures flat
  nothing_fits (Plain (instr.Const value)) e = (tt, tt)
  nothing_fits (Plain instr.Push) e = (tt, tt)
  nothing_fits (Plain instr.Tick) e = (tt, tt)
  nothing_fits (Plain (instr.Values count)) e = (tt, tt)
  nothing_fits (Plain (instr.Spread count collects)) e = (tt, tt)
  nothing_fits (Plain (instr.Op operation count)) e = (tt, tt)
  nothing_fits (Plain instr.Save) e = (tt, tt)
  nothing_fits (Plain instr.Restore) e = (tt, tt)
  nothing_fits (Jump distance) e = (tt, tt)
  nothing_fits (JumpFalse distance) e = (tt, tt)
  nothing_fits _ e = no e

  fits : (code : Code) → list_all names_nothing code ≡ true → Fits code
  fits [] e = tt
  fits (flat ∷ code) e = let p = both_true (names_nothing flat) (list_all names_nothing code) e in (nothing_fits flat p.0, fits code p.1)

  join : (first second : Code) → Fits first → Fits second → Fits (first ++ second)
  join first second a b = fit_join made bodies locals captures first second a b

  fit_integer : (term : Code) → Fits term → Fits (integer term)
  fit_integer term h =
      let test = Plain instr.Push ∷ Plain instr.Push ∷ (with_number comparison (pos 0) ++ one (instr.Values 1)) in
      join term test h (fits test refl)

  fit_amount : (value : Amount) → AmountFits value → Fits (amount value)
  fit_amount (Known value) h = fits (number value) refl
  fit_amount (Given code) h = fit_integer code h

  fit_leaves : (test : Bool) (away : ℕ) → Fits (leaves_if test away)
  fit_leaves true away = fits (leaves_if true away) refl
  fit_leaves false away = fits (leaves_if false away) refl

  fit_tested : (test : Option (Bool × Code)) (away : ℕ) → TestFits test → Fits (tested test away)
  fit_tested None away h = tt
  fit_tested (Some test) away h = join test.1 (leaves_if test.0 away) h (fit_leaves test.0 away)

  fit_finished : (last : Option Code) → HeldFit made bodies locals captures last → Fits (finished last)
  fit_finished None h = fit_truth made bodies locals captures false
  fit_finished (Some term) h = h

  -- ways to count
  record CounterFits (clause : Counter) : Type 0 where
    pub starts : Fits clause.starting
    pub tests : (place : Place) (away : ℕ) → Here place → Fits (clause.testing place away)
    pub advances : (away : ℕ) → Fits (clause.advancing away)

  fit_starting : (start : Code) (limit : Option (Limit × Amount)) → Fits start → LimitFits limit → Fits (bound_starting start limit)
  fit_starting start None h k = fit_integer start h
  fit_starting start (Some (limit, Known bound)) h k = fit_integer start h
  fit_starting start (Some (limit, Given code)) h k =
      let end = Plain instr.Push ∷ one instr.Restore in
      join (integer start) (Plain instr.Save ∷ (integer code ++ end)) (fit_integer start h) ((tt, tt), join (integer code) end (fit_integer code k) (fits end refl))

  fit_around : (front end : Code) (place : Place) → Here place → list_all names_nothing front ≡ true → list_all names_nothing end ≡ true → Fits (front ++ (read place ++ end))
  fit_around front end place here e f = join front (read place ++ end) (fits front e) (join (read place) end (fit_read made bodies locals captures place here) (fits end f))

  fit_below : (bound : Amount) (place : Place) → Here place → Fits (bound_below bound place)
  fit_below (Known bound) place here = fit_around (number bound ++ one instr.Push) (Plain instr.Push ∷ one (instr.Op comparison 2)) place here refl refl
  fit_below (Given code) place here = fit_around (Plain (instr.Values 1) ∷ Plain instr.Push ∷ one instr.Push) (Plain instr.Push ∷ one (instr.Op comparison 2)) place here refl refl

  fit_above : (bound : Amount) (place : Place) → Here place → Fits (bound_above bound place)
  fit_above (Known bound) place here = fits (bound_above (Known bound) place) refl
  fit_above (Given code) place here = fit_around (Plain (instr.Values 1) ∷ Plain instr.Push ∷ one instr.Save) (Plain instr.Push ∷ Plain instr.Restore ∷ Plain instr.Push ∷ one (instr.Op comparison 2)) place here refl refl

  fit_if : (test : Bool) (left right : Code) → Fits left → Fits right → Fits (if test then left else right)
  fit_if true left right a b = a
  fit_if false left right a b = b

  fit_tested_by : (step : ℤ) (limit : Option (Limit × Amount)) (place : Place) (away : ℕ) → Here place → Fits (tested_by step limit place away)
  fit_tested_by step None place away here = tt
  fit_tested_by step (Some (To, bound)) place away here =
      join (if int_lt step (pos 0) then bound_above bound place else bound_below bound place) (leaves_if true away) (fit_if (int_lt step (pos 0)) (bound_above bound place) (bound_below bound place) (fit_above bound place here) (fit_below bound place here)) (fit_leaves true away)
  fit_tested_by step (Some (Above, bound)) place away here = join (bound_below bound place) (leaves_if false away) (fit_below bound place here) (fit_leaves false away)
  fit_tested_by step (Some (Below, bound)) place away here = join (bound_above bound place) (leaves_if false away) (fit_above bound place here) (fit_leaves false away)

  fit_room : (step : ℤ) (away : ℕ) → Fits (room_for step away)
  fit_room (pos zero) away = tt
  fit_room (pos (suc m)) away = fits (room_for (pos (suc m)) away) refl
  fit_room (negsuc m) away = fits (room_for (negsuc m) away) refl

  counts_by : (start : Code) (limit : Option (Limit × Amount)) (step : ℤ) → Fits start → LimitFits limit → CounterFits (stepping start limit step)
  counts_by start limit step h k = record {
    starts = fit_starting start limit h k;
    tests = λ place away here. fit_tested_by step limit place away here;
    advances = λ away. join (room_for step (3 + away)) (with_number addition step) (fit_room step (3 + away)) (fits (with_number addition step) refl);
  }

  counts_up : (start : Code) (bound : ℤ) → Fits start → CounterFits (up_to start bound)
  counts_up start bound h = record {
    starts = fit_integer start h;
    tests = λ place away here. fit_tested_by (pos 1) (Some (Below, Known bound)) place away here;
    advances = λ away. fits (with_number addition (pos 1)) refl;
  }

  counts_until : (start bound : Code) → Fits start → Fits bound → CounterFits (meeting start bound)
  counts_until start bound h k = record {
    starts = join (bound_starting start (Some (Below, Given bound))) raised (fit_starting start (Some (Below, Given bound)) h k) (fits raised refl);
    tests = λ place away here.
        let front = Plain (instr.Values 1) ∷ Plain instr.Push ∷ one instr.Push in
        let end = Plain instr.Push ∷ Plain (instr.Op identity 2) ∷ leaves_if true away in
        fit_around front end place here refl refl;
    advances = λ away. fits (with_number addition (pos 1)) refl;
  }

  if_counts : (test : Bool) (left right : Counter) → CounterFits left → CounterFits right → CounterFits (if test then left else right)
  if_counts true left right a b = a
  if_counts false left right a b = b

  by_one_counts : (start : Code) (limit : Option (Limit × Amount)) → Fits start → LimitFits limit → CounterFits (by_one start limit)
  by_one_counts start None h k = counts_by start None (pos 1) h k
  by_one_counts start (Some (Below, Known bound)) h k = counts_up start bound h
  by_one_counts start (Some (Below, Given bound)) h k = counts_until start bound h k
  by_one_counts start (Some (To, Known bound)) h k =
      if_counts (int_lt bound greatest_number) (up_to start (bound +ℤ pos 1)) (stepping start (Some (To, Known bound)) (pos 1)) (counts_up start (bound +ℤ pos 1) h) (counts_by start (Some (To, Known bound)) (pos 1) h k)
  by_one_counts start (Some (To, Given bound)) h k = counts_by start (Some (To, Given bound)) (pos 1) h k
  by_one_counts start (Some (Above, Known bound)) h k = counts_by start (Some (Above, Known bound)) (pos 1) h k
  by_one_counts start (Some (Above, Given bound)) h k = counts_by start (Some (Above, Given bound)) (pos 1) h k

  counter_fits : (start : Code) (limit : Option (Limit × Amount)) (step : ℤ) → Fits start → LimitFits limit → CounterFits (counter start limit step)
  counter_fits start limit (pos (suc zero)) h k = by_one_counts start limit h k
  counter_fits start limit (pos zero) h k = counts_by start limit (pos zero) h k
  counter_fits start limit (pos (suc (suc step))) h k = counts_by start limit (pos (suc (suc step))) h k
  counter_fits start limit (negsuc step) h k = counts_by start limit (negsuc step) h k

  fit_counted : (place : Place) (clause : Counter) (test : Option (Bool × Code)) (inner : Code) (last : Option Code) → Here place → CounterFits clause → TestFits test → Fits inner → HeldFit made bodies locals captures last → Fits (counted place clause test inner last)
  fit_counted place clause test inner last here is test_fits inner_fits last_fits =
      let body = Plain instr.Tick ∷ (inner ++ clause.advancing 2) in
      let test_code = tested test (length body + 2) in
      let rest = read place ++ (Plain instr.Push ∷ (test_code ++ body)) in
      let check = clause.testing place (length rest + 1) in
      let turn = put place ++ (cell place ++ (check ++ rest)) in
      let end = Jump (negsuc (length turn)) ∷ Plain instr.Push ∷ Plain (instr.Values (clause.hidden + 1)) ∷ finished last in
      join clause.starting (turn ++ end) is.starts
      (join turn end
      (join (put place) (cell place ++ (check ++ rest)) (fit_put made bodies locals captures place here)
      (join (cell place) (check ++ rest) (fit_cell made bodies locals captures place here)
      (join check rest (is.tests place (length rest + 1) here)
      (join (read place) (Plain instr.Push ∷ (test_code ++ body)) (fit_read made bodies locals captures place here)
      ((tt, tt), join test_code body (fit_tested test (length body + 2) test_fits) ((tt, tt), join inner (clause.advancing 2) inner_fits (is.advances 2)))))))
      ((tt, tt), ((tt, tt), ((tt, tt), fit_finished last last_fits))))

  -- loops of any clauses
  fit_bound : (limit : Option (Limit × Amount)) → LimitFits limit → Fits (bound limit)
  fit_bound None h = fit_truth made bodies locals captures false
  fit_bound (Some limit) h = fit_amount limit.1 h

  fit_start : (clause : Clause) → ClauseFits clause → Fits (starting clause)
  fit_start (Takes place start next) h = join start (one instr.Push) h.1 (fits (one instr.Push) refl)
  fit_start (Counts place start limit step) h =
      let end = amount step ++ one instr.Push in
      join (integer start) (Plain instr.Push ∷ (bound limit ++ (Plain instr.Push ∷ end))) (fit_integer start h.1)
      ((tt, tt), join (bound limit) (Plain instr.Push ∷ end) (fit_bound limit h.2) ((tt, tt), join (amount step) (one instr.Push) (fit_amount step h.3) (fits (one instr.Push) refl)))

  fit_starts : (clauses : List Clause) → Every ClauseFits clauses → Fits (flat_map starting clauses)
  fit_starts [] every = tt
  fit_starts (clause ∷ clauses) every = join (starting clause) (flat_map starting clauses) (fit_start clause every.0) (fit_starts clauses every.1)

  clause_place : (clause : Clause) → ClauseFits clause → Here (variable clause)
  clause_place (Takes place start next) h = h.0
  clause_place (Counts place start limit step) h = h.0

  fit_bindings : (clauses : List Clause) → Every ClauseFits clauses → Fits (bindings clauses)
  fit_bindings [] every = tt
  fit_bindings (clause ∷ clauses) every =
      let place = variable clause in
      let here = clause_place clause every.0 in
      let sum = operands clause + all_operands clauses in
      join (operand sum) (put place ++ (cell place ++ bindings clauses)) (fits (operand sum) refl)
      (join (put place) (cell place ++ bindings clauses) (fit_put made bodies locals captures place here) (join (cell place) (bindings clauses) (fit_cell made bodies locals captures place here) (fit_bindings clauses every.1)))

  fit_limit : (limit : Limit) (above away : ℕ) → Fits (limit_reached limit above away)
  fit_limit To above away = fits (limit_reached To above away) refl
  fit_limit Above above away = fits (limit_reached Above above away) refl
  fit_limit Below above away = fits (limit_reached Below above away) refl

  fit_testing : (clause : Clause) (above away : ℕ) → Fits (testing clause above away)
  fit_testing (Takes place start next) above away = tt
  fit_testing (Counts place start None step) above away = tt
  fit_testing (Counts place start (Some limit) step) above away = fit_limit limit.0 above away

  fit_tests : (clauses : List Clause) (far : ℕ) → Fits (tests clauses far)
  fit_tests [] far = tt
  fit_tests (clause ∷ clauses) far =
      let rest = tests clauses far in
      let away = length rest + far in
      join (testing clause (all_operands clauses) away) rest (fit_testing clause (all_operands clauses) away) (fit_tests clauses far)

  fit_overflows : (step : Amount) (above : ℕ) → Fits (overflows step above)
  fit_overflows (Known (pos m)) above = fits (overflows (Known (pos m)) above) refl
  fit_overflows (Known (negsuc m)) above = fits (overflows (Known (negsuc m)) above) refl
  fit_overflows (Given code) above = fits (overflows (Given code) above) refl

  fit_advancing : (clause : Clause) (before above away : ℕ) → ClauseFits clause → Fits (advancing clause before above away)
  fit_advancing (Takes place start next) before above away h = join next (one instr.Push) h.2 (fits (one instr.Push) refl)
  fit_advancing (Counts place start limit step) before above away h =
      let on = counted_on above in
      join (overflows step above) (past_if_false 2 ∷ Plain (instr.Values before) ∷ past (length on + away) ∷ on) (fit_overflows step above) ((tt, tt), ((tt, tt), ((tt, tt), fits on refl)))

  fit_advances : (clauses : List Clause) (before far : ℕ) → Every ClauseFits clauses → Fits (advances before clauses far)
  fit_advances [] before far every = tt
  fit_advances (clause ∷ clauses) before far every =
      let rest = advances (before + operands clause) clauses far in
      let above = before + all_operands clauses in
      let away = length rest + far in
      join (advancing clause before above away) rest (fit_advancing clause before above away every.0) (fit_advances clauses (before + operands clause) far every.1)

  fit_turns : (clauses : List Clause) (test : Option (Bool × Code)) (inner : Code) (last : Option Code) → Every ClauseFits clauses → TestFits test → Fits inner → HeldFit made bodies locals captures last → Fits (turns clauses test inner last)
  fit_turns clauses test inner last every test_fits inner_fits last_fits =
      let sum = all_operands clauses in
      let goes_on = advances 0 clauses 6 in
      let body = Plain instr.Tick ∷ (inner ++ (goes_on ++ renewed sum)) in
      let test_code = tested test (length body + 1) in
      let rest = test_code ++ body in
      let checks = tests clauses (length rest + 1) in
      let turn = bindings clauses ++ (checks ++ rest) in
      let end = Jump (negsuc (length turn)) ∷ Plain (instr.Values sum) ∷ finished last in
      join (flat_map starting clauses) (turn ++ end) (fit_starts clauses every)
      (join turn end
      (join (bindings clauses) (checks ++ rest) (fit_bindings clauses every)
      (join checks rest (fit_tests clauses (length rest + 1))
      (join test_code body (fit_tested test (length body + 1) test_fits) ((tt, tt), join inner (goes_on ++ renewed sum) inner_fits (join goes_on (renewed sum) (fit_advances clauses 0 6 every) (fits (renewed sum) refl))))))
      ((tt, tt), ((tt, tt), fit_finished last last_fits)))

  pub fit_for : (clauses : List Clause) (test : Option (Bool × Code)) (inner : Code) (last : Option Code) → Every ClauseFits clauses → TestFits test → Fits inner → HeldFit made bodies locals captures last → Fits (for_loop clauses test inner last)
  fit_for [] test inner last every test_fits inner_fits last_fits = fit_turns [] test inner last every test_fits inner_fits last_fits
  fit_for (Takes place start next ∷ clauses) test inner last every test_fits inner_fits last_fits = fit_turns (Takes place start next ∷ clauses) test inner last every test_fits inner_fits last_fits
  fit_for (Counts place start limit (Known step) ∷ []) test inner last every test_fits inner_fits last_fits =
      let h = every.0 in
      fit_counted place (counter start limit step) test inner last h.0 (counter_fits start limit step h.1 h.2) test_fits inner_fits last_fits
  fit_for (Counts place start limit (Known step) ∷ clause ∷ clauses) test inner last every test_fits inner_fits last_fits = fit_turns (Counts place start limit (Known step) ∷ clause ∷ clauses) test inner last every test_fits inner_fits last_fits
  fit_for (Counts place start limit (Given step) ∷ []) test inner last every test_fits inner_fits last_fits = fit_turns (Counts place start limit (Given step) ∷ []) test inner last every test_fits inner_fits last_fits
  fit_for (Counts place start limit (Given step) ∷ clause ∷ clauses) test inner last every test_fits inner_fits last_fits = fit_turns (Counts place start limit (Given step) ∷ clause ∷ clauses) test inner last every test_fits inner_fits last_fits
