-- The code of a `for` calls generic functions that are there, where that of its parts does.
use Rattle.std.proofs.Common.{◌≡◌, ℕ, zero, suc, ◌+◌, Bool, true, false, ℤ, pos, negsuc, ◌+ℤ◌, List, [], ◌∷◌, ◌++◌, length, Option, Some, None, refl}
use Rattle.std.specs.Prelude.{flat_map, int_lt, if◌then◌else◌}
use Rattle.std.specs.List.{list_all}
use Rattle.dy_term.specs.declared.term.Limit.{Limit}
use Rattle.dy_term.specs.declared.term.Limit.TheVariants.{To, Above, Below}
use Rattle.dy_outcome.specs.declared.place.Place.{Place}
use Rattle.dy_code.specs.declared.unit.Linked.{Linked}
use Rattle.dy_code.specs.Fetching as instr
use Rattle.dy_code.specs.Validity.{Every}
use Rattle.dy_meaning.specs.Meaning.{identity}
use Rattle.dy_lowered.specs.Flat.{Plain, Jump, Code, one, past_if_false, past}
use Rattle.dy_lowered.specs.Parts.{read, put, cell}
use Rattle.dy_lowered.specs.Turns.{Amount, Known, Given, Clause, Takes, Counts, Counter, addition, comparison, number, with_number, integer, leaves_if, greatest_number, bound_below, bound_above, tested_by, room_for, bound_starting, stepping, up_to, raised, meeting, by_one, counter, tested, finished, counted, operand, operands, all_operands, amount, bound, starting, variable, bindings, limit_reached, testing, tests, overflows, counted_on, advancing, advances, renewed, turns, for_loop}
use Rattle.dy_lowering_whole.proofs.called.Pieces.{searches_nothing, Found, SomeFound, plain as plain_in, join as join_in, found_read, found_put, found_cell}

module _ (linked : Linked) where
  abbrev Good : Code → Type 0
  Good code = Found linked code

  join : (first second : Code) → Good first → Good second → Good (first ++ second)
  join first second a b = join_in linked first second a b

  plain : (code : Code) → list_all searches_nothing code ≡ true → Good code
  plain code e = plain_in linked code e

  abbrev pub AmountFound : Amount → Type 0
  AmountFound (Known number) = Unit {0}
  AmountFound (Given code) = Good code

  abbrev pub LimitFound : Option (Limit × Amount) → Type 0
  LimitFound None = Unit {0}
  LimitFound (Some limit) = AmountFound limit.1

  abbrev pub TurnFound : Clause → Type 0
  TurnFound (Takes place start next) = Good start × Good next
  TurnFound (Counts place start limit step) = Good start × LimitFound limit × AmountFound step

  abbrev pub TestFound : Option (Bool × Code) → Type 0
  TestFound None = Unit {0}
  TestFound (Some test) = Good test.1

  found_integer : (term : Code) → Good term → Good (integer term)
  found_integer term h =
      let test = Plain instr.Push ∷ Plain instr.Push ∷ (with_number comparison (pos 0) ++ one (instr.Values 1)) in
      join term test h (plain test refl)

  found_amount : (value : Amount) → AmountFound value → Good (amount value)
  found_amount (Known value) h = plain (number value) refl
  found_amount (Given code) h = found_integer code h

  found_leaves : (test : Bool) (away : ℕ) → Good (leaves_if test away)
  found_leaves true away = plain (leaves_if true away) refl
  found_leaves false away = plain (leaves_if false away) refl

  found_tested : (test : Option (Bool × Code)) (away : ℕ) → TestFound test → Good (tested test away)
  found_tested None away h = tt
  found_tested (Some test) away h = join test.1 (leaves_if test.0 away) h (found_leaves test.0 away)

  found_finished : (last : Option Code) → SomeFound linked last → Good (finished last)
  found_finished None h = (tt, tt)
  found_finished (Some term) h = h

  -- ways to count
  record CounterFound (clause : Counter) : Type 0 where
    pub starts : Good clause.starting
    pub tests : (place : Place) (away : ℕ) → Good (clause.testing place away)
    pub advances : (away : ℕ) → Good (clause.advancing away)

  found_starting : (start : Code) (limit : Option (Limit × Amount)) → Good start → LimitFound limit → Good (bound_starting start limit)
  found_starting start None h k = found_integer start h
  found_starting start (Some (limit, Known bound)) h k = found_integer start h
  found_starting start (Some (limit, Given code)) h k =
      let end = Plain instr.Push ∷ one instr.Restore in
      join (integer start) (Plain instr.Save ∷ (integer code ++ end)) (found_integer start h) (tt, join (integer code) end (found_integer code k) (plain end refl))

  found_around : (front end : Code) (place : Place) → list_all searches_nothing front ≡ true → list_all searches_nothing end ≡ true → Good (front ++ (read place ++ end))
  found_around front end place e f = join front (read place ++ end) (plain front e) (join (read place) end (found_read linked place) (plain end f))

  found_below : (bound : Amount) (place : Place) → Good (bound_below bound place)
  found_below (Known bound) place = found_around (number bound ++ one instr.Push) (Plain instr.Push ∷ one (instr.Op comparison 2)) place refl refl
  found_below (Given code) place = found_around (Plain (instr.Values 1) ∷ Plain instr.Push ∷ one instr.Push) (Plain instr.Push ∷ one (instr.Op comparison 2)) place refl refl

  found_above : (bound : Amount) (place : Place) → Good (bound_above bound place)
  found_above (Known bound) place = plain (bound_above (Known bound) place) refl
  found_above (Given code) place =
      found_around (Plain (instr.Values 1) ∷ Plain instr.Push ∷ one instr.Save) (Plain instr.Push ∷ Plain instr.Restore ∷ Plain instr.Push ∷ one (instr.Op comparison 2)) place refl refl

  found_if : (test : Bool) (left right : Code) → Good left → Good right → Good (if test then left else right)
  found_if true left right a b = a
  found_if false left right a b = b

  found_tested_by : (step : ℤ) (limit : Option (Limit × Amount)) (place : Place) (away : ℕ) → Good (tested_by step limit place away)
  found_tested_by step None place away = tt
  found_tested_by step (Some (To, bound)) place away =
      join (if int_lt step (pos 0) then bound_above bound place else bound_below bound place) (leaves_if true away)
      (found_if (int_lt step (pos 0)) (bound_above bound place) (bound_below bound place) (found_above bound place) (found_below bound place)) (found_leaves true away)
  found_tested_by step (Some (Above, bound)) place away = join (bound_below bound place) (leaves_if false away) (found_below bound place) (found_leaves false away)
  found_tested_by step (Some (Below, bound)) place away = join (bound_above bound place) (leaves_if false away) (found_above bound place) (found_leaves false away)

  found_room : (step : ℤ) (away : ℕ) → Good (room_for step away)
  found_room (pos zero) away = tt
  found_room (pos (suc m)) away = plain (room_for (pos (suc m)) away) refl
  found_room (negsuc m) away = plain (room_for (negsuc m) away) refl

  counts_by : (start : Code) (limit : Option (Limit × Amount)) (step : ℤ) → Good start → LimitFound limit → CounterFound (stepping start limit step)
  counts_by start limit step h k = record {
    starts = found_starting start limit h k;
    tests = λ place away. found_tested_by step limit place away;
    advances = λ away. join (room_for step (3 + away)) (with_number addition step) (found_room step (3 + away)) (plain (with_number addition step) refl);
  }

  counts_up : (start : Code) (bound : ℤ) → Good start → CounterFound (up_to start bound)
  counts_up start bound h = record {
    starts = found_integer start h;
    tests = λ place away. found_tested_by (pos 1) (Some (Below, Known bound)) place away;
    advances = λ away. plain (with_number addition (pos 1)) refl;
  }

  counts_until : (start bound : Code) → Good start → Good bound → CounterFound (meeting start bound)
  counts_until start bound h k = record {
    starts = join (bound_starting start (Some (Below, Given bound))) raised (found_starting start (Some (Below, Given bound)) h k) (plain raised refl);
    tests = λ place away.
        let front = Plain (instr.Values 1) ∷ Plain instr.Push ∷ one instr.Push in
        let end = Plain instr.Push ∷ Plain (instr.Op identity 2) ∷ leaves_if true away in
        found_around front end place refl refl;
    advances = λ away. plain (with_number addition (pos 1)) refl;
  }

  if_counts : (test : Bool) (left right : Counter) → CounterFound left → CounterFound right → CounterFound (if test then left else right)
  if_counts true left right a b = a
  if_counts false left right a b = b

  by_one_counts : (start : Code) (limit : Option (Limit × Amount)) → Good start → LimitFound limit → CounterFound (by_one start limit)
  by_one_counts start None h k = counts_by start None (pos 1) h k
  by_one_counts start (Some (Below, Known bound)) h k = counts_up start bound h
  by_one_counts start (Some (Below, Given bound)) h k = counts_until start bound h k
  by_one_counts start (Some (To, Known bound)) h k =
      if_counts (int_lt bound greatest_number) (up_to start (bound +ℤ pos 1)) (stepping start (Some (To, Known bound)) (pos 1)) (counts_up start (bound +ℤ pos 1) h) (counts_by start (Some (To, Known bound)) (pos 1) h k)
  by_one_counts start (Some (To, Given bound)) h k = counts_by start (Some (To, Given bound)) (pos 1) h k
  by_one_counts start (Some (Above, Known bound)) h k = counts_by start (Some (Above, Known bound)) (pos 1) h k
  by_one_counts start (Some (Above, Given bound)) h k = counts_by start (Some (Above, Given bound)) (pos 1) h k

  counter_found : (start : Code) (limit : Option (Limit × Amount)) (step : ℤ) → Good start → LimitFound limit → CounterFound (counter start limit step)
  counter_found start limit (pos (suc zero)) h k = by_one_counts start limit h k
  counter_found start limit (pos zero) h k = counts_by start limit (pos zero) h k
  counter_found start limit (pos (suc (suc step))) h k = counts_by start limit (pos (suc (suc step))) h k
  counter_found start limit (negsuc step) h k = counts_by start limit (negsuc step) h k

  found_counted : (place : Place) (clause : Counter) (test : Option (Bool × Code)) (inner : Code) (last : Option Code) → CounterFound clause → TestFound test → Good inner → SomeFound linked last
      → Good (counted place clause test inner last)
  found_counted place clause test inner last is test_found inner_found last_found =
      let body = Plain instr.Tick ∷ (inner ++ clause.advancing 2) in
      let test_code = tested test (length body + 2) in
      let rest = read place ++ (Plain instr.Push ∷ (test_code ++ body)) in
      let check = clause.testing place (length rest + 1) in
      let turn = put place ++ (cell place ++ (check ++ rest)) in
      let end = Jump (negsuc (length turn)) ∷ Plain instr.Push ∷ Plain (instr.Values (clause.hidden + 1)) ∷ finished last in
      join clause.starting (turn ++ end) is.starts
      (join turn end
      (join (put place) (cell place ++ (check ++ rest)) (found_put linked place)
      (join (cell place) (check ++ rest) (found_cell linked place)
      (join check rest (is.tests place (length rest + 1))
      (join (read place) (Plain instr.Push ∷ (test_code ++ body)) (found_read linked place)
      (tt, join test_code body (found_tested test (length body + 2) test_found) (tt, join inner (clause.advancing 2) inner_found (is.advances 2)))))))
      (tt, (tt, (tt, found_finished last last_found))))

  -- loops of any clauses
  found_bound : (limit : Option (Limit × Amount)) → LimitFound limit → Good (bound limit)
  found_bound None h = (tt, tt)
  found_bound (Some limit) h = found_amount limit.1 h

  found_start : (clause : Clause) → TurnFound clause → Good (starting clause)
  found_start (Takes place start next) h = join start (one instr.Push) h.0 (tt, tt)
  found_start (Counts place start limit step) h =
      let end = amount step ++ one instr.Push in
      join (integer start) (Plain instr.Push ∷ (bound limit ++ (Plain instr.Push ∷ end))) (found_integer start h.0)
      (tt, join (bound limit) (Plain instr.Push ∷ end) (found_bound limit h.1) (tt, join (amount step) (one instr.Push) (found_amount step h.2) (tt, tt)))

  found_starts : (clauses : List Clause) → Every TurnFound clauses → Good (flat_map starting clauses)
  found_starts [] every = tt
  found_starts (clause ∷ clauses) every = join (starting clause) (flat_map starting clauses) (found_start clause every.0) (found_starts clauses every.1)

  found_bindings : (clauses : List Clause) → Good (bindings clauses)
  found_bindings [] = tt
  found_bindings (clause ∷ clauses) =
      let place = variable clause in
      let sum = operands clause + all_operands clauses in
      join (operand sum) (put place ++ (cell place ++ bindings clauses)) (plain (operand sum) refl)
      (join (put place) (cell place ++ bindings clauses) (found_put linked place) (join (cell place) (bindings clauses) (found_cell linked place) (found_bindings clauses)))

  found_limit : (limit : Limit) (above away : ℕ) → Good (limit_reached limit above away)
  found_limit To above away = plain (limit_reached To above away) refl
  found_limit Above above away = plain (limit_reached Above above away) refl
  found_limit Below above away = plain (limit_reached Below above away) refl

  found_testing : (clause : Clause) (above away : ℕ) → Good (testing clause above away)
  found_testing (Takes place start next) above away = tt
  found_testing (Counts place start None step) above away = tt
  found_testing (Counts place start (Some limit) step) above away = found_limit limit.0 above away

  found_tests : (clauses : List Clause) (far : ℕ) → Good (tests clauses far)
  found_tests [] far = tt
  found_tests (clause ∷ clauses) far =
      let rest = tests clauses far in
      let away = length rest + far in
      join (testing clause (all_operands clauses) away) rest (found_testing clause (all_operands clauses) away) (found_tests clauses far)

  found_overflows : (step : Amount) (above : ℕ) → Good (overflows step above)
  found_overflows (Known (pos m)) above = plain (overflows (Known (pos m)) above) refl
  found_overflows (Known (negsuc m)) above = plain (overflows (Known (negsuc m)) above) refl
  found_overflows (Given code) above = plain (overflows (Given code) above) refl

  found_advancing : (clause : Clause) (before above away : ℕ) → TurnFound clause → Good (advancing clause before above away)
  found_advancing (Takes place start next) before above away h = join next (one instr.Push) h.1 (tt, tt)
  found_advancing (Counts place start limit step) before above away h =
      let on = counted_on above in
      join (overflows step above) (past_if_false 2 ∷ Plain (instr.Values before) ∷ past (length on + away) ∷ on) (found_overflows step above) (tt, (tt, (tt, plain on refl)))

  found_advances : (clauses : List Clause) (before far : ℕ) → Every TurnFound clauses → Good (advances before clauses far)
  found_advances [] before far every = tt
  found_advances (clause ∷ clauses) before far every =
      let rest = advances (before + operands clause) clauses far in
      let above = before + all_operands clauses in
      let away = length rest + far in
      join (advancing clause before above away) rest (found_advancing clause before above away every.0) (found_advances clauses (before + operands clause) far every.1)

  found_turns : (clauses : List Clause) (test : Option (Bool × Code)) (inner : Code) (last : Option Code) → Every TurnFound clauses → TestFound test → Good inner → SomeFound linked last
      → Good (turns clauses test inner last)
  found_turns clauses test inner last every test_found inner_found last_found =
      let sum = all_operands clauses in
      let goes_on = advances 0 clauses 6 in
      let body = Plain instr.Tick ∷ (inner ++ (goes_on ++ renewed sum)) in
      let test_code = tested test (length body + 1) in
      let rest = test_code ++ body in
      let checks = tests clauses (length rest + 1) in
      let turn = bindings clauses ++ (checks ++ rest) in
      let end = Jump (negsuc (length turn)) ∷ Plain (instr.Values sum) ∷ finished last in
      join (flat_map starting clauses) (turn ++ end) (found_starts clauses every)
      (join turn end
      (join (bindings clauses) (checks ++ rest) (found_bindings clauses)
      (join checks rest (found_tests clauses (length rest + 1))
      (join test_code body (found_tested test (length body + 1) test_found) (tt, join inner (goes_on ++ renewed sum) inner_found (join goes_on (renewed sum) (found_advances clauses 0 6 every) (plain (renewed sum) refl))))))
      (tt, (tt, found_finished last last_found)))

  pub found_for : (clauses : List Clause) (test : Option (Bool × Code)) (inner : Code) (last : Option Code) → Every TurnFound clauses → TestFound test → Good inner → SomeFound linked last
      → Good (for_loop clauses test inner last)
  found_for [] test inner last every t i l = found_turns [] test inner last every t i l
  found_for (Takes place start next ∷ clauses) test inner last every t i l = found_turns (Takes place start next ∷ clauses) test inner last every t i l
  found_for (Counts place start limit (Known step) ∷ []) test inner last every t i l =
      let h = every.0 in
      found_counted place (counter start limit step) test inner last (counter_found start limit step h.0 h.1) t i l
  found_for (Counts place start limit (Known step) ∷ clause ∷ clauses) test inner last every t i l = found_turns (Counts place start limit (Known step) ∷ clause ∷ clauses) test inner last every t i l
  found_for (Counts place start limit (Given step) ∷ []) test inner last every t i l = found_turns (Counts place start limit (Given step) ∷ []) test inner last every t i l
  found_for (Counts place start limit (Given step) ∷ clause ∷ clauses) test inner last every t i l = found_turns (Counts place start limit (Given step) ∷ clause ∷ clauses) test inner last every t i l
