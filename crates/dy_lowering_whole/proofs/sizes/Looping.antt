-- How much the code of a `for` weighs, where each instruction weighs 1 at most.
use Rattle.std.proofs.Common.{◌≡◌, ℕ, zero, suc, ◌+◌, ◌≤◌, Bool, true, false, ℤ, pos, negsuc, ◌+ℤ◌, List, [], ◌∷◌, ◌++◌, length, Option, Some, None, refl, arith}
use Rattle.std.specs.Prelude.{flat_map, int_lt, if◌then◌else◌}
use Rattle.dy_term.specs.declared.term.Limit.{Limit}
use Rattle.dy_term.specs.declared.term.Limit.TheVariants.{To, Above, Below}
use Rattle.dy_outcome.specs.declared.place.Place.{Place}
use Rattle.dy_code.specs.Fetching as instr
use Rattle.dy_meaning.specs.Meaning.{identity}
use Rattle.dy_lowered.specs.Flat.{Flat, Plain, Jump, Code, one, past, past_if_false}
use Rattle.dy_lowered.specs.Parts.{truth, read, put, cell}
use Rattle.dy_lowered.specs.Turns.{Amount, Known, Given, Clause, Takes, Counts, Counter, addition, comparison, number, with_number, integer, leaves_if, greatest_number, bound_below, bound_above, tested_by, room_for, bound_starting, stepping, up_to, raised, meeting, by_one, counter, tested, finished, counted, operand, operands, all_operands, amount, bound, starting, variable, bindings, limit_reached, testing, tests, overflows, counted_on, advancing, advances, renewed, turns, for_loop}
use Rattle.dy_lowering_whole.proofs.sizes.Weighing.{weigh, weigh_join, by_count, read_weighs, put_weighs, cell_weighs, held_of}

module _ (w : Flat → ℕ) (light : (flat : Flat) → w flat ≤ 1) where
  abbrev W : Code → ℕ
  W code = weigh w code

  join : (a b : Code) → W (a ++ b) ≡ W a + W b
  join a b = weigh_join w a b

  at_most : (code : Code) (count : ℕ) → length code ≡ count → W code ≤ count
  at_most code count e = by_count w light code count e

  -- what is made of the parts of a clause
  abbrev pub limit_cost : Option (Limit × Amount) → ℕ
  limit_cost None = 1
  limit_cost (Some (limit, Known number)) = 25
  limit_cost (Some (limit, Given code)) = W code + 30

  abbrev pub step_cost : Amount → ℕ
  step_cost (Known number) = 8
  step_cost (Given code) = W code + 50

  abbrev pub cost : Clause → ℕ
  cost (Takes place start next) = W start + (W next + 6)
  cost (Counts place start limit step) = W start + (limit_cost limit + (step_cost step + 30))

  abbrev pub costs : List Clause → ℕ
  costs [] = 0
  costs (clause ∷ clauses) = cost clause + costs clauses

  abbrev pub test_cost : Option (Bool × Code) → ℕ
  test_cost None = 0
  test_cost (Some test) = W test.1

  integer_weighs : (term : Code) → W (integer term) ≤ W term + 6
  integer_weighs term =
      let check = Plain instr.Push ∷ Plain instr.Push ∷ (with_number comparison (pos 0) ++ one (instr.Values 1)) in
      omega (arith, join term check, at_most check 6 refl)

  leaves_weigh : (test : Bool) (away : ℕ) → W (leaves_if test away) ≤ 2
  leaves_weigh true away = at_most (leaves_if true away) 2 refl
  leaves_weigh false away = omega (arith, at_most (leaves_if false away) 1 refl)

  tested_weighs : (test : Option (Bool × Code)) (away : ℕ) → W (tested test away) ≤ test_cost test + 2
  tested_weighs None away = omega arith
  tested_weighs (Some test) away = omega (arith, join test.1 (leaves_if test.0 away), leaves_weigh test.0 away)

  finished_weighs : (last : Option Code) → W (finished last) ≤ held_of w light last + 1
  finished_weighs None = at_most (truth false) 1 refl
  finished_weighs (Some term) = omega arith

  -- a clause that counts alone
  around : (front end : Code) (place : Place) (a b : ℕ) → length front ≡ a → length end ≡ b → W (front ++ (read place ++ end)) ≤ a + (1 + b)
  around front end place a b e f = omega (arith, join front (read place ++ end), join (read place) end, read_weighs w light place, at_most front a e, at_most end b f)

  below_weighs : (bound : Amount) (place : Place) → W (bound_below bound place) ≤ 8
  below_weighs (Known bound) place = omega (arith, around (number bound ++ one instr.Push) (Plain instr.Push ∷ one (instr.Op comparison 2)) place 2 2 refl refl)
  below_weighs (Given code) place = omega (arith, around (Plain (instr.Values 1) ∷ Plain instr.Push ∷ one instr.Push) (Plain instr.Push ∷ one (instr.Op comparison 2)) place 3 2 refl refl)

  above_weighs : (bound : Amount) (place : Place) → W (bound_above bound place) ≤ 8
  above_weighs (Known bound) place = omega (arith, at_most (bound_above (Known bound) place) 4 refl)
  above_weighs (Given code) place =
      omega (arith, around (Plain (instr.Values 1) ∷ Plain instr.Push ∷ one instr.Save) (Plain instr.Push ∷ Plain instr.Restore ∷ Plain instr.Push ∷ one (instr.Op comparison 2)) place 3 4 refl refl)

  if_weighs : (test : Bool) (left right : Code) → W left ≤ 8 → W right ≤ 8 → W (if test then left else right) ≤ 8
  if_weighs true left right a b = a
  if_weighs false left right a b = b

  by_weighs : (step : ℤ) (limit : Option (Limit × Amount)) (place : Place) (away : ℕ) → W (tested_by step limit place away) ≤ 10
  by_weighs step None place away = omega arith
  by_weighs step (Some (To, bound)) place away =
      let compare = if int_lt step (pos 0) then bound_above bound place else bound_below bound place in
      omega (arith, join compare (leaves_if true away), leaves_weigh true away, if_weighs (int_lt step (pos 0)) (bound_above bound place) (bound_below bound place) (above_weighs bound place) (below_weighs bound place))
  by_weighs step (Some (Above, bound)) place away = omega (arith, join (bound_below bound place) (leaves_if false away), leaves_weigh false away, below_weighs bound place)
  by_weighs step (Some (Below, bound)) place away = omega (arith, join (bound_above bound place) (leaves_if false away), leaves_weigh false away, above_weighs bound place)

  room_weighs : (step : ℤ) (away : ℕ) → W (room_for step away) ≤ 8
  room_weighs (pos zero) away = omega arith
  room_weighs (pos (suc m)) away = omega (arith, at_most (room_for (pos (suc m)) away) 7 refl)
  room_weighs (negsuc m) away = at_most (room_for (negsuc m) away) 8 refl

  starting_weighs : (start : Code) (limit : Option (Limit × Amount)) → W (bound_starting start limit) ≤ W start + (limit_cost limit + 6)
  starting_weighs start None = omega (arith, integer_weighs start)
  starting_weighs start (Some (limit, Known bound)) = omega (arith, integer_weighs start)
  starting_weighs start (Some (limit, Given code)) =
      let end = Plain instr.Push ∷ one instr.Restore in
      omega (arith, join (integer start) (Plain instr.Save ∷ (integer code ++ end)), join (integer code) end, at_most end 2 refl, light (Plain instr.Save), integer_weighs start, integer_weighs code)

  -- a way to count, over the first value and the bound
  record IsLight (start : Code) (limit : Option (Limit × Amount)) (clause : Counter) : Type 0 where
    pub starts : W clause.starting ≤ W start + (limit_cost limit + 6)
    pub tests : (place : Place) (away : ℕ) → W (clause.testing place away) ≤ 10
    pub advances : (away : ℕ) → W (clause.advancing away) ≤ 11

  steps_light : (start : Code) (limit : Option (Limit × Amount)) (step : ℤ) → IsLight start limit (stepping start limit step)
  steps_light start limit step = record {
    starts = starting_weighs start limit;
    tests = by_weighs step limit;
    advances = λ away. omega (arith, join (room_for step (3 + away)) (with_number addition step), room_weighs step (3 + away), at_most (with_number addition step) 3 refl);
  }

  up_light : (start : Code) (limit : Option (Limit × Amount)) (bound : ℤ) → IsLight start limit (up_to start bound)
  up_light start limit bound = record {
    starts = omega (arith, integer_weighs start);
    tests = by_weighs (pos 1) (Some (Below, Known bound));
    advances = λ away. omega (arith, at_most (with_number addition (pos 1)) 3 refl);
  }

  meeting_light : (start bound : Code) → IsLight start (Some (Below, Given bound)) (meeting start bound)
  meeting_light start bound = record {
    starts =
        let end = Plain instr.Push ∷ one instr.Restore in
        omega (
          arith,
          join (bound_starting start (Some (Below, Given bound))) raised,
          at_most raised 13 refl,
          join (integer start) (Plain instr.Save ∷ (integer bound ++ end)),
          join (integer bound) end,
          at_most end 2 refl,
          light (Plain instr.Save),
          integer_weighs start,
          integer_weighs bound,
        );
    tests = λ place away. omega (arith, around (Plain (instr.Values 1) ∷ Plain instr.Push ∷ one instr.Push) (Plain instr.Push ∷ Plain (instr.Op identity 2) ∷ leaves_if true away) place 3 4 refl refl);
    advances = λ away. omega (arith, at_most (with_number addition (pos 1)) 3 refl);
  }

  if_light : (start : Code) (limit : Option (Limit × Amount)) (test : Bool) (left right : Counter) → IsLight start limit left → IsLight start limit right → IsLight start limit (if test then left else right)
  if_light start limit true left right a b = a
  if_light start limit false left right a b = b

  one_light : (start : Code) (limit : Option (Limit × Amount)) → IsLight start limit (by_one start limit)
  one_light start None = steps_light start None (pos 1)
  one_light start (Some (Below, Known bound)) = up_light start (Some (Below, Known bound)) bound
  one_light start (Some (Below, Given bound)) = meeting_light start bound
  one_light start (Some (To, Known bound)) =
      if_light start (Some (To, Known bound)) (int_lt bound greatest_number) (up_to start (bound +ℤ pos 1)) (stepping start (Some (To, Known bound)) (pos 1)) (up_light start (Some (To, Known bound)) (bound +ℤ pos 1)) (steps_light start (Some (To, Known bound)) (pos 1))
  one_light start (Some (To, Given bound)) = steps_light start (Some (To, Given bound)) (pos 1)
  one_light start (Some (Above, Known bound)) = steps_light start (Some (Above, Known bound)) (pos 1)
  one_light start (Some (Above, Given bound)) = steps_light start (Some (Above, Given bound)) (pos 1)

  counter_light : (start : Code) (limit : Option (Limit × Amount)) (step : ℤ) → IsLight start limit (counter start limit step)
  counter_light start limit (pos (suc zero)) = one_light start limit
  counter_light start limit (pos zero) = steps_light start limit (pos zero)
  counter_light start limit (pos (suc (suc step))) = steps_light start limit (pos (suc (suc step)))
  counter_light start limit (negsuc step) = steps_light start limit (negsuc step)

  counted_weighs : (place : Place) (start : Code) (limit : Option (Limit × Amount)) (clause : Counter) (test : Option (Bool × Code)) (inner : Code) (last : Option Code) → IsLight start limit clause
      → W (counted place clause test inner last) ≤ W start + (limit_cost limit + 38) + (test_cost test + (W inner + (held_of w light last + 12)))
  counted_weighs place start limit clause test inner last is =
      let body = Plain instr.Tick ∷ (inner ++ clause.advancing 2) in
      let test_code = tested test (length body + 2) in
      let rest = read place ++ (Plain instr.Push ∷ (test_code ++ body)) in
      let check = clause.testing place (length rest + 1) in
      let turn = put place ++ (cell place ++ (check ++ rest)) in
      let back = Jump (negsuc (length turn)) in
      let takes = Plain (instr.Values (clause.hidden + 1)) in
      let end = back ∷ Plain instr.Push ∷ takes ∷ finished last in
      omega (
        arith,
        is.starts,
        is.tests place (length rest + 1),
        is.advances 2,
        join clause.starting (turn ++ end),
        join turn end,
        join (put place) (cell place ++ (check ++ rest)),
        join (cell place) (check ++ rest),
        join check rest,
        join (read place) (Plain instr.Push ∷ (test_code ++ body)),
        join test_code body,
        join inner (clause.advancing 2),
        put_weighs w light place,
        cell_weighs w light place,
        read_weighs w light place,
        light (Plain instr.Push),
        light (Plain instr.Tick),
        light back,
        light takes,
        tested_weighs test (length body + 2),
        finished_weighs last,
      )

  -- loops of any clauses
  abbrev amount_cost : Amount → ℕ
  amount_cost (Known number) = 1
  amount_cost (Given code) = W code + 6

  amount_weighs : (value : Amount) → W (amount value) ≤ amount_cost value
  amount_weighs (Known value) = at_most (number value) 1 refl
  amount_weighs (Given code) = integer_weighs code

  abbrev bound_cost : Option (Limit × Amount) → ℕ
  bound_cost None = 1
  bound_cost (Some limit) = amount_cost limit.1

  bound_weighs : (limit : Option (Limit × Amount)) → W (bound limit) ≤ bound_cost limit
  bound_weighs None = at_most (truth false) 1 refl
  bound_weighs (Some limit) = amount_weighs limit.1

  limit_weighs : (limit : Limit) (above away : ℕ) → W (limit_reached limit above away) ≤ 24
  limit_weighs To above away = omega (arith, at_most (limit_reached To above away) 24 refl)
  limit_weighs Above above away = omega (arith, at_most (limit_reached Above above away) 8 refl)
  limit_weighs Below above away = omega (arith, at_most (limit_reached Below above away) 8 refl)

  abbrev reached_cost : Option (Limit × Amount) → ℕ
  reached_cost None = 0
  reached_cost (Some limit) = 24

  -- what each part of a clause comes to
  abbrev start_cost : Clause → ℕ
  start_cost (Takes place start next) = W start + 1
  start_cost (Counts place start limit step) = W start + (bound_cost limit + (amount_cost step + 9))

  abbrev reach_cost : Clause → ℕ
  reach_cost (Takes place start next) = 0
  reach_cost (Counts place start limit step) = reached_cost limit

  abbrev over_cost : Amount → ℕ
  over_cost (Known number) = 7
  over_cost (Given code) = 44

  abbrev on_cost : Clause → ℕ
  on_cost (Takes place start next) = W next + 1
  on_cost (Counts place start limit step) = over_cost step + 17

  start_weighs : (clause : Clause) → W (starting clause) ≤ start_cost clause
  start_weighs (Takes place start next) = omega (arith, join start (one instr.Push), light (Plain instr.Push))
  start_weighs (Counts place start limit step) =
      let end = amount step ++ one instr.Push in
      omega (
        arith,
        join (integer start) (Plain instr.Push ∷ (bound limit ++ (Plain instr.Push ∷ end))),
        join (bound limit) (Plain instr.Push ∷ end),
        join (amount step) (one instr.Push),
        light (Plain instr.Push),
        integer_weighs start,
        bound_weighs limit,
        amount_weighs step,
      )

  reach_weighs : (clause : Clause) (above away : ℕ) → W (testing clause above away) ≤ reach_cost clause
  reach_weighs (Takes place start next) above away = omega arith
  reach_weighs (Counts place start None step) above away = omega arith
  reach_weighs (Counts place start (Some limit) step) above away = limit_weighs limit.0 above away

  over_weighs : (step : Amount) (above : ℕ) → W (overflows step above) ≤ over_cost step
  over_weighs (Known (pos m)) above = omega (arith, at_most (overflows (Known (pos m)) above) 6 refl)
  over_weighs (Known (negsuc m)) above = omega (arith, at_most (overflows (Known (negsuc m)) above) 6 refl)
  over_weighs (Given code) above = at_most (overflows (Given code) above) 44 refl

  on_weighs : (clause : Clause) (before above away : ℕ) → W (advancing clause before above away) ≤ on_cost clause
  on_weighs (Takes place start next) before above away = omega (arith, join next (one instr.Push), light (Plain instr.Push))
  on_weighs (Counts place start limit step) before above away =
      let on = counted_on above in
      let rest = past_if_false 2 ∷ Plain (instr.Values before) ∷ past (length on + away) ∷ on in
      omega (arith, join (overflows step above) rest, over_weighs step above, light (past_if_false 2), light (Plain (instr.Values before)), light (past (length on + away)), at_most on 14 refl)

  abbrev all_cost : (Clause → ℕ) → List Clause → ℕ
  all_cost f [] = 0
  all_cost f (clause ∷ clauses) = f clause + all_cost f clauses

  starts_weigh : (clauses : List Clause) → W (flat_map starting clauses) ≤ all_cost start_cost clauses
  starts_weigh [] = omega arith
  starts_weigh (clause ∷ clauses) = omega (arith, join (starting clause) (flat_map starting clauses), start_weighs clause, starts_weigh clauses)

  bindings_weigh : (clauses : List Clause) → W (bindings clauses) ≤ all_cost (λ (clause : Clause). 4) clauses
  bindings_weigh [] = omega arith
  bindings_weigh (clause ∷ clauses) =
      let sum = operands clause + all_operands clauses in
      let place = variable clause in
      omega (
        arith,
        join (operand sum) (put place ++ (cell place ++ bindings clauses)),
        join (put place) (cell place ++ bindings clauses),
        join (cell place) (bindings clauses),
        at_most (operand sum) 2 refl,
        put_weighs w light place,
        cell_weighs w light place,
        bindings_weigh clauses,
      )

  tests_weigh : (clauses : List Clause) (far : ℕ) → W (tests clauses far) ≤ all_cost reach_cost clauses
  tests_weigh [] far = omega arith
  tests_weigh (clause ∷ clauses) far =
      let rest = tests clauses far in
      let away = length rest + far in
      omega (arith, join (testing clause (all_operands clauses) away) rest, reach_weighs clause (all_operands clauses) away, tests_weigh clauses far)

  advances_weigh : (clauses : List Clause) (before far : ℕ) → W (advances before clauses far) ≤ all_cost on_cost clauses
  advances_weigh [] before far = omega arith
  advances_weigh (clause ∷ clauses) before far =
      let rest = advances (before + operands clause) clauses far in
      let above = before + all_operands clauses in
      let away = length rest + far in
      omega (arith, join (advancing clause before above away) rest, on_weighs clause before above away, advances_weigh clauses (before + operands clause) far)

  clause_costs : (clause : Clause) → start_cost clause + (4 + (reach_cost clause + on_cost clause)) ≤ cost clause
  clause_costs (Takes place start next) = omega arith
  clause_costs (Counts place start None (Known step)) = omega arith
  clause_costs (Counts place start None (Given step)) = omega arith
  clause_costs (Counts place start (Some (limit, Known bound)) (Known step)) = omega arith
  clause_costs (Counts place start (Some (limit, Known bound)) (Given step)) = omega arith
  clause_costs (Counts place start (Some (limit, Given bound)) (Known step)) = omega arith
  clause_costs (Counts place start (Some (limit, Given bound)) (Given step)) = omega arith

  all_costs : (clauses : List Clause) → all_cost start_cost clauses + (all_cost (λ (clause : Clause). 4) clauses + (all_cost reach_cost clauses + all_cost on_cost clauses)) ≤ costs clauses
  all_costs [] = omega arith
  all_costs (clause ∷ clauses) = omega (arith, clause_costs clause, all_costs clauses)

  turns_weigh : (clauses : List Clause) (test : Option (Bool × Code)) (inner : Code) (last : Option Code) → W (turns clauses test inner last) ≤ costs clauses + (test_cost test + (W inner + (held_of w light last + 12)))
  turns_weigh clauses test inner last =
      let sum = all_operands clauses in
      let goes_on = advances 0 clauses 6 in
      let body = Plain instr.Tick ∷ (inner ++ (goes_on ++ renewed sum)) in
      let test_code = tested test (length body + 1) in
      let rest = test_code ++ body in
      let checks = tests clauses (length rest + 1) in
      let turn = bindings clauses ++ (checks ++ rest) in
      let back = Jump (negsuc (length turn)) in
      let end = back ∷ Plain (instr.Values sum) ∷ finished last in
      omega (
        arith,
        join (flat_map starting clauses) (turn ++ end),
        join turn end,
        join (bindings clauses) (checks ++ rest),
        join checks rest,
        join test_code body,
        join inner (goes_on ++ renewed sum),
        join goes_on (renewed sum),
        at_most (renewed sum) 5 refl,
        light (Plain instr.Tick),
        light back,
        light (Plain (instr.Values sum)),
        starts_weigh clauses,
        bindings_weigh clauses,
        tests_weigh clauses (length rest + 1),
        advances_weigh clauses 0 6,
        tested_weighs test (length body + 1),
        finished_weighs last,
        all_costs clauses,
      )

  pub for_weighs : (clauses : List Clause) (test : Option (Bool × Code)) (inner : Code) (last : Option Code) → W (for_loop clauses test inner last) ≤ costs clauses + (test_cost test + (W inner + (held_of w light last + 12)))
  for_weighs [] test inner last = turns_weigh [] test inner last
  for_weighs (Takes place start next ∷ clauses) test inner last = turns_weigh (Takes place start next ∷ clauses) test inner last
  for_weighs (Counts place start limit (Known step) ∷ []) test inner last = omega (arith, counted_weighs place start limit (counter start limit step) test inner last (counter_light start limit step))
  for_weighs (Counts place start limit (Known step) ∷ clause ∷ clauses) test inner last = turns_weigh (Counts place start limit (Known step) ∷ clause ∷ clauses) test inner last
  for_weighs (Counts place start limit (Given step) ∷ []) test inner last = turns_weigh (Counts place start limit (Given step) ∷ []) test inner last
  for_weighs (Counts place start limit (Given step) ∷ clause ∷ clauses) test inner last = turns_weigh (Counts place start limit (Given step) ∷ clause ∷ clauses) test inner last
