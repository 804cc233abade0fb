-- How many items the code of a `for` names.
use Rattle.std.proofs.Common.{◌≡◌, ℕ, zero, suc, ◌+◌, ◌≤◌, Bool, true, false, ℤ, pos, negsuc, ◌+ℤ◌, List, [], ◌∷◌, ◌++◌, length, Option, Some, None, refl, arith}
use Rattle.std.specs.Prelude.{flat_map, int_lt, if◌then◌else◌}
use Rattle.dy_term.specs.declared.term.Limit.{Limit}
use Rattle.dy_term.specs.declared.term.Limit.TheVariants.{To, Above, Below}
use Rattle.dy_outcome.specs.declared.place.Place.{Place}
use Rattle.dy_code.specs.Fetching as instr
use Rattle.dy_meaning.specs.Meaning.{identity}
use Rattle.dy_lowered.specs.Flat.{Plain, Jump, Code, one, past, past_if_false}
use Rattle.dy_lowered.specs.Parts.{truth, read, put, cell}
use Rattle.dy_lowered.specs.Turns.{Amount, Known, Given, Clause, Takes, Counts, Counter, addition, comparison, number, with_number, integer, leaves_if, greatest_number, bound_below, bound_above, tested_by, room_for, bound_starting, stepping, up_to, raised, meeting, by_one, counter, tested, finished, counted, operand, operands, all_operands, amount, bound, starting, variable, bindings, limit_reached, testing, tests, overflows, counted_on, advancing, advances, renewed, turns, for_loop}
use Rattle.dy_unit_sizes.proofs.Pieces.{W, join, exactly, read_names, put_names, cell_names, held_in}

-- what is named in the parts of a clause
abbrev pub limit_cost : Option (Limit × Amount) → ℕ
limit_cost None = 1
limit_cost (Some (limit, Known number)) = 2
limit_cost (Some (limit, Given code)) = W code + 2

abbrev pub step_cost : Amount → ℕ
step_cost (Known number) = 2
step_cost (Given code) = W code + 7

abbrev pub cost : Clause → ℕ
cost (Takes place start next) = W start + W next
cost (Counts place start limit step) = W start + (1 + (limit_cost limit + step_cost step))

abbrev pub costs : List Clause → ℕ
costs [] = 0
costs (clause ∷ clauses) = cost clause + costs clauses

abbrev pub test_cost : Option (Bool × Code) → ℕ
test_cost None = 0
test_cost (Some test) = W test.1

integer_names : (term : Code) → W (integer term) ≤ W term + 1
integer_names term =
    let check = Plain instr.Push ∷ Plain instr.Push ∷ (with_number comparison (pos 0) ++ one (instr.Values 1)) in
    omega (arith, join term check, exactly check 1 refl)

leaves_name : (test : Bool) (away : ℕ) → W (leaves_if test away) ≤ 0
leaves_name true away = exactly (leaves_if true away) 0 refl
leaves_name false away = exactly (leaves_if false away) 0 refl

tested_names : (test : Option (Bool × Code)) (away : ℕ) → W (tested test away) ≤ test_cost test
tested_names None away = omega arith
tested_names (Some test) away = omega (arith, join test.1 (leaves_if test.0 away), leaves_name test.0 away)

finished_names : (last : Option Code) → W (finished last) ≤ held_in last + 1
finished_names None = exactly (truth false) 1 refl
finished_names (Some term) = omega arith

-- a clause that counts alone
around : (front end : Code) (place : Place) (a b : ℕ) → W front ≡ a → W end ≡ b → W (front ++ (read place ++ end)) ≤ a + b
around front end place a b e f = omega (arith, join front (read place ++ end), join (read place) end, read_names place, e, f)

below_names : (bound : Amount) (place : Place) → W (bound_below bound place) ≤ 1
below_names (Known bound) place = omega (arith, around (number bound ++ one instr.Push) (Plain instr.Push ∷ one (instr.Op comparison 2)) place 1 0 refl refl)
below_names (Given code) place = omega (arith, around (Plain (instr.Values 1) ∷ Plain instr.Push ∷ one instr.Push) (Plain instr.Push ∷ one (instr.Op comparison 2)) place 0 0 refl refl)

above_names : (bound : Amount) (place : Place) → W (bound_above bound place) ≤ 1
above_names (Known bound) place = exactly (bound_above (Known bound) place) 1 refl
above_names (Given code) place =
    omega (arith, around (Plain (instr.Values 1) ∷ Plain instr.Push ∷ one instr.Save) (Plain instr.Push ∷ Plain instr.Restore ∷ Plain instr.Push ∷ one (instr.Op comparison 2)) place 0 0 refl refl)

if_names : (test : Bool) (left right : Code) → W left ≤ 1 → W right ≤ 1 → W (if test then left else right) ≤ 1
if_names true left right a b = a
if_names false left right a b = b

by_names : (step : ℤ) (limit : Option (Limit × Amount)) (place : Place) (away : ℕ) → W (tested_by step limit place away) ≤ 1
by_names step None place away = omega arith
by_names step (Some (To, bound)) place away =
    let compare = if int_lt step (pos 0) then bound_above bound place else bound_below bound place in
    omega (arith, join compare (leaves_if true away), leaves_name true away, if_names (int_lt step (pos 0)) (bound_above bound place) (bound_below bound place) (above_names bound place) (below_names bound place))
by_names step (Some (Above, bound)) place away = omega (arith, join (bound_below bound place) (leaves_if false away), leaves_name false away, below_names bound place)
by_names step (Some (Below, bound)) place away = omega (arith, join (bound_above bound place) (leaves_if false away), leaves_name false away, above_names bound place)

room_names : (step : ℤ) (away : ℕ) → W (room_for step away) ≤ 1
room_names (pos zero) away = omega arith
room_names (pos (suc m)) away = exactly (room_for (pos (suc m)) away) 1 refl
room_names (negsuc m) away = exactly (room_for (negsuc m) away) 1 refl

starting_names : (start : Code) (limit : Option (Limit × Amount)) → W (bound_starting start limit) ≤ W start + limit_cost limit
starting_names start None = omega (arith, integer_names start)
starting_names start (Some (limit, Known bound)) = omega (arith, integer_names start)
starting_names start (Some (limit, Given code)) =
    let end = Plain instr.Push ∷ one instr.Restore in
    omega (arith, join (integer start) (Plain instr.Save ∷ (integer code ++ end)), join (integer code) end, exactly end 0 refl, integer_names start, integer_names code)

-- a way to count, over the first value and the bound
record NamesFew (start : Code) (limit : Option (Limit × Amount)) (clause : Counter) : Type 0 where
  pub starts : W clause.starting ≤ W start + limit_cost limit
  pub tests : (place : Place) (away : ℕ) → W (clause.testing place away) ≤ 1
  pub advances : (away : ℕ) → W (clause.advancing away) ≤ 2

steps_few : (start : Code) (limit : Option (Limit × Amount)) (step : ℤ) → NamesFew start limit (stepping start limit step)
steps_few start limit step = record {
  starts = starting_names start limit;
  tests = by_names step limit;
  advances = λ away. omega (arith, join (room_for step (3 + away)) (with_number addition step), room_names step (3 + away), exactly (with_number addition step) 1 refl);
}

limit_some : (limit : Option (Limit × Amount)) → 1 ≤ limit_cost limit
limit_some None = omega arith
limit_some (Some (limit, Known bound)) = omega arith
limit_some (Some (limit, Given code)) = omega arith

up_few : (start : Code) (limit : Option (Limit × Amount)) (bound : ℤ) → NamesFew start limit (up_to start bound)
up_few start limit bound = record {
  starts = omega (arith, integer_names start, limit_some limit);
  tests = by_names (pos 1) (Some (Below, Known bound));
  advances = λ away. omega (arith, exactly (with_number addition (pos 1)) 1 refl);
}

meeting_few : (start bound : Code) → NamesFew start (Some (Below, Given bound)) (meeting start bound)
meeting_few start bound = record {
  starts = omega (arith, join (bound_starting start (Some (Below, Given bound))) raised, exactly raised 0 refl, starting_names start (Some (Below, Given bound)));
  tests = λ place away. omega (arith, around (Plain (instr.Values 1) ∷ Plain instr.Push ∷ one instr.Push) (Plain instr.Push ∷ Plain (instr.Op identity 2) ∷ leaves_if true away) place 0 0 refl refl);
  advances = λ away. omega (arith, exactly (with_number addition (pos 1)) 1 refl);
}

if_few : (start : Code) (limit : Option (Limit × Amount)) (test : Bool) (left right : Counter) → NamesFew start limit left → NamesFew start limit right → NamesFew start limit (if test then left else right)
if_few start limit true left right a b = a
if_few start limit false left right a b = b

one_few : (start : Code) (limit : Option (Limit × Amount)) → NamesFew start limit (by_one start limit)
one_few start None = steps_few start None (pos 1)
one_few start (Some (Below, Known bound)) = up_few start (Some (Below, Known bound)) bound
one_few start (Some (Below, Given bound)) = meeting_few start bound
one_few start (Some (To, Known bound)) =
    if_few start (Some (To, Known bound)) (int_lt bound greatest_number) (up_to start (bound +ℤ pos 1)) (stepping start (Some (To, Known bound)) (pos 1)) (up_few start (Some (To, Known bound)) (bound +ℤ pos 1)) (steps_few start (Some (To, Known bound)) (pos 1))
one_few start (Some (To, Given bound)) = steps_few start (Some (To, Given bound)) (pos 1)
one_few start (Some (Above, Known bound)) = steps_few start (Some (Above, Known bound)) (pos 1)
one_few start (Some (Above, Given bound)) = steps_few start (Some (Above, Given bound)) (pos 1)

counter_few : (start : Code) (limit : Option (Limit × Amount)) (step : ℤ) → NamesFew start limit (counter start limit step)
counter_few start limit (pos (suc zero)) = one_few start limit
counter_few start limit (pos zero) = steps_few start limit (pos zero)
counter_few start limit (pos (suc (suc step))) = steps_few start limit (pos (suc (suc step)))
counter_few start limit (negsuc step) = steps_few start limit (negsuc step)

counted_names : (place : Place) (start : Code) (limit : Option (Limit × Amount)) (clause : Counter) (test : Option (Bool × Code)) (inner : Code) (last : Option Code) → NamesFew start limit clause
    → W (counted place clause test inner last) ≤ W start + (limit_cost limit + 3) + (test_cost test + (W inner + (held_in last + 1)))
counted_names place start limit clause test inner last is =
    let body = Plain instr.Tick ∷ (inner ++ clause.advancing 2) in
    let test_code = tested test (length body + 2) in
    let rest = read place ++ (Plain instr.Push ∷ (test_code ++ body)) in
    let check = clause.testing place (length rest + 1) in
    let turn = put place ++ (cell place ++ (check ++ rest)) in
    let back = Jump (negsuc (length turn)) in
    let takes = Plain (instr.Values (clause.hidden + 1)) in
    let end = back ∷ Plain instr.Push ∷ takes ∷ finished last in
    omega (
      arith,
      is.starts,
      is.tests place (length rest + 1),
      is.advances 2,
      join clause.starting (turn ++ end),
      join turn end,
      join (put place) (cell place ++ (check ++ rest)),
      join (cell place) (check ++ rest),
      join check rest,
      join (read place) (Plain instr.Push ∷ (test_code ++ body)),
      join test_code body,
      join inner (clause.advancing 2),
      put_names place,
      cell_names place,
      read_names place,
      tested_names test (length body + 2),
      finished_names last,
    )

-- loops of any clauses
abbrev amount_cost : Amount → ℕ
amount_cost (Known number) = 1
amount_cost (Given code) = W code + 1

amount_names : (value : Amount) → W (amount value) ≤ amount_cost value
amount_names (Known value) = exactly (number value) 1 refl
amount_names (Given code) = integer_names code

abbrev bound_cost : Option (Limit × Amount) → ℕ
bound_cost None = 1
bound_cost (Some limit) = amount_cost limit.1

bound_names : (limit : Option (Limit × Amount)) → W (bound limit) ≤ bound_cost limit
bound_names None = exactly (truth false) 1 refl
bound_names (Some limit) = amount_names limit.1

limit_names : (limit : Limit) (above away : ℕ) → W (limit_reached limit above away) ≤ 1
limit_names To above away = exactly (limit_reached To above away) 1 refl
limit_names Above above away = omega (arith, exactly (limit_reached Above above away) 0 refl)
limit_names Below above away = omega (arith, exactly (limit_reached Below above away) 0 refl)

abbrev reached_cost : Option (Limit × Amount) → ℕ
reached_cost None = 0
reached_cost (Some limit) = 1

-- what each part of a clause comes to
abbrev start_cost : Clause → ℕ
start_cost (Takes place start next) = W start
start_cost (Counts place start limit step) = W start + (1 + (bound_cost limit + amount_cost step))

abbrev reach_cost : Clause → ℕ
reach_cost (Takes place start next) = 0
reach_cost (Counts place start limit step) = reached_cost limit

abbrev over_cost : Amount → ℕ
over_cost (Known number) = 1
over_cost (Given code) = 6

abbrev on_cost : Clause → ℕ
on_cost (Takes place start next) = W next
on_cost (Counts place start limit step) = over_cost step

start_names : (clause : Clause) → W (starting clause) ≤ start_cost clause
start_names (Takes place start next) = omega (arith, join start (one instr.Push))
start_names (Counts place start limit step) =
    let end = amount step ++ one instr.Push in
    omega (
      arith,
      join (integer start) (Plain instr.Push ∷ (bound limit ++ (Plain instr.Push ∷ end))),
      join (bound limit) (Plain instr.Push ∷ end),
      join (amount step) (one instr.Push),
      integer_names start,
      bound_names limit,
      amount_names step,
    )

reach_names : (clause : Clause) (above away : ℕ) → W (testing clause above away) ≤ reach_cost clause
reach_names (Takes place start next) above away = omega arith
reach_names (Counts place start None step) above away = omega arith
reach_names (Counts place start (Some limit) step) above away = limit_names limit.0 above away

over_names : (step : Amount) (above : ℕ) → W (overflows step above) ≤ over_cost step
over_names (Known (pos m)) above = exactly (overflows (Known (pos m)) above) 1 refl
over_names (Known (negsuc m)) above = exactly (overflows (Known (negsuc m)) above) 1 refl
over_names (Given code) above = exactly (overflows (Given code) above) 6 refl

on_names : (clause : Clause) (before above away : ℕ) → W (advancing clause before above away) ≤ on_cost clause
on_names (Takes place start next) before above away = omega (arith, join next (one instr.Push))
on_names (Counts place start limit step) before above away =
    let on = counted_on above in
    let rest = past_if_false 2 ∷ Plain (instr.Values before) ∷ past (length on + away) ∷ on in
    omega (arith, join (overflows step above) rest, over_names step above, exactly on 0 refl)

abbrev all_cost : (Clause → ℕ) → List Clause → ℕ
all_cost f [] = 0
all_cost f (clause ∷ clauses) = f clause + all_cost f clauses

starts_name : (clauses : List Clause) → W (flat_map starting clauses) ≤ all_cost start_cost clauses
starts_name [] = omega arith
starts_name (clause ∷ clauses) = omega (arith, join (starting clause) (flat_map starting clauses), start_names clause, starts_name clauses)

bindings_name : (clauses : List Clause) → W (bindings clauses) ≡ 0
bindings_name [] = refl
bindings_name (clause ∷ clauses) =
    let sum = operands clause + all_operands clauses in
    let place = variable clause in
    omega (
      arith,
      join (operand sum) (put place ++ (cell place ++ bindings clauses)),
      join (put place) (cell place ++ bindings clauses),
      join (cell place) (bindings clauses),
      exactly (operand sum) 0 refl,
      put_names place,
      cell_names place,
      bindings_name clauses,
    )

tests_name : (clauses : List Clause) (far : ℕ) → W (tests clauses far) ≤ all_cost reach_cost clauses
tests_name [] far = omega arith
tests_name (clause ∷ clauses) far =
    let rest = tests clauses far in
    let away = length rest + far in
    omega (arith, join (testing clause (all_operands clauses) away) rest, reach_names clause (all_operands clauses) away, tests_name clauses far)

advances_name : (clauses : List Clause) (before far : ℕ) → W (advances before clauses far) ≤ all_cost on_cost clauses
advances_name [] before far = omega arith
advances_name (clause ∷ clauses) before far =
    let rest = advances (before + operands clause) clauses far in
    let above = before + all_operands clauses in
    let away = length rest + far in
    omega (arith, join (advancing clause before above away) rest, on_names clause before above away, advances_name clauses (before + operands clause) far)

clause_costs : (clause : Clause) → start_cost clause + (reach_cost clause + on_cost clause) ≤ cost clause
clause_costs (Takes place start next) = omega arith
clause_costs (Counts place start None (Known step)) = omega arith
clause_costs (Counts place start None (Given step)) = omega arith
clause_costs (Counts place start (Some (limit, Known bound)) (Known step)) = omega arith
clause_costs (Counts place start (Some (limit, Known bound)) (Given step)) = omega arith
clause_costs (Counts place start (Some (limit, Given bound)) (Known step)) = omega arith
clause_costs (Counts place start (Some (limit, Given bound)) (Given step)) = omega arith

all_costs : (clauses : List Clause) → all_cost start_cost clauses + (all_cost reach_cost clauses + all_cost on_cost clauses) ≤ costs clauses
all_costs [] = omega arith
all_costs (clause ∷ clauses) = omega (arith, clause_costs clause, all_costs clauses)

turns_name : (clauses : List Clause) (test : Option (Bool × Code)) (inner : Code) (last : Option Code) → W (turns clauses test inner last) ≤ costs clauses + (test_cost test + (W inner + (held_in last + 1)))
turns_name clauses test inner last =
    let sum = all_operands clauses in
    let goes_on = advances 0 clauses 6 in
    let body = Plain instr.Tick ∷ (inner ++ (goes_on ++ renewed sum)) in
    let test_code = tested test (length body + 1) in
    let rest = test_code ++ body in
    let checks = tests clauses (length rest + 1) in
    let turn = bindings clauses ++ (checks ++ rest) in
    let back = Jump (negsuc (length turn)) in
    let end = back ∷ Plain (instr.Values sum) ∷ finished last in
    omega (
      arith,
      join (flat_map starting clauses) (turn ++ end),
      join turn end,
      join (bindings clauses) (checks ++ rest),
      join checks rest,
      join test_code body,
      join inner (goes_on ++ renewed sum),
      join goes_on (renewed sum),
      exactly (renewed sum) 0 refl,
      starts_name clauses,
      bindings_name clauses,
      tests_name clauses (length rest + 1),
      advances_name clauses 0 6,
      tested_names test (length body + 1),
      finished_names last,
      all_costs clauses,
    )

pub for_names : (clauses : List Clause) (test : Option (Bool × Code)) (inner : Code) (last : Option Code) → W (for_loop clauses test inner last) ≤ costs clauses + (test_cost test + (W inner + (held_in last + 1)))
for_names [] test inner last = turns_name [] test inner last
for_names (Takes place start next ∷ clauses) test inner last = turns_name (Takes place start next ∷ clauses) test inner last
for_names (Counts place start limit (Known step) ∷ []) test inner last = omega (arith, counted_names place start limit (counter start limit step) test inner last (counter_few start limit step))
for_names (Counts place start limit (Known step) ∷ clause ∷ clauses) test inner last = turns_name (Counts place start limit (Known step) ∷ clause ∷ clauses) test inner last
for_names (Counts place start limit (Given step) ∷ []) test inner last = turns_name (Counts place start limit (Given step) ∷ []) test inner last
for_names (Counts place start limit (Given step) ∷ clause ∷ clauses) test inner last = turns_name (Counts place start limit (Given step) ∷ clause ∷ clauses) test inner last
