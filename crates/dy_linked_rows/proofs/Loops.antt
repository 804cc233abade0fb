-- The code of a `for` from linked code of its parts is its code, linked.
use Rattle.std.proofs.Common.{◌≡◌, ℕ, zero, suc, ◌+◌, ℤ, pos, negsuc, Bool, true, false, List, [], ◌∷◌, ◌++◌, length, map, Option, Some, None, refl, sym, ap, ◌∙◌}
use Rattle.std.specs.Prelude.{flat_map, ◌+ℤ◌, ◌-ℤ◌, int_lt, if◌then◌else◌}
use Rattle.std.specs.Option.{option_map}
use Rattle.dy_term.specs.declared.term.Limit.{Limit}
use Rattle.dy_term.specs.declared.term.Limit.TheVariants.{To, Above, Below}
use Rattle.dy_outcome.specs.declared.place.Place.{Place}
use Rattle.dy_outcome.specs.declared.place.Place.TheVariants.{Own, Captured}
use Rattle.dy_code.specs.Fetching.{Push, Tick, Values, Op, Save, Restore}
use Rattle.dy_lowered.specs.Flat.{Flat, Plain, Jump, Code, one, past, past_if_false}
use Rattle.dy_lowered.specs.Parts.{read, put, cell}
use Rattle.dy_lowered.specs.Turns.{Amount, Known, Given, Clause, Takes, Counts, addition, number, with_number, comparison, integer, leaves_if, Counter, bound_below, bound_above, limit_test, tested_by, room_for, bound_starting, hidden_bound, stepping, up_to, raised, meeting, by_one, counter, greatest_number, tested, finished, counted_body, counted_rest, counted_turn, counted, operand, operands, all_operands, amount, bound, starting, variable, bindings, limit_reached, testing, tests, overflows, counted_on, advancing, advances, renewed, turn_body, turn_rest, turn, turns, for_loop}
use Rattle.dy_linked_rows.specs.Code.{linked_flats}
use Rattle.dy_linked_rows.proofs.Pieces.{join, as_long, read_fixed, put_fixed, cell_fixed}

module _ (places : ℕ → ℕ) where
  abbrev pub linked_amount : Amount → Amount
  linked_amount (Known value) = Known value
  linked_amount (Given code) = Given (linked_flats places code)

  abbrev pub linked_limit : Option (Limit × Amount) → Option (Limit × Amount)
  linked_limit limit = option_map (λ (l : Limit × Amount). (l.0, linked_amount l.1)) limit

  abbrev pub linked_count : Clause → Clause
  linked_count (Takes place start next) = Takes place (linked_flats places start) (linked_flats places next)
  linked_count (Counts place start limit step) = Counts place (linked_flats places start) (linked_limit limit) (linked_amount step)

  abbrev pub linked_test : Option (Bool × Code) → Option (Bool × Code)
  linked_test test = option_map (λ (t : Bool × Code). (t.0, linked_flats places t.1)) test

  abbrev linked_counter : Counter → Counter
  linked_counter clause = record {
    starting = linked_flats places clause.starting;
    hidden = clause.hidden;
    testing = λ place distance. linked_flats places (clause.testing place distance);
    advancing = λ distance. linked_flats places (clause.advancing distance);
  }

module _ (places : ℕ → ℕ) where
  abbrev L : Code → Code
  L = linked_flats places

  both : (xs ys xs' ys' : Code) → xs' ≡ L xs → ys' ≡ L ys → xs' ++ ys' ≡ L (xs ++ ys)
  both = join places

  integer_linked : (term : Code) → integer (L term) ≡ L (integer term)
  integer_linked term =
      let behind : Code = Plain Push ∷ Plain Push ∷ (with_number comparison (pos 0) ++ one (Values 1)) in
      both term behind (L term) behind refl refl

  leaves_fixed : (is : Bool) (distance : ℕ) → leaves_if is distance ≡ L (leaves_if is distance)
  leaves_fixed true distance = refl
  leaves_fixed false distance = refl

  -- tests of a bound
  below_linked : (least : Amount) (place : Place) → bound_below (linked_amount places least) place ≡ L (bound_below least place)
  below_linked (Known value) (Own local false) = refl
  below_linked (Known value) (Own local true) = refl
  below_linked (Known value) (Captured local) = refl
  below_linked (Given code) (Own local false) = refl
  below_linked (Given code) (Own local true) = refl
  below_linked (Given code) (Captured local) = refl

  above_linked : (least : Amount) (place : Place) → bound_above (linked_amount places least) place ≡ L (bound_above least place)
  above_linked (Known value) place = refl
  above_linked (Given code) (Own local false) = refl
  above_linked (Given code) (Own local true) = refl
  above_linked (Given code) (Captured local) = refl

  if_linked : (is : Bool) (xs ys xs' ys' : Code) → xs' ≡ L xs → ys' ≡ L ys → (if is then xs' else ys') ≡ L (if is then xs else ys)
  if_linked true xs ys xs' ys' e f = e
  if_linked false xs ys xs' ys' e f = f

  limit_linked : (step : ℤ) (limit : Limit) (least : Amount) (place : Place) (distance : ℕ) → limit_test step limit (linked_amount places least) place distance ≡ L (limit_test step limit least place distance)
  limit_linked step To least place distance =
      let least' = linked_amount places least in
      let is = int_lt step (pos 0) in
      both (if is then bound_above least place else bound_below least place) (leaves_if true distance) (if is then bound_above least' place else bound_below least' place) (leaves_if true distance)
      (if_linked is (bound_above least place) (bound_below least place) (bound_above least' place) (bound_below least' place) (above_linked least place) (below_linked least place)) refl
  limit_linked step Above least place distance =
      both (bound_below least place) (leaves_if false distance) (bound_below (linked_amount places least) place) (leaves_if false distance) (below_linked least place) refl
  limit_linked step Below least place distance =
      both (bound_above least place) (leaves_if false distance) (bound_above (linked_amount places least) place) (leaves_if false distance) (above_linked least place) refl

  tested_by_linked : (step : ℤ) (limit : Option (Limit × Amount)) (place : Place) (distance : ℕ) → tested_by step (linked_limit places limit) place distance ≡ L (tested_by step limit place distance)
  tested_by_linked step None place distance = refl
  tested_by_linked step (Some limit) place distance = limit_linked step limit.0 limit.1 place distance

  room_fixed : (step : ℤ) (distance : ℕ) → room_for step distance ≡ L (room_for step distance)
  room_fixed (pos zero) distance = refl
  room_fixed (pos (suc more)) distance = refl
  room_fixed (negsuc less) distance = refl

  starting_linked : (start : Code) (limit : Option (Limit × Amount)) → bound_starting (L start) (linked_limit places limit) ≡ L (bound_starting start limit)
  starting_linked start None = integer_linked start
  starting_linked start (Some (limit, Known value)) = integer_linked start
  starting_linked start (Some (limit, Given code)) =
      let behind : Code = Plain Push ∷ one Restore in
      both (integer start) (Plain Save ∷ (integer code ++ behind)) (integer (L start)) (Plain Save ∷ (integer (L code) ++ behind)) (integer_linked start)
      (ap (λ (c : Code). Plain Save ∷ c) (both (integer code) behind (integer (L code)) behind (integer_linked code) refl))

  hidden_same : (limit : Option (Limit × Amount)) → hidden_bound (linked_limit places limit) ≡ hidden_bound limit
  hidden_same None = refl
  hidden_same (Some (limit, Known value)) = refl
  hidden_same (Some (limit, Given code)) = refl

  advancing_fixed : (step : ℤ) (distance : ℕ) → room_for step (3 + distance) ++ with_number addition step ≡ L (room_for step (3 + distance) ++ with_number addition step)
  advancing_fixed step distance = both (room_for step (3 + distance)) (with_number addition step) (room_for step (3 + distance)) (with_number addition step) (room_fixed step (3 + distance)) refl

  -- how a clause counts
  stepping_linked : (start : Code) (limit : Option (Limit × Amount)) (step : ℤ) → stepping (L start) (linked_limit places limit) step ≡ linked_counter places (stepping start limit step)
  stepping_linked start limit step = λ j. record {
    starting = starting_linked start limit j;
    hidden = hidden_same limit j;
    testing = λ place distance. tested_by_linked step limit place distance j;
    advancing = λ distance. advancing_fixed step distance j;
  }

  up_to_linked : (start : Code) (value : ℤ) → up_to (L start) value ≡ linked_counter places (up_to start value)
  up_to_linked start value = λ j. record {
    starting = integer_linked start j;
    hidden = 0;
    testing = λ place distance. tested_by_linked (pos 1) (Some (Below, Known value)) place distance j;
    advancing = λ distance. with_number addition (pos 1);
  }

  meeting_fixed : (start code : Code) (place : Place) (distance : ℕ) → (meeting start code).testing place distance ≡ L ((meeting start code).testing place distance)
  meeting_fixed start code (Own local false) distance = refl
  meeting_fixed start code (Own local true) distance = refl
  meeting_fixed start code (Captured local) distance = refl

  raised_fixed : raised ≡ L raised
  raised_fixed = refl

  meeting_linked : (start code : Code) → meeting (L start) (L code) ≡ linked_counter places (meeting start code)
  meeting_linked start code = λ j. record {
    starting = both (bound_starting start (Some (Below, Given code))) raised (bound_starting (L start) (Some (Below, Given (L code)))) raised (starting_linked start (Some (Below, Given code))) raised_fixed j;
    hidden = 1;
    testing = λ place distance. meeting_fixed start code place distance j;
    advancing = λ distance. with_number addition (pos 1);
  }

  if_counter : (is : Bool) (a b a' b' : Counter) → a' ≡ linked_counter places a → b' ≡ linked_counter places b → (if is then a' else b') ≡ linked_counter places (if is then a else b)
  if_counter true a b a' b' e f = e
  if_counter false a b a' b' e f = f

  by_one_linked : (start : Code) (limit : Option (Limit × Amount)) → by_one (L start) (linked_limit places limit) ≡ linked_counter places (by_one start limit)
  by_one_linked start None = stepping_linked start None (pos 1)
  by_one_linked start (Some (Below, Known value)) = up_to_linked start value
  by_one_linked start (Some (Below, Given code)) = meeting_linked start code
  by_one_linked start (Some (To, Known value)) =
      if_counter (int_lt value greatest_number) (up_to start (value +ℤ pos 1)) (stepping start (Some (To, Known value)) (pos 1)) (up_to (L start) (value +ℤ pos 1)) (stepping (L start) (Some (To, Known value)) (pos 1))
      (up_to_linked start (value +ℤ pos 1)) (stepping_linked start (Some (To, Known value)) (pos 1))
  by_one_linked start (Some (To, Given code)) = stepping_linked start (Some (To, Given code)) (pos 1)
  by_one_linked start (Some (Above, Known value)) = stepping_linked start (Some (Above, Known value)) (pos 1)
  by_one_linked start (Some (Above, Given code)) = stepping_linked start (Some (Above, Given code)) (pos 1)

  counter_linked : (start : Code) (limit : Option (Limit × Amount)) (step : ℤ) → counter (L start) (linked_limit places limit) step ≡ linked_counter places (counter start limit step)
  counter_linked start limit (pos zero) = stepping_linked start limit (pos zero)
  counter_linked start limit (pos (suc zero)) = by_one_linked start limit
  counter_linked start limit (pos (suc (suc more))) = stepping_linked start limit (pos (suc (suc more)))
  counter_linked start limit (negsuc less) = stepping_linked start limit (negsuc less)

  tested_linked : (test : Option (Bool × Code)) (distance : ℕ) → tested (linked_test places test) distance ≡ L (tested test distance)
  tested_linked None distance = refl
  tested_linked (Some test) distance = both test.1 (leaves_if test.0 distance) (L test.1) (leaves_if test.0 distance) refl (leaves_fixed test.0 distance)

  finished_linked : (last : Option Code) → finished (option_map L last) ≡ L (finished last)
  finished_linked None = refl
  finished_linked (Some last) = refl

  -- a loop of one clause that counts
  module _ (place : Place) (clause : Counter) (test : Option (Bool × Code)) (inner : Code) where
    abbrev clause' : Counter
    clause' = linked_counter places clause

    abbrev test' : Option (Bool × Code)
    test' = linked_test places test

    counted_body_linked : counted_body place clause' test' (L inner) ≡ L (counted_body place clause test inner)
    counted_body_linked = ap (λ (c : Code). Plain Tick ∷ c) (both inner (clause.advancing 2) (L inner) (L (clause.advancing 2)) refl refl)

    counted_rest_linked : counted_rest place clause' test' (L inner) ≡ L (counted_rest place clause test inner)
    counted_rest_linked =
        let run = counted_body place clause test inner in
        let behind = both (tested test (length run + 2)) run (tested test' (length run + 2)) (L run) (tested_linked test (length run + 2)) refl in
        (λ j. read place ++ (Plain Push ∷ (tested test' (length (counted_body_linked j) + 2) ++ counted_body_linked j)))
        ∙ ((λ j. read place ++ (Plain Push ∷ (tested test' (as_long places run j + 2) ++ L run)))
        ∙ both (read place) (Plain Push ∷ (tested test (length run + 2) ++ run)) (read place) (Plain Push ∷ (tested test' (length run + 2) ++ L run)) (read_fixed places place) (ap (λ (c : Code). Plain Push ∷ c) behind))

    counted_turn_linked : counted_turn place clause' test' (L inner) ≡ L (counted_turn place clause test inner)
    counted_turn_linked =
        let rest = counted_rest place clause test inner in
        let tests = clause.testing place (length rest + 1) in
        let behind = both (cell place) (tests ++ rest) (cell place) (L tests ++ L rest) (cell_fixed places place) (both tests rest (L tests) (L rest) refl refl) in
        (λ j. put place ++ (cell place ++ (L (clause.testing place (length (counted_rest_linked j) + 1)) ++ counted_rest_linked j)))
        ∙ ((λ j. put place ++ (cell place ++ (L (clause.testing place (as_long places rest j + 1)) ++ L rest)))
        ∙ both (put place) (cell place ++ (tests ++ rest)) (put place) (cell place ++ (L tests ++ L rest)) (put_fixed places place) behind)

    counted_linked : (last : Option Code) → counted place clause' test' (L inner) (option_map L last) ≡ L (counted place clause test inner last)
    counted_linked last =
        let turn = counted_turn place clause test inner in
        let away = Plain (Values (clause.hidden + 1)) in
        let back = Jump (negsuc (length turn)) in
        let end = both turn (back ∷ Plain Push ∷ away ∷ finished last) (L turn) (back ∷ Plain Push ∷ away ∷ finished (option_map L last)) refl (ap (λ (c : Code). back ∷ Plain Push ∷ away ∷ c) (finished_linked last)) in
        (λ j. L clause.starting ++ (counted_turn_linked j ++ (Jump (negsuc (length (counted_turn_linked j))) ∷ Plain Push ∷ away ∷ finished (option_map L last))))
        ∙ ((λ j. L clause.starting ++ (L turn ++ (Jump (negsuc (as_long places turn j)) ∷ Plain Push ∷ away ∷ finished (option_map L last))))
        ∙ both clause.starting (turn ++ (back ∷ Plain Push ∷ away ∷ finished last)) (L clause.starting) (L turn ++ (back ∷ Plain Push ∷ away ∷ finished (option_map L last))) refl end)

  -- any clauses
  operands_same : (clause : Clause) → operands (linked_count places clause) ≡ operands clause
  operands_same (Takes place start next) = refl
  operands_same (Counts place start limit step) = refl

  variable_same : (clause : Clause) → variable (linked_count places clause) ≡ variable clause
  variable_same (Takes place start next) = refl
  variable_same (Counts place start limit step) = refl

  abbrev all_linked : List Clause → List Clause
  all_linked clauses = map (linked_count places) clauses

  operands_all : (clauses : List Clause) → all_operands (all_linked clauses) ≡ all_operands clauses
  operands_all [] = refl
  operands_all (clause ∷ clauses) = λ j. operands_same clause j + operands_all clauses j

  amount_linked : (step : Amount) → amount (linked_amount places step) ≡ L (amount step)
  amount_linked (Known value) = refl
  amount_linked (Given code) = integer_linked code

  bound_linked : (limit : Option (Limit × Amount)) → bound (linked_limit places limit) ≡ L (bound limit)
  bound_linked None = refl
  bound_linked (Some limit) = amount_linked limit.1

  clause_starting : (clause : Clause) → starting (linked_count places clause) ≡ L (starting clause)
  clause_starting (Takes place start next) = both start (one Push) (L start) (one Push) refl refl
  clause_starting (Counts place start limit step) =
      let limit' = linked_limit places limit in
      let step' = linked_amount places step in
      let last = both (amount step) (one Push) (amount step') (one Push) (amount_linked step) refl in
      let middle = both (bound limit) (Plain Push ∷ (amount step ++ one Push)) (bound limit') (Plain Push ∷ (amount step' ++ one Push)) (bound_linked limit) (ap (λ (c : Code). Plain Push ∷ c) last) in
      both (integer start) (Plain Push ∷ (bound limit ++ (Plain Push ∷ (amount step ++ one Push)))) (integer (L start)) (Plain Push ∷ (bound limit' ++ (Plain Push ∷ (amount step' ++ one Push)))) (integer_linked start) (ap (λ (c : Code). Plain Push ∷ c) middle)

  all_starting : (clauses : List Clause) → flat_map starting (all_linked clauses) ≡ L (flat_map starting clauses)
  all_starting [] = refl
  all_starting (clause ∷ clauses) =
      both (starting clause) (flat_map starting clauses) (starting (linked_count places clause)) (flat_map starting (all_linked clauses)) (clause_starting clause) (all_starting clauses)

  bindings_linked : (clauses : List Clause) → bindings (all_linked clauses) ≡ L (bindings clauses)
  bindings_linked [] = refl
  bindings_linked (clause ∷ clauses) =
      let place = variable clause in
      let at = operands clause + all_operands clauses in
      let behind = both (put place) (cell place ++ bindings clauses) (put place) (cell place ++ bindings (all_linked clauses)) (put_fixed places place)
      (both (cell place) (bindings clauses) (cell place) (bindings (all_linked clauses)) (cell_fixed places place) (bindings_linked clauses)) in
      (λ j. operand (operands_same clause j + operands_all clauses j) ++ (put (variable_same clause j) ++ (cell (variable_same clause j) ++ bindings (all_linked clauses))))
      ∙ both (operand at) (put place ++ (cell place ++ bindings clauses)) (operand at) (put place ++ (cell place ++ bindings (all_linked clauses))) refl behind

  reached_fixed : (limit : Limit) (above distance : ℕ) → limit_reached limit above distance ≡ L (limit_reached limit above distance)
  reached_fixed To above distance = refl
  reached_fixed Above above distance = refl
  reached_fixed Below above distance = refl

  testing_linked : (clause : Clause) (above distance : ℕ) → testing (linked_count places clause) above distance ≡ L (testing clause above distance)
  testing_linked (Takes place start next) above distance = refl
  testing_linked (Counts place start None step) above distance = refl
  testing_linked (Counts place start (Some limit) step) above distance = reached_fixed limit.0 above distance

  tests_linked : (clauses : List Clause) (far : ℕ) → tests (all_linked clauses) far ≡ L (tests clauses far)
  tests_linked [] far = refl
  tests_linked (clause ∷ clauses) far =
      let here = tests_linked clauses far in
      let others = tests clauses far in
      let clause' = linked_count places clause in
      (λ j. testing clause' (operands_all clauses j) (length (here j) + far) ++ here j)
      ∙ ((λ j. testing clause' (all_operands clauses) (as_long places others j + far) ++ L others)
      ∙ both (testing clause (all_operands clauses) (length others + far)) others (testing clause' (all_operands clauses) (length others + far)) (L others) (testing_linked clause (all_operands clauses) (length others + far)) refl)

  overflows_linked : (step : Amount) (above : ℕ) → overflows (linked_amount places step) above ≡ L (overflows step above)
  overflows_linked (Known (pos more)) above = refl
  overflows_linked (Known (negsuc less)) above = refl
  overflows_linked (Given code) above = refl

  counted_on_fixed : (above : ℕ) → counted_on above ≡ L (counted_on above)
  counted_on_fixed above = refl

  advancing_linked : (clause : Clause) (before above distance : ℕ) → advancing (linked_count places clause) before above distance ≡ L (advancing clause before above distance)
  advancing_linked (Takes place start next) before above distance = both next (one Push) (L next) (one Push) refl refl
  advancing_linked (Counts place start limit step) before above distance =
      let behind : Code = past_if_false 2 ∷ Plain (Values before) ∷ past (length (counted_on above) + distance) ∷ counted_on above in
      both (overflows step above) behind (overflows (linked_amount places step) above) behind (overflows_linked step above)
      (ap (λ (c : Code). past_if_false 2 ∷ Plain (Values before) ∷ past (length (counted_on above) + distance) ∷ c) (counted_on_fixed above))

  advances_linked : (before : ℕ) (clauses : List Clause) (far : ℕ) → advances before (all_linked clauses) far ≡ L (advances before clauses far)
  advances_linked before [] far = refl
  advances_linked before (clause ∷ clauses) far =
      let next = before + operands clause in
      let here = advances_linked next clauses far in
      let others = advances next clauses far in
      let clause' = linked_count places clause in
      let above = before + all_operands clauses in
      (λ j. advancing clause' before (before + operands_all clauses j) (length (advances (before + operands_same clause j) (all_linked clauses) far) + far) ++ advances (before + operands_same clause j) (all_linked clauses) far)
      ∙ ((λ j. advancing clause' before above (length (here j) + far) ++ here j)
      ∙ ((λ j. advancing clause' before above (as_long places others j + far) ++ L others)
      ∙ both (advancing clause before above (length others + far)) others (advancing clause' before above (length others + far)) (L others) (advancing_linked clause before above (length others + far)) refl))

  module _ (clauses : List Clause) (test : Option (Bool × Code)) (inner : Code) where
    abbrev clauses' : List Clause
    clauses' = all_linked clauses

    abbrev test_of : Option (Bool × Code)
    test_of = linked_test places test

    turn_body_linked : turn_body clauses' test_of (L inner) ≡ L (turn_body clauses test inner)
    turn_body_linked =
        let away = renewed (all_operands clauses) in
        let steps = advances 0 clauses 6 in
        let behind = both steps away (advances 0 clauses' 6) away (advances_linked 0 clauses 6) refl in
        (λ j. Plain Tick ∷ (L inner ++ (advances 0 clauses' 6 ++ renewed (operands_all clauses j))))
        ∙ ap (λ (c : Code). Plain Tick ∷ c) (both inner (steps ++ away) (L inner) (advances 0 clauses' 6 ++ away) refl behind)

    turn_rest_linked : turn_rest clauses' test_of (L inner) ≡ L (turn_rest clauses test inner)
    turn_rest_linked =
        let run = turn_body clauses test inner in
        (λ j. tested test_of (length (turn_body_linked j) + 1) ++ turn_body_linked j)
        ∙ ((λ j. tested test_of (as_long places run j + 1) ++ L run)
        ∙ both (tested test (length run + 1)) run (tested test_of (length run + 1)) (L run) (tested_linked test (length run + 1)) refl)

    turn_linked : turn clauses' test_of (L inner) ≡ L (turn clauses test inner)
    turn_linked =
        let rest = turn_rest clauses test inner in
        let all = tests clauses (length rest + 1) in
        (λ j. bindings clauses' ++ (tests clauses' (length (turn_rest_linked j) + 1) ++ turn_rest_linked j))
        ∙ ((λ j. bindings clauses' ++ (tests clauses' (as_long places rest j + 1) ++ L rest))
        ∙ both (bindings clauses) (all ++ rest) (bindings clauses') (tests clauses' (length rest + 1) ++ L rest) (bindings_linked clauses)
        (both all rest (tests clauses' (length rest + 1)) (L rest) (tests_linked clauses (length rest + 1)) refl))

    turns_linked : (last : Option Code) → turns clauses' test_of (L inner) (option_map L last) ≡ L (turns clauses test inner last)
    turns_linked last =
        let run = turn clauses test inner in
        let count = all_operands clauses in
        let back = Jump (negsuc (length run)) in
        let end = both run (back ∷ Plain (Values count) ∷ finished last) (L run) (back ∷ Plain (Values count) ∷ finished (option_map L last)) refl (ap (λ (c : Code). back ∷ Plain (Values count) ∷ c) (finished_linked last)) in
        (λ j. flat_map starting clauses' ++ (turn_linked j ++ (Jump (negsuc (length (turn_linked j))) ∷ Plain (Values (operands_all clauses j)) ∷ finished (option_map L last))))
        ∙ ((λ j. flat_map starting clauses' ++ (L run ++ (Jump (negsuc (as_long places run j)) ∷ Plain (Values count) ∷ finished (option_map L last))))
        ∙ both (flat_map starting clauses) (run ++ (back ∷ Plain (Values count) ∷ finished last)) (flat_map starting clauses') (L run ++ (back ∷ Plain (Values count) ∷ finished (option_map L last))) (all_starting clauses) end)

  pub for_linked_code : (clauses : List Clause) (test : Option (Bool × Code)) (inner : Code) (last : Option Code) → for_loop (all_linked clauses) (linked_test places test) (L inner) (option_map L last) ≡ L (for_loop clauses test inner last)
  for_linked_code [] test inner last = turns_linked [] test inner last
  for_linked_code (Takes place start next ∷ clauses) test inner last = turns_linked (Takes place start next ∷ clauses) test inner last
  for_linked_code (Counts place start limit (Given code) ∷ clauses) test inner last = turns_linked (Counts place start limit (Given code) ∷ clauses) test inner last
  for_linked_code (Counts place start limit (Known step) ∷ []) test inner last =
      ap (λ (c : Counter). counted place c (linked_test places test) (L inner) (option_map L last)) (counter_linked start limit step) ∙ counted_linked place (counter start limit step) test inner last
  for_linked_code (Counts place start limit (Known step) ∷ clause ∷ clauses) test inner last = turns_linked (Counts place start limit (Known step) ∷ clause ∷ clauses) test inner last
