-- The code of a `for` (DRM 4, "Iteration"), from that of its parts (own).
--
-- What a clause keeps from turn to turn are operands while the body runs, so nothing is moved for
-- it. Each turn binds the variables, tests the clauses, tests, spends a unit, runs the body, and
-- lets the clauses go on.
--
-- A loop of one clause that counts by a known step has its bound there, as far as that is not known
-- before, and on top its number, which is in the register from the end of a turn to the binding of
-- the next one. In every other loop a clause that counts has its number, its bound and its step
-- there, and one with a value for each turn has that. The operands of the next turn are laid above
-- them, and then take their place.
use Rattle.std.specs.Prelude.{ℕ, zero, suc, ◌+◌, ◌-◌, ◌^◌, ℤ, ◌+ℤ◌, ◌-ℤ◌, pos, negsuc, int_lt}
use Rattle.std.specs.Prelude.{Bool, true, false, List, [], ◌∷◌, ◌++◌, length, if◌then◌else◌}
use Rattle.std.specs.Prelude.{flat_map}
use Rattle.std.specs.declared.option.Option.{Option}
use Rattle.std.specs.declared.option.Option.TheVariants.{None, Some}
use Rattle.dy_term.specs.declared.literal.Literal.{Literal-F, roll-Literal}
use Rattle.dy_term.specs.declared.term.Limit.{Limit}
use Rattle.dy_term.specs.declared.term.Limit.TheVariants.{To, Above, Below}
use Rattle.dy_outcome.specs.declared.place.Place.{Place}
use Rattle.dy_code.specs.Fetching.{Const, Push, Tick, Values, Spread, Op, Save, Restore}
use Rattle.dy_meaning.specs.Meaning.{identity}
use Rattle.dy_lowered.specs.Flat.{Flat, Plain, Jump, Code, one, past, past_if_false}
use Rattle.dy_lowered.specs.Parts.{truth, read, put, cell, choice}

-- a number that is known before anything runs, or the code that gives it
pub data Amount : Type 0 where
  Known : (number : ℤ) → Amount
  Given : (code : Code) → Amount

-- a clause: a variable with its first value and each next one; or one that counts from a number,
-- with where it ends, and its step, which is 1 where none is written
pub data Clause : Type 0 where
  Takes : (place : Place) (start next : Code) → Clause
  Counts : (place : Place) (start : Code) (limit : Option (Limit × Amount)) (step : Amount)
      → Clause

-- the numbers of the built-in operations on integers; the last ones tell whether one is less than
-- another, and the opposite of a truth
abbrev pub addition : ℕ
addition = 0

abbrev pub multiplication : ℕ
multiplication = 2

abbrev pub comparison : ℕ
comparison = 4

abbrev pub opposite : ℕ
opposite = 29

abbrev pub number : ℤ → Code
number value = one (Const (roll-Literal (Literal-F.Int value)))

abbrev pub least_number : ℤ
least_number = negsuc (2 ^ 63 - 1)

abbrev pub greatest_number : ℤ
greatest_number = pos (2 ^ 63 - 1)

-- by the topmost operand and a number
abbrev pub with_number : ℕ → ℤ → Code
with_number operation value = number value ++ (Plain Push ∷ one (Op operation 2))

-- A number is tested as soon as it was evaluated: it is compared with 0.
abbrev pub integer : Code → Code
integer term = term ++ (Plain Push ∷ Plain Push
    ∷ (with_number comparison (pos 0) ++ one (Values 1)))

-- The loop is left, for a place so far behind this, where the first value is true, or where it is
-- `#f`.
abbrev pub leaves_if : Bool → ℕ → Code
leaves_if true distance = past_if_false 1 ∷ past distance ∷ []
leaves_if false distance = past_if_false distance ∷ []

-- How a clause counts. The code before the first turn leaves the hidden operands, and the number in
-- the register.
--
-- The test begins with the hidden operands, and the number in the register and in the variable. It
-- ends with these operands, or leaves the loop with them.
--
-- To go on begins with the number over the hidden operands. It ends with the next number in their
-- place in the register, or leaves the loop with the operands as they were.
pub record Counter : Type 0 where
  pub starting : Code
  pub hidden : ℕ
  pub testing : Place → ℕ → Code
  pub advancing : ℕ → Code

-- whether the bound, which is known or an operand, is less than the number
abbrev pub bound_below : Amount → Place → Code
bound_below (Known bound) place =
    number bound ++ (Plain Push ∷ (read place ++ (Plain Push ∷ one (Op comparison 2))))
bound_below (Given code) place =
    Plain (Values 1) ∷ Plain Push ∷ Plain Push
    ∷ (read place ++ (Plain Push ∷ one (Op comparison 2)))

-- whether the number is less than the bound
abbrev pub bound_above : Amount → Place → Code
bound_above (Known bound) place = Plain Push ∷ with_number comparison bound
bound_above (Given code) place =
    Plain (Values 1) ∷ Plain Push ∷ Plain Save
    ∷ (read place ++ (Plain Push ∷ Plain Restore ∷ Plain Push ∷ one (Op comparison 2)))

-- `to` ends past the bound, in the direction of the step; `above` at or under it, `below` at or
-- over it
abbrev pub limit_test : ℤ → Limit → Amount → Place → ℕ → Code
limit_test step To bound place distance =
    (if int_lt step (pos 0) then bound_above bound place else bound_below bound place)
    ++ leaves_if true distance
limit_test step Above bound place distance = bound_below bound place ++ leaves_if false distance
limit_test step Below bound place distance = bound_above bound place ++ leaves_if false distance

abbrev pub tested_by : ℤ → Option (Limit × Amount) → Place → ℕ → Code
tested_by step None place distance = []
tested_by step (Some limit) place distance = limit_test step limit.0 limit.1 place distance

-- the topmost operand, which stays there, is compared with a number
abbrev pub top_less : ℤ → Code
top_less value =
    Plain (Values 1) ∷ Plain Push ∷ Plain Push ∷ with_number comparison value

-- An advance that has no 64 bits leaves the loop.
abbrev pub room_for : ℤ → ℕ → Code
room_for (pos zero) distance = []
room_for (pos (suc more)) distance =
    top_less (greatest_number -ℤ pos more) ++ leaves_if false distance
room_for (negsuc less) distance =
    top_less (least_number +ℤ pos (suc less)) ++ leaves_if true distance

abbrev pub bound_starting : Code → Option (Limit × Amount) → Code
bound_starting start None = integer start
bound_starting start (Some (limit, Known bound)) = integer start
bound_starting start (Some (limit, Given code)) =
    integer start ++ (Plain Save ∷ (integer code ++ (Plain Push ∷ one Restore)))

abbrev pub hidden_bound : Option (Limit × Amount) → ℕ
hidden_bound None = 0
hidden_bound (Some (limit, Known bound)) = 0
hidden_bound (Some (limit, Given code)) = 1

-- by a known step
abbrev pub stepping : Code → Option (Limit × Amount) → ℤ → Counter
stepping start limit step = record {
  starting = bound_starting start limit;
  hidden = hidden_bound limit;
  testing = tested_by step limit;
  advancing = λ distance. room_for step (3 + distance) ++ with_number addition step;
}

-- by one up to below a known bound, which all numbers that go on are less than
abbrev pub up_to : Code → ℤ → Counter
up_to start bound = record {
  starting = integer start;
  hidden = 0;
  testing = tested_by (pos 1) (Some (Below, Known bound));
  advancing = λ distance. with_number addition (pos 1);
}

-- the topmost operands, which lie there once more behind this
abbrev pub again : ℕ → Code
again count = Plain (Values count) ∷ Plain (Spread count false) ∷ one (Spread count false)

-- The bound becomes the number where it is less, so that the number meets it.
abbrev pub raised : Code
raised =
    Plain Save ∷ Plain Push
    ∷ choice (again 2 ++ one (Op comparison 2)) (Plain (Values 2) ∷ Plain Restore ∷ one Push)
    (Plain (Values 1) ∷ one Restore)

-- by one up to below a bound, until the number meets it
abbrev pub meeting : Code → Code → Counter
meeting start bound = record {
  starting = bound_starting start (Some (Below, Given bound)) ++ raised;
  hidden = 1;
  testing = λ place distance. Plain (Values 1) ∷ Plain Push ∷ Plain Push
      ∷ (read place ++ (Plain Push ∷ (Plain (Op identity 2) ∷ leaves_if true distance)));
  advancing = λ distance. with_number addition (pos 1);
}

-- by one
abbrev pub by_one : Code → Option (Limit × Amount) → Counter
by_one start (Some (Below, Known bound)) = up_to start bound
by_one start (Some (Below, Given bound)) = meeting start bound
by_one start (Some (To, Known bound)) =
    if int_lt bound greatest_number then up_to start (bound +ℤ pos 1)
    else stepping start (Some (To, Known bound)) (pos 1)
by_one start limit = stepping start limit (pos 1)

abbrev pub counter : Code → Option (Limit × Amount) → ℤ → Counter
counter start limit (pos (suc zero)) = by_one start limit
counter start limit step = stepping start limit step

-- the test of the loop
abbrev pub tested : Option (Bool × Code) → ℕ → Code
tested None distance = []
tested (Some test) distance = test.1 ++ leaves_if test.0 distance

-- the value of a loop without `finally` is `#f`
abbrev pub finished : Option Code → Code
finished None = truth false
finished (Some last) = last

-- A loop of one clause that counts. Behind its turn, one more operand is laid on the hidden ones
-- where there is no number; and then all these are taken away.
module _ (place : Place) (clause : Counter) (test : Option (Bool × Code)) (inner : Code) where
  abbrev pub counted_body : Code
  counted_body = Plain Tick ∷ (inner ++ clause.advancing 2)

  abbrev pub counted_rest : Code
  counted_rest =
      read place ++ (Plain Push ∷ (tested test (length counted_body + 2) ++ counted_body))

  abbrev pub counted_turn : Code
  counted_turn =
      put place ++ (cell place ++ (clause.testing place (length counted_rest + 1) ++ counted_rest))

  abbrev pub counted : Option Code → Code
  counted last =
      clause.starting ++ (counted_turn ++ (Jump (negsuc (length counted_turn)) ∷ Plain Push
      ∷ Plain (Values (clause.hidden + 1)) ∷ finished last))

-- An operand by its place, where the topmost one has the place 1. It is the first value, and all
-- operands stay.
abbrev pub operand : ℕ → Code
operand place = Plain (Values place) ∷ one (Spread place false)

-- a built-in operation on what two pieces of code give
abbrev pub on_both : ℕ → Code → Code → Code
on_both operation left right =
    left ++ (Plain Push ∷ (right ++ (Plain Push ∷ one (Op operation 2))))

abbrev pub less : Code → Code → Code
less left right = on_both comparison left right

abbrev pub negated : Code → Code
negated code = code ++ (Plain Push ∷ one (Op opposite 1))

-- the operands of a clause: its value; or its number, its bound and its step
abbrev pub operands : Clause → ℕ
operands (Takes place start next) = 1
operands (Counts place start limit step) = 3

abbrev pub all_operands : List Clause → ℕ
all_operands [] = 0
all_operands (clause ∷ clauses) = operands clause + all_operands clauses

-- a number that is known, or that is evaluated
abbrev pub amount : Amount → Code
amount (Known value) = number value
amount (Given code) = integer code

-- the bound, which is `#f` where there is none
abbrev pub bound : Option (Limit × Amount) → Code
bound None = truth false
bound (Some limit) = amount limit.1

-- before the first turn
abbrev pub starting : Clause → Code
starting (Takes place start next) = start ++ one Push
starting (Counts place start limit step) =
    integer start
    ++ (Plain Push ∷ (bound limit ++ (Plain Push ∷ (amount step ++ one Push))))

abbrev pub variable : Clause → Place
variable (Takes place start next) = place
variable (Counts place start limit step) = place

-- Each variable is bound to the first operand of its clause.
abbrev pub bindings : List Clause → Code
bindings [] = []
bindings (clause ∷ clauses) =
    operand (operands clause + all_operands clauses)
    ++ (put (variable clause) ++ (cell (variable clause) ++ bindings clauses))

-- What follows is of a clause that counts, where so many operands lie above its own: its step, its
-- bound and its number are the next ones.
module _ (above : ℕ) where
  abbrev pub its_step : Code
  its_step = operand (above + 1)

  -- where one more lies above
  abbrev pub its_bound : Code
  its_bound = operand (above + 2)

  abbrev pub its_number : Code
  its_number = operand (above + 3)

-- whether the bound is less than the number, and whether it is greater
abbrev pub lower_bound : ℕ → Code
lower_bound above = less (its_bound above) (its_number (above + 1))

abbrev pub upper_bound : ℕ → Code
upper_bound above = less (its_number above) (its_bound (above + 1))

abbrev pub limit_reached : Limit → (above distance : ℕ) → Code
limit_reached To above distance =
    choice (less (its_step above) (number (pos 0))) (upper_bound above) (lower_bound above)
    ++ leaves_if true distance
limit_reached Above above distance = lower_bound above ++ leaves_if false distance
limit_reached Below above distance = upper_bound above ++ leaves_if false distance

-- The loop is left where a clause has come to its end.
abbrev pub testing : Clause → (above distance : ℕ) → Code
testing (Counts place start (Some limit) step) above distance =
    limit_reached limit.0 above distance
testing clause above distance = []

-- All that is left for is so far behind the code of all clauses.
abbrev pub tests : List Clause → ℕ → Code
tests [] far = []
tests (clause ∷ clauses) far =
    testing clause (all_operands clauses) (length (tests clauses far) + far)
    ++ tests clauses far

-- the opposite of the number that comes before a step, or after it, and a number more
abbrev pub against : Code → ℤ → Code
against step value =
    on_both addition (on_both multiplication step (number (negsuc 0))) (number value)

-- Whether the next number has no 64 bits. No number is made for it that has none.
abbrev pub overflows : Amount → ℕ → Code
overflows (Known (pos more)) above =
    less (number (greatest_number -ℤ pos more)) (its_number (above + 1))
overflows (Known (negsuc less_by)) above =
    less (its_number above) (number (least_number +ℤ pos (suc less_by)))
overflows (Given code) above =
    choice (less (its_step above) (number (pos 0)))
    (negated (less (against (on_both addition (its_step above) (number (pos 1))) least_number)
    (its_number (above + 1))))
    (less (against (its_step above) greatest_number) (its_number (above + 1)))

-- the operands of a clause for the next turn
abbrev pub counted_on : ℕ → Code
counted_on above =
    on_both addition (its_number above) (its_step (above + 1))
    ++ (Plain Push ∷ (its_bound (above + 1) ++ (Plain Push ∷ (its_step (above + 2) ++ one Push))))

-- A clause goes on: its next operands are laid above all others, so many of which are of the next
-- turn too. A number that cannot go on leaves the loop, without these.
abbrev pub advancing : Clause → (before above distance : ℕ) → Code
advancing (Takes place start next) before above distance = next ++ one Push
advancing (Counts place start limit step) before above distance =
    overflows step above
    ++ (past_if_false 2 ∷ Plain (Values before) ∷ past (length (counted_on above) + distance)
    ∷ counted_on above)

abbrev pub advances : (before : ℕ) → List Clause → (far : ℕ) → Code
advances before [] far = []
advances before (clause ∷ clauses) far =
    let others = advances (before + operands clause) clauses far in
    advancing clause before (before + all_operands clauses) (length others + far) ++ others

-- the topmost operands take the place of as many below them
abbrev pub renewed : ℕ → Code
renewed count =
    Plain (Values count) ∷ Plain Save ∷ Plain (Values count) ∷ Plain Restore
    ∷ one (Spread count false)

-- A loop of any clauses. All its ends lead to where their operands are taken away.
module _ (clauses : List Clause) (test : Option (Bool × Code)) (inner : Code) where
  abbrev pub turn_body : Code
  turn_body = Plain Tick ∷ (inner ++ (advances 0 clauses 6 ++ renewed (all_operands clauses)))

  abbrev pub turn_rest : Code
  turn_rest = tested test (length turn_body + 1) ++ turn_body

  abbrev pub turn : Code
  turn = bindings clauses ++ (tests clauses (length turn_rest + 1) ++ turn_rest)

  abbrev pub turns : Option Code → Code
  turns last =
      flat_map starting clauses ++ (turn ++ (Jump (negsuc (length turn))
      ∷ Plain (Values (all_operands clauses)) ∷ finished last))

-- A loop of one clause that counts by a step that is known is the fast one.
abbrev pub for_loop : List Clause → Option (Bool × Code) → Code → Option Code → Code
for_loop (Counts place start limit (Known step) ∷ []) test inner last =
    counted place (counter start limit step) test inner last
for_loop clauses test inner last = turns clauses test inner last
