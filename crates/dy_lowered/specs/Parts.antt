-- The code of each kind of term, from that of its parts (own). Behind the code of a term its values
-- stand in the register, whatever was there before, and all else in the frame but its locals is as
-- it was.
use Rattle.std.specs.Prelude.{ℕ, zero, suc, ◌+◌, negsuc, Bool, true, false, List, [], ◌∷◌, ◌++◌}
use Rattle.std.specs.Prelude.{length, flat_map}
use Rattle.std.specs.declared.option.Option.{Option}
use Rattle.std.specs.declared.option.Option.TheVariants.{None, Some}
use Rattle.dy_base.specs.declared.ids.BindingId.{BindingId}
use Rattle.dy_term.specs.declared.literal.Literal.{Literal-F, roll-Literal}
use Rattle.dy_term.specs.declared.types.DyType.{DyType}
use Rattle.dy_outcome.specs.declared.place.Place.{Place}
use Rattle.dy_outcome.specs.declared.place.Place.TheVariants.{Own, Captured}
use Rattle.dy_code.specs.Fetching.{Instruction, Const, Local, SetLocal, NewCell, CellGet, CellSet}
use Rattle.dy_code.specs.Fetching.{Free, FreeGet, FreeSet, Push, Tick, Closure, CallKnown}
use Rattle.dy_code.specs.Fetching.{CallValue, Values, Spread, Op, Handle, Unhandle, Save, Restore}
use Rattle.dy_code.specs.Fetching.{NoMatch}
use Rattle.dy_meaning.specs.Meaning.{identity}
use Rattle.dy_lowered.specs.Flat.{Flat, Plain, Jump, Code, one, past, past_if_false}

abbrev pub truth : Bool → Code
truth value = one (Const (roll-Literal (Literal-F.Bool value)))

-- the value of a local
abbrev pub read : Place → Code
read (Own number false) = one (Local number)
read (Own number true) = one (CellGet number)
read (Captured number) = one (FreeGet number)

-- what stands there: the cell itself where there is one
abbrev pub kept : Place → Code
kept (Own number in_cell) = one (Local number)
kept (Captured number) = one (Free number)

-- an assignment of the first value
abbrev pub assigned : Place → Code
assigned (Own number false) = one (SetLocal number)
assigned (Own number true) = one (CellSet number)
assigned (Captured number) = one (FreeSet number)

-- A local of the body is bound to the first value. What is captured is bound nowhere.
abbrev pub put : Place → Code
put (Own number in_cell) = one (SetLocal number)
put (Captured number) = []

-- a local that lives in a cell gets one, with its value
abbrev pub cell : Place → Code
cell (Own number true) = one (NewCell number)
cell place = []

abbrev pub cells : List Place → Code
cells places = flat_map cell places

-- each argument becomes an operand, the last one on top
abbrev pub arguments : List Code → Code
arguments [] = []
arguments (term ∷ terms) = term ++ (Plain Push ∷ arguments terms)

-- the arguments, and then what takes them
abbrev pub with_arguments : List Code → Instruction → Code
with_arguments terms call = arguments terms ++ one call

-- A call: the function lies under the arguments. One that is called by its name is not read first.
abbrev pub calling : Option BindingId → Code → List Code → Code
calling (Some named) function terms = with_arguments terms (CallKnown named (length terms))
calling None function terms =
    function ++ (Plain Push ∷ with_arguments terms (CallValue (length terms)))

abbrev pub assigning : Place → Code → Code
assigning place term = term ++ assigned place

-- a test, what it guards, and what follows where it fails
abbrev pub choice : (test guarded other : Code) → Code
choice test guarded other =
    test ++ (past_if_false (length guarded + 1) ∷ (guarded ++ (past (length other) ∷ other)))

abbrev pub branching : List (Code × Code) → Code → Code
branching [] other = other
branching (branch ∷ branches) other = choice branch.0 branch.1 (branching branches other)

abbrev pub both : Code → Code → Code
both left right = choice left right (truth false)

-- the first value alone
abbrev pub first_alone : Code
first_alone = Plain Push ∷ one (Values 1)

abbrev pub either : Code → Code → Code
either left right = choice left first_alone right

-- How a `select` compares. What lies among the operands for it, the value and the test if one is
-- written, is laid there once more; the test is called; and at last it is taken from the operands.
pub record Comparing : Type 0 where
  pub again : Code
  pub call : Instruction
  pub away : Instruction

-- by `==`: the value lies there
abbrev pub by_identity : Comparing
by_identity = record {
  again = Plain (Values 1) ∷ Plain Push ∷ one Push;
  call = Op identity 2;
  away = Values 1;
}

-- by a function: it lies there, and the value on top of it
abbrev pub by_function : Comparing
by_function = record {
  again = Plain (Values 2) ∷ Plain (Spread 2 false) ∷ one (Spread 2 false);
  call = CallValue 2;
  away = Values 2;
}

abbrev pub compared : Comparing → Code → Code
compared by value = by.again ++ (value ++ (Plain Push ∷ one by.call))

-- The values of an arm are compared one by one. Where one is met, what follows them is next; where
-- none is, so many instructions there are passed over.
abbrev pub meeting : Comparing → List Code → ℕ → Code
meeting by [] missed = past missed ∷ []
meeting by (value ∷ values) missed =
    let others = meeting by values missed in
    compared by value ++ (past_if_false 1 ∷ past (length others) ∷ others)

-- an arm, with what follows where none of its values is met
abbrev pub arm : Comparing → List Code → Code → Code → Code
arm by values term others =
    let met = Plain by.away ∷ (term ++ past (length others) ∷ []) in
    meeting by values (length met) ++ (met ++ others)

abbrev pub selecting : Comparing → List (List Code × Code) → Code → Code
selecting by [] missed = Plain by.away ∷ missed
selecting by (first ∷ arms) missed = arm by first.0 first.1 (selecting by arms missed)

abbrev pub or_no_match : Option Code → Code
or_no_match None = one NoMatch
or_no_match (Some term) = term

-- The test of a `select`. The value was evaluated before, waits on the side list, and then lies on
-- top of the test.
abbrev pub waiting : Code → Code
waiting test = Plain Save ∷ (test ++ (Plain Push ∷ Plain Restore ∷ one Push))

abbrev pub select : Code → Option Code → List (List Code × Code) → Option Code → Code
select value None arms last = value ++ (Plain Push ∷ selecting by_identity arms (or_no_match last))
select value (Some test) arms last =
    value ++ (waiting test ++ selecting by_function arms (or_no_match last))

-- operands become locals, the last one first
abbrev pub stored : List Place → Code
stored [] = []
stored (place ∷ places) = stored places ++ (Plain (Values 1) ∷ put place)

-- The values in the register are bound. Then each local that lives in a cell gets one, in order.
abbrev pub bound : List Place → Option Place → Code
bound (place ∷ []) None = put place ++ cell place
bound places None = Plain (Spread (length places) false) ∷ (stored places ++ cells places)
bound places (Some rest) =
    let all = places ++ rest ∷ [] in
    Plain (Spread (length places) true) ∷ (stored all ++ cells all)

abbrev pub letting : List Place → Option Place → Code → Code
letting places rest term = term ++ bound places rest

-- what a closure captures becomes operands
abbrev pub captures : List Place → Code
captures [] = []
captures (place ∷ places) = kept place ++ (Plain Push ∷ captures places)

-- a closure of the body of this number
abbrev pub closing : ℕ → List Place → Code
closing body places = captures places ++ one (Closure body (length places))

-- a local method: where it stands, the number of its body, and what it captures
pub record Method : Type 0 where
  pub place : Place
  pub body : ℕ
  pub captured : List Place

abbrev pub declared : List Method → Code
declared methods = flat_map (λ method. put method.place ++ cell method.place) methods

abbrev pub defined : List Method → Code
defined methods =
    flat_map (λ method. closing method.body method.captured ++ assigned method.place) methods

-- Each is bound to `#f` before the first closure is made.
abbrev pub local_methods : List Method → Code
local_methods methods = truth false ++ (declared methods ++ defined methods)

-- a part of a body
pub data Part : Type 0 where
  Runs : (term : Code) → Part
  Binds : (binding : Code) → Part
  Handles : (condition : DyType) (function : Code) → Part

-- A handler is a function among the operands when it comes into force.
abbrev pub part_code : Part → Code
part_code (Runs term) = term
part_code (Binds binding) = binding
part_code (Handles condition function) = function ++ (Plain Push ∷ one (Handle condition))

-- what gives the values of a body: those of the last part where it is a term, else `#f`. These
-- give them where no part follows.
abbrev pub values_behind : List Part → Code → Code
values_behind [] values = values
values_behind (Runs term ∷ parts) values = values_behind parts []
values_behind (Binds binding ∷ parts) values = values_behind parts (truth false)
values_behind (Handles condition function ∷ parts) values = values_behind parts (truth false)

abbrev pub handler_count : List Part → ℕ
handler_count [] = 0
handler_count (Handles condition function ∷ parts) = 1 + handler_count parts
handler_count (part ∷ parts) = handler_count parts

-- Handlers are in force to the end of the body.
abbrev pub without_handlers : ℕ → Code
without_handlers zero = []
without_handlers (suc count) = one (Unhandle (suc count))

abbrev pub body : List Part → Code
body parts = flat_map part_code parts
    ++ (values_behind parts (truth false) ++ without_handlers (handler_count parts))

-- The test, and while it holds a unit, the body and the test again. The value is `#f`.
abbrev pub loop : Code → Code → Code
loop test inner =
    test ++ (past_if_false (length inner + 2) ∷ Plain Tick
    ∷ (inner ++ (Jump (negsuc (length test + length inner + 2)) ∷ truth false)))
