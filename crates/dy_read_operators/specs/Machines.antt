-- The reader of one expression, as the definitions see it.
use Rattle.std.specs.Prelude.{Option, None}
use Rattle.dy_tree.specs.declared.token.Token.{Token}
use Rattle.dy_tree.specs.declared.roles.Role.{Role}
use Rattle.dy_tree.specs.declared.roles.Role.TheVariants as roles
use Rattle.dy_tree.specs.declared.brackets.Bracket.{Bracket}
use Rattle.dy_tree.specs.declared.brackets.Bracket.TheVariants as brackets
use Rattle.dy_rules.specs.Trees.{literal}
use Rattle.dy_rules.specs.Roles.{positive}
use Rattle.dy_rules.specs.Reading as reading
use Rattle.dy_rules.specs.Reading.{Outer, Part}
use Rattle.dy_read_outers.specs.Grown.{read_grown}
use Rattle.dy_read_outers.specs.Outers.{seen_outer}
use Rattle.dy_read_operators.specs.declared.state.State.{State}
use Rattle.dy_read_operators.specs.declared.state.State.TheVariants as states
use Rattle.dy_read_operators.specs.declared.state.Machine.{Machine}
use Rattle.dy_read_operators.specs.declared.state.Need.{Need}
use Rattle.dy_read_operators.specs.declared.state.Need.TheVariants as needs

abbrev pub seen_state : State → Outer → reading.State
seen_state states.Wants outer = reading.wants outer
seen_state (states.Counted digits) outer = reading.counted digits outer
seen_state (states.Has tree) outer = reading.has (read_grown tree) outer
seen_state (states.Dotted tree) outer = reading.dotted (read_grown tree) outer

abbrev pub seen_machine : Machine → reading.State
seen_machine machine = seen_state machine.state (seen_outer machine.outer)

-- an integer in front of a token: in front of a dot by itself
abbrev pub integer_for : Role → Token → Outer → Part
integer_for roles.Dot digits outer = (literal (positive digits), outer)
integer_for _ digits outer = reading.integer_part digits outer

-- which inside of a group is looked at
abbrev pub need_at_operand : Bracket → Need
need_at_operand brackets.Round = needs.Tree
need_at_operand brackets.Hidden = needs.Tree
need_at_operand brackets.SharpRound = needs.Tree
need_at_operand brackets.SharpSquare = needs.Tree
need_at_operand (brackets.Statement kind) = needs.Tree
need_at_operand _ = needs.Nothing

abbrev pub need_behind : Bracket → Need
need_behind brackets.Round = needs.Arguments
need_behind brackets.Square = needs.Tree
need_behind _ = needs.Nothing

abbrev pub need_of : reading.State → Bracket → Need
need_of (reading.wants outer) bracket = need_at_operand bracket
need_of (reading.counted digits outer) bracket = need_behind bracket
need_of (reading.has tree outer) bracket = need_behind bracket
need_of (reading.dotted tree outer) bracket = needs.Nothing

-- the tree, if it is looked at
abbrev pub tree_if : {A : Type 0} → Need → Option A → Option A
tree_if needs.Tree tree = tree
tree_if _ tree = None

-- the arguments, if they are looked at
abbrev pub passed_if : {A : Type 0} → Need → Option A → Option A
passed_if needs.Arguments passed = passed
passed_if _ passed = None
