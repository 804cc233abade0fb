-- How arguments are read: what reads the next fragment, and what it does to a token or a group.
use Rattle.std.specs.Prelude.{Bool, true, false, List, [], Option, Some, None, option_map}
use Rattle.dy_tree.specs.declared.token.Token.{Token}
use Rattle.dy_tree.specs.declared.types.LiteralForm.TheVariants as literals
use Rattle.dy_tree.specs.declared.roles.Role.{Role}
use Rattle.dy_tree.specs.declared.roles.Role.TheVariants as roles
use Rattle.dy_tree.specs.declared.brackets.Bracket.{Bracket}
use Rattle.dy_tree.specs.declared.splitters.Splitting.TheVariants as splittings
use Rattle.dy_rules.specs.Trees.{Tree, literal, Argument}
use Rattle.dy_rules.specs.Arguments.{role_begins_value}
use Rattle.dy_rules.specs.Reading as reading
use Rattle.dy_rules.specs.Reading.{whole, wants, has, nothing_passed, passes_next, symbol_first}
use Rattle.dy_rules.specs.Reading.{passing, at_token, at_group, arguments_in}
use Rattle.dy_read_operators.specs.declared.state.Need.{Need}
use Rattle.dy_read_operators.specs.Machines.{need_at_operand, need_behind, need_of}

-- What reads the next fragment as a part of an argument. Behind a symbol at the front it matters
-- whether a value begins here.
abbrev pub ahead : Bool → reading.Passing → reading.Passing
ahead begins nothing_passed = passing [] None (wants whole)
ahead begins (passes_next passed) = passing passed None (wants whole)
ahead true (symbol_first passed token) = passing passed (Some token) (wants whole)
ahead false (symbol_first passed token) =
    passing passed None (has (literal (literals.Symbol token)) whole)
ahead begins (passing passed token state) = passing passed token state

abbrev pub value_token : reading.Passing → Token → Option reading.Passing
value_token (passing passed keyword state) token =
    option_map (passing passed keyword) (at_token splittings.Nothing state token)
value_token _ token = None

-- a symbol, which may stand at the front of an argument
abbrev pub after_symbol : reading.Passing → Token → Option reading.Passing
after_symbol nothing_passed token = Some (symbol_first [] token)
after_symbol (passes_next passed) token = Some (symbol_first passed token)
after_symbol (symbol_first passed first) token =
    value_token (ahead true (symbol_first passed first)) token
after_symbol (passing passed keyword state) token = value_token (passing passed keyword state) token

abbrev pub after_token : Role → reading.Passing → Token → Option reading.Passing
after_token roles.Comma reader token = option_map passes_next (arguments_in reader)
after_token roles.Symbol reader token = after_symbol reader token
after_token role reader token = value_token (ahead (role_begins_value role) reader) token

abbrev pub value_group : reading.Passing → Token → Bracket → Option Tree → Option (List Argument)
    → Option reading.Passing
value_group (passing passed keyword state) opener bracket tree arguments =
    option_map (passing passed keyword) (at_group state opener bracket tree arguments)
value_group _ opener bracket tree arguments = None

-- which inside of a group is looked at
abbrev pub need_ahead : Bool → reading.Passing → Bracket → Need
need_ahead begins nothing_passed bracket = need_at_operand bracket
need_ahead begins (passes_next passed) bracket = need_at_operand bracket
need_ahead true (symbol_first passed token) bracket = need_at_operand bracket
need_ahead false (symbol_first passed token) bracket = need_behind bracket
need_ahead begins (passing passed token state) bracket = need_of state bracket
