-- Whether a symbol at the front of an argument is passed with the value behind it (DRM, appendix
-- A).
use Rattle.std.specs.Prelude.{Bool, true, false, not, ◌&&◌, List, [], ◌∷◌}
use Rattle.std.specs.List.{list_any}
use Rattle.dy_tree.specs.Fragments.{SeenFragment, one, group, row}
use Rattle.dy_tree.specs.declared.roles.Role.{Role}
use Rattle.dy_tree.specs.declared.roles.Role.TheVariants as roles
use Rattle.dy_tree.specs.declared.brackets.Bracket.{Bracket}
use Rattle.dy_tree.specs.declared.brackets.Bracket.TheVariants as brackets
use Rattle.dy_rules.specs.Roles.{role_of, bracket_of}

abbrev pub is_symbol : Role → Bool
is_symbol roles.Symbol = true
is_symbol _ = false

abbrev pub is_comma : Role → Bool
is_comma roles.Comma = true
is_comma _ = false

abbrev pub is_comma_fragment : SeenFragment → Bool
is_comma_fragment (one token) = is_comma (role_of token)
is_comma_fragment (group opener inner closer) = false

-- Behind an operand these begin nothing, and so another operand alone. Round brackets would be a
-- call, and a minus a difference.
abbrev pub begins_operand : Role → Bool
begins_operand roles.Integer = true
begins_operand roles.Character = true
begins_operand roles.Text = true
begins_operand roles.Boolean = true
begins_operand roles.Symbol = true
begins_operand roles.Named = true
begins_operand roles.Tilde = true
begins_operand _ = false

abbrev pub group_begins_operand : Bracket → Bool
group_begins_operand brackets.Hidden = true
group_begins_operand brackets.SharpRound = true
group_begins_operand brackets.SharpSquare = true
group_begins_operand (brackets.Statement kind) = true
group_begins_operand brackets.Special = true
group_begins_operand _ = false

abbrev pub only_begins_operand : SeenFragment → Bool
only_begins_operand (one token) = begins_operand (role_of token)
only_begins_operand (group opener inner closer) = group_begins_operand (bracket_of opener closer)

-- a symbol, and what can only be a value behind it
abbrev pub symbol_and_value : SeenFragment → List SeenFragment → Bool
symbol_and_value (one token) (second ∷ rest) =
    is_symbol (role_of token) && only_begins_operand second
symbol_and_value _ _ = false

-- of arguments: they are one expression
abbrev pub is_single : List SeenFragment → Bool
is_single [] = false
is_single (first ∷ rest) =
    not (list_any is_comma_fragment (first ∷ rest)) && not (symbol_and_value first rest)

abbrev pub is_minus : Role → Bool
is_minus roles.Minus = true
is_minus _ = false

abbrev pub group_begins_value : Bracket → List SeenFragment → Bool
group_begins_value brackets.Round inner = is_single inner
group_begins_value brackets.Square inner = false
group_begins_value brackets.Hidden inner = true
group_begins_value brackets.SharpRound inner = true
group_begins_value brackets.SharpSquare inner = true
group_begins_value (brackets.Statement kind) inner = true
group_begins_value brackets.Special inner = true

abbrev pub role_begins_value : Role → Bool
role_begins_value roles.Minus = true
role_begins_value role = begins_operand role

-- Behind a symbol at the front of an argument an expression begins here.
abbrev pub begins_value : SeenFragment → Bool
begins_value (one token) = role_begins_value (role_of token)
begins_value (group opener inner closer) = group_begins_value (bracket_of opener closer) (row inner)

-- a symbol at the front is passed with the value behind it
abbrev pub passes_two : List SeenFragment → Bool
passes_two (one token ∷ second ∷ rest) = is_symbol (role_of token) && begins_value second
passes_two _ = false
