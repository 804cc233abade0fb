-- The expression that items stand for, by functions that compute: item by item, with what the
-- operand that is read next will be a part of.
use Rattle.std.specs.Prelude.{ℕ, suc, Bool, true, false, nat_lt, if◌then◌else◌, List, [], ◌∷◌, ◌++◌}
use Rattle.std.specs.Prelude.{Option, Some, None, option_map, option_and_then}
use Rattle.dy_tree.specs.declared.token.Token.{Token}
use Rattle.dy_tree.specs.declared.types.LiteralForm.TheVariants as literals
use Rattle.dy_tree.specs.Fragments.{SeenFragment, one, group}
use Rattle.dy_tree.specs.declared.roles.Role.{Role}
use Rattle.dy_tree.specs.declared.roles.Role.TheVariants as roles
use Rattle.dy_tree.specs.declared.roles.Precedence.{Precedence}
use Rattle.dy_tree.specs.declared.roles.Precedence.TheVariants as precedences
use Rattle.dy_tree.specs.declared.brackets.Bracket.{Bracket}
use Rattle.dy_tree.specs.declared.brackets.Bracket.TheVariants as brackets
use Rattle.dy_tree.specs.declared.splitters.Splitting.{Splitting}
use Rattle.dy_tree.specs.declared.splitters.Splitting.TheVariants as splittings
use Rattle.dy_rules.specs.Operators.{below}
use Rattle.dy_rules.specs.Trees.{Tree, assignment, operation, unary, call, element, member, literal}
use Rattle.dy_rules.specs.Trees.{name, Argument, keyword, value, arguments_of}
use Rattle.dy_rules.specs.Cutting.{Found, Item}
use Rattle.dy_rules.specs.Roles.{role_of, splits, bracket_of, positive, negative}
use Rattle.dy_rules.specs.Arguments.{begins_value}

-- what an operand will be a part of
pub data Outer : Type 0 where
  whole : Outer
  -- the right side of an operation
  operated : (precedence : Precedence) (left : Tree) (sign : Token) (outer : Outer) → Outer
  -- the operand of `-` or `~`
  under : (sign : Token) (outer : Outer) → Outer
  assigned : (place : Tree) (outer : Outer) → Outer

-- a tree, and what it will be a part of
abbrev pub Part : Type 0
Part = Tree × Outer

pub data State : Type 0 where
  -- an operand comes
  wants : (outer : Outer) → State
  -- an integer was read
  counted : (digits : Token) (outer : Outer) → State
  -- another operand was read
  has : (tree : Tree) (outer : Outer) → State
  -- an operand and a dot were read
  dotted : (tree : Tree) (outer : Outer) → State

-- Unary operations that end with this tree are whole, and so is each operation that binds tighter
-- than so many levels.
abbrev pub reduced : ℕ → Tree → Outer → Part
reduced height tree whole = (tree, whole)
reduced height tree (operated precedence left sign outer) =
    if nat_lt (below precedence) height
    then reduced height (operation precedence left sign tree) outer
    else (tree, operated precedence left sign outer)
reduced height tree (under sign outer) = reduced height (unary sign tree) outer
reduced height tree (assigned place outer) = (tree, assigned place outer)

-- the whole expression that ends with this tree
abbrev pub finished : Tree → Outer → Tree
finished tree whole = tree
finished tree (operated precedence left sign outer) =
    finished (operation precedence left sign tree) outer
finished tree (under sign outer) = finished (unary sign tree) outer
finished tree (assigned place outer) = finished (assignment place tree) outer

-- an integer with the sign in front of it
abbrev pub under_sign : Role → Token → Token → Outer → Part
under_sign roles.Minus sign digits outer = (literal (negative sign digits), outer)
under_sign _ sign digits outer = (literal (positive digits), under sign outer)

abbrev pub integer_part : Token → Outer → Part
integer_part digits (under sign outer) = under_sign (role_of sign) sign digits outer
integer_part digits outer = (literal (positive digits), outer)

-- the operand that was read
abbrev pub settled : State → Option Part
settled (counted digits outer) = Some (integer_part digits outer)
settled (has tree outer) = Some (tree, outer)
settled _ = None

abbrev pub name_if : Bool → Token → Outer → Option State
name_if true token outer = None
name_if false token outer = Some (has (name token) outer)

abbrev pub at_operand : Splitting → Outer → Token → Role → Option State
at_operand words outer token roles.Integer = Some (counted token outer)
at_operand words outer token roles.Character = Some (has (literal (literals.Char token)) outer)
at_operand words outer token roles.Text = Some (has (literal (literals.Str token)) outer)
at_operand words outer token roles.Boolean = Some (has (literal (literals.Bool token)) outer)
at_operand words outer token roles.Symbol = Some (has (literal (literals.Symbol token)) outer)
at_operand words outer token roles.Named = name_if (splits words token) token outer
at_operand words outer token roles.Minus = Some (wants (under token outer))
at_operand words outer token roles.Tilde = Some (wants (under token outer))
at_operand words outer token _ = None

abbrev pub operates : Precedence → Token → Part → State
operates precedence sign part = wants (operated precedence part.0 sign part.1)

abbrev pub assigns_to : Part → State
assigns_to part = wants (assigned part.0 part.1)

-- behind an operand, which is this part by itself, and that one with the sign in front of it
abbrev pub behind : Part → Part → Token → Role → Option State
behind alone part token (roles.Operator precedence) =
    Some (operates precedence token (reduced (suc (below precedence)) part.0 part.1))
behind alone part token roles.Minus =
    Some (operates precedences.Sum token (reduced (suc (below precedences.Sum)) part.0 part.1))
behind alone part token roles.Assigns = Some (assigns_to (reduced 5 part.0 part.1))
behind alone part token roles.Dot = Some (dotted alone.0 alone.1)
behind alone part token _ = None

abbrev pub member_if : Bool → Tree → Outer → Token → Option State
member_if true tree outer token = None
member_if false tree outer token = Some (has (member tree token) outer)

abbrev pub behind_dot : Splitting → Tree → Outer → Token → Role → Option State
behind_dot words tree outer token roles.Named = member_if (splits words token) tree outer token
behind_dot words tree outer token _ = None

abbrev pub at_token : Splitting → State → Token → Option State
at_token words (wants outer) token = at_operand words outer token (role_of token)
at_token words (counted digits outer) token =
    behind (literal (positive digits), outer) (integer_part digits outer) token (role_of token)
at_token words (has tree outer) token = behind (tree, outer) (tree, outer) token (role_of token)
at_token words (dotted tree outer) token = behind_dot words tree outer token (role_of token)

abbrev pub in_brackets : Outer → Tree → State
in_brackets outer tree = has tree outer

abbrev pub indexed : Part → Token → Tree → State
indexed part opener index = has (element part.0 opener index) part.1

abbrev pub called : Part → List Argument → State
called part passed = has (call part.0 (arguments_of passed)) part.1

abbrev pub group_behind : Part → Token → Bracket → Option Tree → Option (List Argument)
    → Option State
group_behind part opener brackets.Round tree passed = option_map (called part) passed
group_behind part opener brackets.Square tree passed = option_map (indexed part opener) tree
group_behind part opener _ tree passed = None

abbrev pub group_at_operand : Outer → Bracket → Option Tree → Option State
group_at_operand outer brackets.Round tree = option_map (in_brackets outer) tree
group_at_operand outer brackets.Hidden tree = option_map (in_brackets outer) tree
group_at_operand outer brackets.SharpRound tree = option_map (in_brackets outer) tree
group_at_operand outer brackets.SharpSquare tree = option_map (in_brackets outer) tree
group_at_operand outer (brackets.Statement kind) tree = option_map (in_brackets outer) tree
group_at_operand outer _ tree = None

-- a group behind this opener, whose inside is this expression and these arguments
abbrev pub at_group : State → Token → Bracket → Option Tree → Option (List Argument) → Option State
at_group (wants outer) opener bracket tree passed = group_at_operand outer bracket tree
at_group (counted digits outer) opener bracket tree passed =
    group_behind (literal (positive digits), outer) opener bracket tree passed
at_group (has tree outer) opener bracket inner passed =
    group_behind (tree, outer) opener bracket inner passed
at_group (dotted tree outer) opener bracket inner passed = None

abbrev pub finished_part : Part → Tree
finished_part part = finished part.0 part.1

-- the expression, where the fragments end
abbrev pub tree_of : State → Option Tree
tree_of state = option_map finished_part (settled state)

pub data Passing : Type 0 where
  -- nothing was read
  nothing_passed : Passing
  -- an argument comes
  passes_next : (passed : List Argument) → Passing
  -- a symbol was read at the front of an argument
  symbol_first : (passed : List Argument) (token : Token) → Passing
  -- a part of an argument was read, after its keyword if it has one
  passing : (passed : List Argument) (token : Option Token) (state : State) → Passing

abbrev pub argument_of : Option Token → Tree → Argument
argument_of None tree = value tree
argument_of (Some token) tree = keyword token tree

abbrev pub with_last : List Argument → Option Token → Tree → List Argument
with_last passed token tree = passed ++ argument_of token tree ∷ []

-- the arguments, where an argument ends
abbrev pub arguments_in : Passing → Option (List Argument)
arguments_in nothing_passed = None
arguments_in (passes_next passed) = None
arguments_in (symbol_first passed token) =
    Some (with_last passed None (literal (literals.Symbol token)))
arguments_in (passing passed token state) = option_map (with_last passed token) (tree_of state)

-- the arguments, where the fragments end
abbrev pub arguments_at_end : Passing → Option (List Argument)
arguments_at_end nothing_passed = Some []
arguments_at_end reader = arguments_in reader

abbrev pub fresh_role : Role → List Argument → Token → Option Passing
fresh_role roles.Symbol passed token = Some (symbol_first passed token)
fresh_role _ passed token = None

-- a symbol at the front of an argument
abbrev pub fresh : List Argument → SeenFragment → Option Passing
fresh passed (one token) = fresh_role (role_of token) passed token
fresh passed (group opener inner closer) = None

abbrev pub at_comma : Role → Passing → Option Passing
at_comma roles.Comma reader = option_map passes_next (arguments_in reader)
at_comma _ reader = None

abbrev pub at_separator : Passing → SeenFragment → Option Passing
at_separator reader (one token) = at_comma (role_of token) reader
at_separator reader (group opener inner closer) = None

abbrev pub or_else : {A : Type 0} → Option A → Option A → Option A
or_else (Some found) others = Some found
or_else None others = others

-- a fragment after this state
abbrev pub after_fragment : Splitting → State → SeenFragment → Found → Option State
after_fragment words state (one token) found = at_token words state token
after_fragment words state (group opener inner closer) found =
    at_group state opener (bracket_of opener closer) found.tree found.passed

abbrev pub after_item : Splitting → State → Item → Option State
after_item words state item = after_fragment words state item.fragment item.found

abbrev pub in_value : List Argument → Option Token → State → Item → Option Passing
in_value passed token state item =
    option_map (passing passed token) (after_item splittings.Nothing state item)

-- Behind a symbol at the front of an argument: it is passed with the value that begins here, or it
-- is an operand.
abbrev pub by_symbol : Bool → List Argument → Token → SeenFragment → Item → Option Passing
by_symbol true passed token fragment item = in_value passed (Some token) (wants whole) item
by_symbol false passed token fragment item =
    or_else (in_value passed None (has (literal (literals.Symbol token)) whole) item)
    (at_separator (symbol_first passed token) fragment)

abbrev pub after_argument : Passing → SeenFragment → Item → Option Passing
after_argument nothing_passed fragment item =
    or_else (fresh [] fragment) (in_value [] None (wants whole) item)
after_argument (passes_next passed) fragment item =
    or_else (fresh passed fragment) (in_value passed None (wants whole) item)
after_argument (symbol_first passed token) fragment item =
    by_symbol (begins_value fragment) passed token fragment item
after_argument (passing passed token state) fragment item =
    or_else (in_value passed token state item) (at_separator (passing passed token state) fragment)

abbrev pub after_all : Splitting → State → List Item → Option State
after_all words state [] = Some state
after_all words state (item ∷ rest) =
    option_and_then (λ next. after_all words next rest) (after_item words state item)

abbrev pub after_passing : Passing → List Item → Option Passing
after_passing reader [] = Some reader
after_passing reader (item ∷ rest) =
    option_and_then (λ next. after_passing next rest) (after_argument reader item.fragment item)

-- the expression that items stand for, if there is one
abbrev pub expression_items : Splitting → List Item → Option Tree
expression_items words items = option_and_then tree_of (after_all words (wants whole) items)

-- the arguments that they stand for
abbrev pub passed_items : List Item → Option (List Argument)
passed_items items = option_and_then arguments_at_end (after_passing nothing_passed items)
