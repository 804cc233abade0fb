-- What is read as one expression, and how it begins.
use Rattle.std.proofs.Common.{◌≡◌, Bool, true, false, not, ◌&&◌, List, ◌∷◌, Option, Some, None, option_and_then, refl, sym, ap, ◌∙◌, []}
use Rattle.std.specs.List.{list_any}
use Rattle.dy_tree.specs.declared.token.Token.{Token}
use Rattle.dy_tree.specs.declared.types.LiteralForm.TheVariants as literals
use Rattle.dy_tree.specs.Fragments.{SeenFragment, one, group, SeenFragments, row}
use Rattle.dy_tree.specs.declared.roles.Role.{Role}
use Rattle.dy_tree.specs.declared.roles.Role.TheVariants as roles
use Rattle.dy_tree.specs.declared.brackets.Bracket.{Bracket}
use Rattle.dy_tree.specs.declared.brackets.Bracket.TheVariants as brackets
use Rattle.dy_tree.specs.declared.splitters.Splitting.TheVariants as splittings
use Rattle.dy_rules.specs.Trees.{Tree, literal, Argument}
use Rattle.dy_rules.specs.Roles.{role_of, bracket_of, positive}
use Rattle.dy_rules.specs.Arguments.{is_symbol, is_comma, is_comma_fragment, begins_operand, group_begins_operand, role_begins_value, group_begins_value, only_begins_operand, symbol_and_value, is_single, begins_value}
use Rattle.dy_rules.specs.Reading.{Outer, whole, Part, State, wants, counted, has, dotted, integer_part, at_operand, behind, behind_dot, group_behind, group_at_operand, tree_of, after_item, expression_items}
use Rattle.dy_rules.specs.Fragments.{tree_inside, item_of, items_in, items_of, passed_in, expression_in}
use Rattle.dy_rules.proofs.Lists.{reads, items_row}

-- no expression goes on at a comma
operand_comma : (role : Role) (outer : Outer) (token : Token) (next : State) → at_operand splittings.Nothing outer token role ≡ Some next → is_comma role ≡ false
operand_comma roles.Comma outer token next e = absurd cc
operand_comma role outer token next e = refl

behind_comma : (role : Role) (alone part : Part) (token : Token) (next : State) → behind alone part token role ≡ Some next → is_comma role ≡ false
behind_comma roles.Comma alone part token next e = absurd cc
behind_comma role alone part token next e = refl

dot_comma : (role : Role) (tree : Tree) (outer : Outer) (token : Token) (next : State) → behind_dot splittings.Nothing tree outer token role ≡ Some next → is_comma role ≡ false
dot_comma roles.Comma tree outer token next e = absurd cc
dot_comma role tree outer token next e = refl

not_comma : (state : State) (fragment : SeenFragment) (next : State) → after_item splittings.Nothing state (item_of fragment) ≡ Some next → is_comma_fragment fragment ≡ false
not_comma state (group opener inner closer) next e = refl
not_comma (wants outer) (one token) next e = operand_comma (role_of token) outer token next e
not_comma (counted digits outer) (one token) next e = behind_comma (role_of token) (literal (positive digits), outer) (integer_part digits outer) token next e
not_comma (has tree outer) (one token) next e = behind_comma (role_of token) (tree, outer) (tree, outer) token next e
not_comma (dotted tree outer) (one token) next e = dot_comma (role_of token) tree outer token next e

no_commas : (fragments : List SeenFragment) (state next : State) → reads splittings.Nothing state fragments ≡ Some next → list_any is_comma_fragment fragments ≡ false
no_commas [] state next e = refl
no_commas (first ∷ rest) state next e = go (after_item splittings.Nothing state (item_of first)) refl (λ middle. no_commas rest middle next) e
  where
    go : (found : Option State) → after_item splittings.Nothing state (item_of first) ≡ found → ((middle : State) → reads splittings.Nothing middle rest ≡ Some next → list_any is_comma_fragment rest ≡ false)
        → option_and_then (λ (s : State). reads splittings.Nothing s rest) found ≡ Some next → list_any is_comma_fragment (first ∷ rest) ≡ false
    go None is more f = absurd cc
    go (Some middle) is more f = rw (not_comma state first middle is) (more middle f)

-- behind an operand no other one begins
behind_role : (role : Role) (alone part : Part) (token : Token) (next : State) → behind alone part token role ≡ Some next → begins_operand role ≡ false
behind_role (roles.Operator precedence) alone part token next e = refl
behind_role roles.Minus alone part token next e = refl
behind_role roles.Assigns alone part token next e = refl
behind_role roles.Dot alone part token next e = refl
behind_role role alone part token next e = absurd cc

behind_bracket : (bracket : Bracket) (part : Part) (opener : Token) (tree : Option Tree) (passed : Option (List Argument)) (next : State) → group_behind part opener bracket tree passed ≡ Some next → group_begins_operand bracket ≡ false
behind_bracket brackets.Round part opener tree passed next e = refl
behind_bracket brackets.Square part opener tree passed next e = refl
behind_bracket brackets.Hidden part opener tree passed next e = absurd cc
behind_bracket brackets.SharpRound part opener tree passed next e = absurd cc
behind_bracket brackets.SharpSquare part opener tree passed next e = absurd cc
behind_bracket (brackets.Statement kind) part opener tree passed next e = absurd cc
behind_bracket brackets.Special part opener tree passed next e = absurd cc

behind_operand : (tree : Tree) (outer : Outer) (fragment : SeenFragment) (next : State) → after_item splittings.Nothing (has tree outer) (item_of fragment) ≡ Some next → only_begins_operand fragment ≡ false
behind_operand tree outer (one token) next e = behind_role (role_of token) (tree, outer) (tree, outer) token next e
behind_operand tree outer (group opener inner closer) next e = behind_bracket (bracket_of opener closer) (tree, outer) opener (tree_inside (bracket_of opener closer) opener inner (items_in inner)) (passed_in inner) next e

first_of : (found : Option State) (rest : List SeenFragment) (next : State) → option_and_then (λ (s : State). reads splittings.Nothing s rest) found ≡ Some next → (middle : State) × (found ≡ Some middle)
first_of None rest next e = absurd cc
first_of (Some middle) rest next e = (middle, refl)

no_value : (role : Role) (token : Token) (second : SeenFragment) (rest : List SeenFragment) (next : State) → role_of token ≡ role
    → option_and_then (λ (s : State). reads splittings.Nothing s (second ∷ rest)) (at_operand splittings.Nothing whole token role) ≡ Some next → (is_symbol role && only_begins_operand second) ≡ false
no_value roles.Symbol token second rest next is e =
    let (middle, step) = first_of (after_item splittings.Nothing (has (literal (literals.Symbol token)) whole) (item_of second)) rest next e in
    behind_operand (literal (literals.Symbol token)) whole second middle step
no_value role token second rest next is e = refl

no_symbol_value : (first : SeenFragment) (rest : List SeenFragment) (next : State) → reads splittings.Nothing (wants whole) (first ∷ rest) ≡ Some next → symbol_and_value first rest ≡ false
no_symbol_value (group opener inner closer) rest next e = refl
no_symbol_value (one token) [] next e = refl
no_symbol_value (one token) (second ∷ rest) next e = no_value (role_of token) token second rest next refl e

not_both : (b c : Bool) → b ≡ false → c ≡ false → (not b && not c) ≡ true
not_both b c e f = rw (e, f) refl

single_list : (fragments : List SeenFragment) (tree : Tree) → expression_items splittings.Nothing (items_of fragments) ≡ Some tree → is_single fragments ≡ true
single_list [] tree e = absurd cc
single_list (first ∷ rest) tree e = go (reads splittings.Nothing (wants whole) (first ∷ rest)) refl e
  where
    go : (found : Option State) → reads splittings.Nothing (wants whole) (first ∷ rest) ≡ found → option_and_then tree_of found ≡ Some tree → is_single (first ∷ rest) ≡ true
    go None is f = absurd cc
    go (Some next) is f = not_both (list_any is_comma_fragment (first ∷ rest)) (symbol_and_value first rest) (no_commas (first ∷ rest) (wants whole) next is) (no_symbol_value first rest next is)

-- what is read as one expression is single
pub single_read : (inner : SeenFragments) (tree : Tree) → expression_in splittings.Nothing inner ≡ Some tree → is_single (row inner) ≡ true
single_read inner tree e = single_list (row inner) tree (ap (expression_items splittings.Nothing) (sym (items_row inner)) ∙ e)

begins_role : (role : Role) (token : Token) (next : State) → at_operand splittings.Nothing whole token role ≡ Some next → role_begins_value role ≡ true
begins_role roles.Integer token next e = refl
begins_role roles.Character token next e = refl
begins_role roles.Text token next e = refl
begins_role roles.Boolean token next e = refl
begins_role roles.Symbol token next e = refl
begins_role roles.Named token next e = refl
begins_role roles.Minus token next e = refl
begins_role roles.Tilde token next e = refl
begins_role role token next e = absurd cc

begins_round : (opener : Token) (inner : SeenFragments) (found : Option Tree) (next : State) → expression_in splittings.Nothing inner ≡ found → group_at_operand whole brackets.Round found ≡ Some next → is_single (row inner) ≡ true
begins_round opener inner None next is e = absurd cc
begins_round opener inner (Some tree) next is e = single_read inner tree is

begins_bracket : (bracket : Bracket) (opener : Token) (inner : SeenFragments) (next : State) → group_at_operand whole bracket (tree_inside bracket opener inner (items_in inner)) ≡ Some next → group_begins_value bracket (row inner) ≡ true
begins_bracket brackets.Round opener inner next e = begins_round opener inner (expression_in splittings.Nothing inner) next refl e
begins_bracket brackets.Hidden opener inner next e = refl
begins_bracket brackets.SharpRound opener inner next e = refl
begins_bracket brackets.SharpSquare opener inner next e = refl
begins_bracket (brackets.Statement kind) opener inner next e = refl
begins_bracket brackets.Square opener inner next e = absurd cc
begins_bracket brackets.Special opener inner next e = absurd cc

-- where an expression is read, a value may begin behind a symbol
pub begins_read : (first : SeenFragment) (next : State) → after_item splittings.Nothing (wants whole) (item_of first) ≡ Some next → begins_value first ≡ true
begins_read (one token) next e = begins_role (role_of token) token next e
begins_read (group opener inner closer) next e = begins_bracket (bracket_of opener closer) opener inner next e
