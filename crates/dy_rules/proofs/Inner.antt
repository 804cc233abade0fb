-- What stands in an expression, and no separator does.
use Rattle.std.proofs.Common.{◌≡◌, Bool, true, false, not, ◌&&◌, List, [], ◌∷◌, Option, Some, None, option_and_then, refl, sym, subst}
use Rattle.dy_tree.specs.declared.token.Token.{Token}
use Rattle.dy_tree.specs.Fragments.{SeenFragment, one, group}
use Rattle.dy_tree.specs.declared.roles.Role.{Role}
use Rattle.dy_tree.specs.declared.roles.Role.TheVariants as roles
use Rattle.dy_tree.specs.declared.splitters.Splitting.{Splitting}
use Rattle.dy_tree.specs.declared.splitters.Splitting.TheVariants as splittings
use Rattle.dy_tree.specs.declared.splitters.Splitter.TheVariants as splitter_words
use Rattle.dy_rules.specs.Trees.{Tree, literal}
use Rattle.dy_rules.specs.Roles.{role_of, splits_as, splits, positive}
use Rattle.dy_rules.specs.Cutting.{is_semicolon_role, is_semicolon, is_let_role, is_let, is_splitter, is_arrow}
use Rattle.dy_rules.specs.Reading.{Outer, Part, State, wants, counted, has, dotted, integer_part, name_if, at_operand, behind, member_if, behind_dot, after_item}
use Rattle.dy_rules.specs.Fragments.{item_of}
use Rattle.dy_rules.proofs.Lists.{reads}
use Rattle.dy_rules.proofs.Cuts.{Closed}
use Rattle.dy_rules.specs.Arguments.{is_comma, is_comma_fragment}
use Rattle.dy_rules.specs.Choices.{is_remains_role, is_remains}
use Rattle.dy_rules.specs.Types.{is_arrow_role}

abbrev Fragments : Type 0
Fragments = List SeenFragment

abbrev pub inner_role : Role → Bool
inner_role roles.Integer = true
inner_role roles.Character = true
inner_role roles.Text = true
inner_role roles.Boolean = true
inner_role roles.Symbol = true
inner_role roles.Named = true
inner_role (roles.Operator precedence) = true
inner_role roles.Minus = true
inner_role roles.Tilde = true
inner_role roles.Assigns = true
inner_role roles.Dot = true
inner_role _ = false

-- a fragment that may stand in an expression
abbrev pub is_inner : Splitting → SeenFragment → Bool
is_inner words (one token) = inner_role (role_of token) && not (splits words token)
is_inner words (group opener inner closer) = true

abbrev pub Inner : Splitting → Fragments → Type 0
Inner words [] = Unit {0}
Inner words (first ∷ rest) = (is_inner words first ≡ true) × Inner words rest

pub splits_no_splitter : (words : Splitting) → splits_as words splitter_words.Absent ≡ false
splits_no_splitter splittings.Nothing = refl
splits_no_splitter splittings.Branches = refl
splits_no_splitter splittings.Endings = refl
splits_no_splitter splittings.LastPart = refl
splits_no_splitter splittings.Steps = refl
splits_no_splitter splittings.Tests = refl

pub inner_if : (words : Splitting) (token : Token) → inner_role (role_of token) ≡ true → splits words token ≡ false → is_inner words (one token) ≡ true
inner_if words token e f = rw (e, f) refl

operand_inner : (words : Splitting) (role : Role) (outer : Outer) (token : Token) (next : State) → role_of token ≡ role → at_operand words outer token role ≡ Some next → is_inner words (one token) ≡ true
operand_inner words roles.Integer outer token next is e = rw (is, splits_no_splitter words) refl
operand_inner words roles.Character outer token next is e = rw (is, splits_no_splitter words) refl
operand_inner words roles.Text outer token next is e = rw (is, splits_no_splitter words) refl
operand_inner words roles.Boolean outer token next is e = rw (is, splits_no_splitter words) refl
operand_inner words roles.Symbol outer token next is e = rw (is, splits_no_splitter words) refl
operand_inner words roles.Minus outer token next is e = rw (is, splits_no_splitter words) refl
operand_inner words roles.Tilde outer token next is e = rw (is, splits_no_splitter words) refl
operand_inner words roles.Named outer token next is e = go (splits words token) refl e
  where
    go : (b : Bool) → splits words token ≡ b → name_if b token outer ≡ Some next → is_inner words (one token) ≡ true
    go true f g = absurd cc
    go false f g = inner_if words token (rw is refl) f
operand_inner words role outer token next is e = absurd cc

behind_inner : (words : Splitting) (role : Role) (alone part : Part) (token : Token) (next : State) → role_of token ≡ role → behind alone part token role ≡ Some next → is_inner words (one token) ≡ true
behind_inner words (roles.Operator precedence) alone part token next is e = rw (is, splits_no_splitter words) refl
behind_inner words roles.Minus alone part token next is e = rw (is, splits_no_splitter words) refl
behind_inner words roles.Assigns alone part token next is e = rw (is, splits_no_splitter words) refl
behind_inner words roles.Dot alone part token next is e = rw (is, splits_no_splitter words) refl
behind_inner words role alone part token next is e = absurd cc

dot_inner : (words : Splitting) (role : Role) (tree : Tree) (outer : Outer) (token : Token) (next : State) → role_of token ≡ role → behind_dot words tree outer token role ≡ Some next → is_inner words (one token) ≡ true
dot_inner words roles.Named tree outer token next is e = go (splits words token) refl e
  where
    go : (b : Bool) → splits words token ≡ b → member_if b tree outer token ≡ Some next → is_inner words (one token) ≡ true
    go true f g = absurd cc
    go false f g = inner_if words token (rw is refl) f
dot_inner words role tree outer token next is e = absurd cc

step_inner : (words : Splitting) (state : State) (fragment : SeenFragment) (next : State) → after_item words state (item_of fragment) ≡ Some next → is_inner words fragment ≡ true
step_inner words state (group opener inner closer) next e = refl
step_inner words (wants outer) (one token) next e = operand_inner words (role_of token) outer token next refl e
step_inner words (counted digits outer) (one token) next e = behind_inner words (role_of token) (literal (positive digits), outer) (integer_part digits outer) token next refl e
step_inner words (has tree outer) (one token) next e = behind_inner words (role_of token) (tree, outer) (tree, outer) token next refl e
step_inner words (dotted tree outer) (one token) next e = dot_inner words (role_of token) tree outer token next refl e

pub reads_inner : (words : Splitting) (fragments : Fragments) (state next : State) → reads words state fragments ≡ Some next → Inner words fragments
reads_inner words [] state next e = tt
reads_inner words (first ∷ rest) state next e = go (after_item words state (item_of first)) refl (λ middle. reads_inner words rest middle next) e
  where
    go : (found : Option State) → after_item words state (item_of first) ≡ found → ((middle : State) → reads words middle rest ≡ Some next → Inner words rest)
        → option_and_then (λ (s : State). reads words s rest) found ≡ Some next → Inner words (first ∷ rest)
    go None is more f = absurd cc
    go (Some middle) is more f = (step_inner words state first middle is, more middle f)

-- what stands in an item beside expressions
abbrev pub item_role : Role → Bool
item_role roles.Lets = true
item_role roles.Locals = true
item_role roles.Colons = true
item_role roles.Comma = true
item_role _ = false

-- a separator of items
pub record Separating (words : Splitting) (separates : SeenFragment → Bool) : Type 0 where
  pub inner : (fragment : SeenFragment) → is_inner words fragment ≡ true → separates fragment ≡ false
  pub others : (token : Token) → item_role (role_of token) ≡ true → separates (one token) ≡ false

and_left : (a b : Bool) → (a && b) ≡ true → a ≡ true
and_left true b e = refl
and_left false b e = e

and_not : (a b : Bool) → (a && not b) ≡ true → b ≡ false
and_not true true e = absurd cc
and_not true false e = refl
and_not false b e = absurd cc

no_semicolon : (role : Role) → inner_role role ≡ true → is_semicolon_role role ≡ false
no_semicolon roles.Semicolon e = absurd cc
no_semicolon role e = refl

no_semicolon_in_item : (role : Role) → item_role role ≡ true → is_semicolon_role role ≡ false
no_semicolon_in_item roles.Semicolon e = absurd cc
no_semicolon_in_item role e = refl

no_let : (role : Role) → inner_role role ≡ true → is_let_role role ≡ false
no_let roles.Lets e = absurd cc
no_let role e = refl

pub semicolons : (words : Splitting) → Separating words is_semicolon
semicolons words = record { inner = inner; others = λ token e. no_semicolon_in_item (role_of token) e }
  where
    inner : (fragment : SeenFragment) → is_inner words fragment ≡ true → is_semicolon fragment ≡ false
    inner (one token) e = no_semicolon (role_of token) (and_left (inner_role (role_of token)) (not (splits words token)) e)
    inner (group opener within closer) e = refl

no_splitter_in_item : (words : Splitting) (role : Role) (token : Token) → role_of token ≡ role → item_role role ≡ true → splits words token ≡ false
no_splitter_in_item words roles.Lets token is e = rw (is, splits_no_splitter words) refl
no_splitter_in_item words roles.Locals token is e = rw (is, splits_no_splitter words) refl
no_splitter_in_item words roles.Colons token is e = rw (is, splits_no_splitter words) refl
no_splitter_in_item words roles.Comma token is e = rw (is, splits_no_splitter words) refl
no_splitter_in_item words role token is e = absurd cc

pub splitters : (words : Splitting) → Separating words (is_splitter words)
splitters words = record { inner = inner; others = λ token e. no_splitter_in_item words (role_of token) token refl e }
  where
    inner : (fragment : SeenFragment) → is_inner words fragment ≡ true → is_splitter words fragment ≡ false
    inner (one token) e = and_not (inner_role (role_of token)) (splits words token) e
    inner (group opener within closer) e = refl

inner_no_let : (words : Splitting) (fragment : SeenFragment) → is_inner words fragment ≡ true → is_let fragment ≡ false
inner_no_let words (one token) e = no_let (role_of token) (and_left (inner_role (role_of token)) (not (splits words token)) e)
inner_no_let words (group opener within closer) e = refl

pub inner_closed_by : (words : Splitting) (separates : SeenFragment → Bool) → ((fragment : SeenFragment) → is_inner words fragment ≡ true → separates fragment ≡ false) → (fragments : Fragments) → Inner words fragments → Closed separates false fragments
inner_closed_by words separates never [] h = refl
inner_closed_by words separates never (first ∷ rest) (is, h) =
    (rw (never first is) refl, subst (λ (b : Bool). Closed separates b rest) (sym (inner_no_let words first is)) (inner_closed_by words separates never rest h))

pub inner_closed : (words : Splitting) (separates : SeenFragment → Bool) → Separating words separates → (fragments : Fragments) → Inner words fragments → Closed separates false fragments
inner_closed words separates s fragments h = inner_closed_by words separates s.inner fragments h

no_arrow : (role : Role) → inner_role role ≡ true → is_arrow_role role ≡ false
no_arrow roles.Arrow e = absurd cc
no_arrow role e = refl

no_arrow_in_item : (role : Role) → item_role role ≡ true → is_arrow_role role ≡ false
no_arrow_in_item roles.Arrow e = absurd cc
no_arrow_in_item role e = refl

pub arrows : (words : Splitting) → Separating words is_arrow
arrows words = record { inner = inner; others = λ token e. no_arrow_in_item (role_of token) e }
  where
    inner : (fragment : SeenFragment) → is_inner words fragment ≡ true → is_arrow fragment ≡ false
    inner (one token) e = no_arrow (role_of token) (and_left (inner_role (role_of token)) (not (splits words token)) e)
    inner (group opener within closer) e = refl

no_comma : (role : Role) → inner_role role ≡ true → is_comma role ≡ false
no_comma roles.Comma e = absurd cc
no_comma role e = refl

pub inner_no_comma : (words : Splitting) (fragment : SeenFragment) → is_inner words fragment ≡ true → is_comma_fragment fragment ≡ false
inner_no_comma words (one token) e = no_comma (role_of token) (and_left (inner_role (role_of token)) (not (splits words token)) e)
inner_no_comma words (group opener within closer) e = refl

no_remains : (role : Role) → inner_role role ≡ true → is_remains_role role ≡ false
no_remains roles.Remains e = absurd cc
no_remains role e = refl

pub inner_no_remains : (words : Splitting) (fragment : SeenFragment) → is_inner words fragment ≡ true → is_remains fragment ≡ false
inner_no_remains words (one token) e = no_remains (role_of token) (and_left (inner_role (role_of token)) (not (splits words token)) e)
inner_no_remains words (group opener within closer) e = refl
