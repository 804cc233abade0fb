-- Expressions and arguments are read the same to the limit, whatever stands in the place of trees that are too deep.
use Rattle.std.proofs.Common.{◌≡◌, Bool, true, false, List, [], ◌∷◌, map, Option, Some, None, option_map, refl, sym, ap, ◌∙◌}
use Rattle.std.proofs.lemmas.List.{map-append}
use Rattle.dy_tree.specs.declared.token.Token.{Token}
use Rattle.dy_tree.specs.declared.types.LiteralForm.TheVariants as literals
use Rattle.dy_tree.specs.Fragments.{SeenFragment, one, group}
use Rattle.dy_tree.specs.declared.roles.Role.{Role}
use Rattle.dy_tree.specs.declared.roles.Role.TheVariants as roles
use Rattle.dy_tree.specs.declared.splitters.Splitting.{Splitting}
use Rattle.dy_tree.specs.declared.splitters.Splitting.TheVariants as splittings
use Rattle.dy_rules.specs.Trees.{Tree, literal, Argument, keyword, value}
use Rattle.dy_rules.specs.Roles.{role_of, bracket_of}
use Rattle.dy_rules.specs.Arguments.{begins_value}
use Rattle.dy_rules.specs.Cutting.{Found, Item}
use Rattle.dy_rules.specs.Reading.{whole, State, wants, has, tree_of, Passing, nothing_passed, passes_next, symbol_first, passing, argument_of, with_last, arguments_in, arguments_at_end, fresh_role, fresh, at_comma, at_separator, after_fragment, after_item, in_value, by_symbol, after_argument, after_all, after_passing, expression_items, passed_items}
use Rattle.dy_rules_depth.specs.Changes.{changed_argument}
use Rattle.dy_rules_depth.specs.ReaderChanges.{changed_state, changed_passing, changed_found, changed_item_of, changed_items}
use Rattle.dy_rules_depth.specs.Capping.{capped, capping}
use Rattle.dy_rules_depth.proofs.Options.{lifted, option_twice, map_same, then_same, else_same}
use Rattle.dy_rules_depth.proofs.Twice.{tree_twice, arguments_twice, state_twice}
use Rattle.dy_rules_depth.proofs.Machine.{SamePassed, tree_same, token_same, group_same}

-- an item behind a state

abbrev pub SameFound : Found → Found → Type 0
SameFound found other = (option_map capped found.tree ≡ option_map capped other.tree) × SamePassed found.passed other.passed

pub found_same : (found : Found) → SameFound (changed_found capping found) found
found_same found = (option_twice capped tree_twice found.tree, option_twice (map (changed_argument capping)) arguments_twice found.passed)

pub fragment_same : (words : Splitting) (state rest : State) (fragment : SeenFragment) (found other : Found) → changed_state capping state ≡ changed_state capping rest → SameFound found other
    → option_map (changed_state capping) (after_fragment words state fragment found) ≡ option_map (changed_state capping) (after_fragment words rest fragment other)
fragment_same words state rest (one token) found other e f = token_same words state rest token e
fragment_same words state rest (group opener inner closer) found other e (f, g) = group_same state rest opener (bracket_of opener closer) found.tree other.tree found.passed other.passed e f g

-- these two lead to the same
abbrev pub SameItem : Splitting → Item → Item → Type 0
SameItem words item other = (state rest : State) → changed_state capping state ≡ changed_state capping rest → option_map (changed_state capping) (after_item words state item) ≡ option_map (changed_state capping) (after_item words rest other)

pub item_itself : (words : Splitting) (item : Item) → SameItem words item item
item_itself words item state rest e = fragment_same words state rest item.fragment item.found item.found e (refl, refl)

pub item_same : (words : Splitting) (item : Item) → SameItem words (changed_item_of capping item) item
item_same words item state rest e = fragment_same words state rest item.fragment (changed_found capping item.found) item.found e (found_same item.found)

pub all_same : (words : Splitting) (items : List Item) (state rest : State) → changed_state capping state ≡ changed_state capping rest
    → option_map (changed_state capping) (after_all words state (changed_items capping items)) ≡ option_map (changed_state capping) (after_all words rest items)
all_same words [] state rest e = ap Some e
all_same words (item ∷ items) state rest e =
    then_same (changed_state capping) (changed_state capping) (λ next. after_all words next (changed_items capping items)) (λ next. after_all words next items) (after_item words state (changed_item_of capping item)) (after_item words rest item)
    (all_same words items) (item_same words item state rest e)

pub expression_same : (words : Splitting) (items : List Item) → option_map capped (expression_items words (changed_items capping items)) ≡ option_map capped (expression_items words items)
expression_same words items =
    then_same (changed_state capping) capped tree_of tree_of (after_all words (wants whole) (changed_items capping items)) (after_all words (wants whole) items) tree_same (all_same words items (wants whole) (wants whole) refl)

-- arguments

pub argument_same : (token : Option Token) (tree other : Tree) → capped tree ≡ capped other → changed_argument capping (argument_of token tree) ≡ changed_argument capping (argument_of token other)
argument_same None tree other e = ap value e
argument_same (Some token) tree other e = ap (keyword token) e

pub with_last_same : (passed others : List Argument) (token : Option Token) (tree other : Tree) → map (changed_argument capping) passed ≡ map (changed_argument capping) others → capped tree ≡ capped other
    → map (changed_argument capping) (with_last passed token tree) ≡ map (changed_argument capping) (with_last others token other)
with_last_same passed others token tree other e f =
    cc (map-append (changed_argument capping) passed (argument_of token tree ∷ []), map-append (changed_argument capping) others (argument_of token other ∷ []), argument_same token tree other f)

pub arguments_on : (reader : Passing) → SamePassed (arguments_in (changed_passing capping reader)) (arguments_in reader)
arguments_on nothing_passed = refl
arguments_on (passes_next passed) = refl
arguments_on (symbol_first passed token) = ap Some (with_last_same (map (changed_argument capping) passed) passed None (literal (literals.Symbol token)) (literal (literals.Symbol token)) (arguments_twice passed) refl)
arguments_on (passing passed token state) =
    map_same capped (map (changed_argument capping)) (with_last (map (changed_argument capping) passed) token) (with_last passed token) (tree_of (changed_state capping state)) (tree_of state)
    (λ tree other e. with_last_same (map (changed_argument capping) passed) passed token tree other (arguments_twice passed) e) (tree_same (changed_state capping state) state (state_twice state))

pub end_on : (reader : Passing) → SamePassed (arguments_at_end (changed_passing capping reader)) (arguments_at_end reader)
end_on nothing_passed = refl
end_on (passes_next passed) = arguments_on (passes_next passed)
end_on (symbol_first passed token) = arguments_on (symbol_first passed token)
end_on (passing passed token state) = arguments_on (passing passed token state)

pub arguments_same : (reader other : Passing) → changed_passing capping reader ≡ changed_passing capping other → SamePassed (arguments_in reader) (arguments_in other)
arguments_same reader other e = lifted (changed_passing capping) (option_map (map (changed_argument capping))) arguments_in arguments_on reader other e

pub end_same : (reader other : Passing) → changed_passing capping reader ≡ changed_passing capping other → SamePassed (arguments_at_end reader) (arguments_at_end other)
end_same reader other e = lifted (changed_passing capping) (option_map (map (changed_argument capping))) arguments_at_end end_on reader other e

abbrev pub SameReader : Option Passing → Option Passing → Type 0
SameReader reader other = option_map (changed_passing capping) reader ≡ option_map (changed_passing capping) other

pub comma_same : (role : Role) (reader other : Passing) → changed_passing capping reader ≡ changed_passing capping other → SameReader (at_comma role reader) (at_comma role other)
comma_same roles.Comma reader other e = map_same (map (changed_argument capping)) (changed_passing capping) passes_next passes_next (arguments_in reader) (arguments_in other) (λ passed others f. ap passes_next f) (arguments_same reader other e)
comma_same role reader other e = refl

pub separator_same : (reader other : Passing) (fragment : SeenFragment) → changed_passing capping reader ≡ changed_passing capping other → SameReader (at_separator reader fragment) (at_separator other fragment)
separator_same reader other (one token) e = comma_same (role_of token) reader other e
separator_same reader other (group opener inner closer) e = refl

fresh_role_same : (role : Role) (passed others : List Argument) (token : Token) → map (changed_argument capping) passed ≡ map (changed_argument capping) others → SameReader (fresh_role role passed token) (fresh_role role others token)
fresh_role_same roles.Symbol passed others token e = cc
fresh_role_same role passed others token e = refl

pub fresh_same : (passed others : List Argument) (fragment : SeenFragment) → map (changed_argument capping) passed ≡ map (changed_argument capping) others → SameReader (fresh passed fragment) (fresh others fragment)
fresh_same passed others (one token) e = fresh_role_same (role_of token) passed others token e
fresh_same passed others (group opener inner closer) e = refl

module _ (item other : Item) (same : SameItem splittings.Nothing item other) where
  pub value_same : (passed others : List Argument) (token : Option Token) (state rest : State) → map (changed_argument capping) passed ≡ map (changed_argument capping) others → changed_state capping state ≡ changed_state capping rest
      → SameReader (in_value passed token state item) (in_value others token rest other)
  value_same passed others token state rest e f =
      map_same (changed_state capping) (changed_passing capping) (passing passed token) (passing others token) (after_item splittings.Nothing state item) (after_item splittings.Nothing rest other) (λ next behind g. cc) (same state rest f)

  pub by_symbol_same : (begins : Bool) (passed others : List Argument) (token : Token) (fragment : SeenFragment) → map (changed_argument capping) passed ≡ map (changed_argument capping) others
      → SameReader (by_symbol begins passed token fragment item) (by_symbol begins others token fragment other)
  by_symbol_same true passed others token fragment e = value_same passed others (Some token) (wants whole) (wants whole) e refl
  by_symbol_same false passed others token fragment e =
      else_same (changed_passing capping) (in_value passed None (has (literal (literals.Symbol token)) whole) item) (in_value others None (has (literal (literals.Symbol token)) whole) other)
      (at_separator (symbol_first passed token) fragment) (at_separator (symbol_first others token) fragment)
      (value_same passed others None (has (literal (literals.Symbol token)) whole) (has (literal (literals.Symbol token)) whole) e refl) (separator_same (symbol_first passed token) (symbol_first others token) fragment cc)

  pub argument_on : (fragment : SeenFragment) (reader : Passing) → SameReader (after_argument (changed_passing capping reader) fragment item) (after_argument reader fragment other)
  argument_on fragment nothing_passed =
      else_same (changed_passing capping) (fresh [] fragment) (fresh [] fragment) (in_value [] None (wants whole) item) (in_value [] None (wants whole) other) refl (value_same [] [] None (wants whole) (wants whole) refl refl)
  argument_on fragment (passes_next passed) =
      else_same (changed_passing capping) (fresh (map (changed_argument capping) passed) fragment) (fresh passed fragment) (in_value (map (changed_argument capping) passed) None (wants whole) item) (in_value passed None (wants whole) other)
      (fresh_same (map (changed_argument capping) passed) passed fragment (arguments_twice passed)) (value_same (map (changed_argument capping) passed) passed None (wants whole) (wants whole) (arguments_twice passed) refl)
  argument_on fragment (symbol_first passed token) = by_symbol_same (begins_value fragment) (map (changed_argument capping) passed) passed token fragment (arguments_twice passed)
  argument_on fragment (passing passed token state) =
      else_same (changed_passing capping) (in_value (map (changed_argument capping) passed) token (changed_state capping state) item) (in_value passed token state other)
      (at_separator (passing (map (changed_argument capping) passed) token (changed_state capping state)) fragment) (at_separator (passing passed token state) fragment)
      (value_same (map (changed_argument capping) passed) passed token (changed_state capping state) state (arguments_twice passed) (state_twice state))
      (separator_same (passing (map (changed_argument capping) passed) token (changed_state capping state)) (passing passed token state) fragment (cc (arguments_twice passed, state_twice state)))

-- behind readers that are the same to the limit
pub step_same : (reader other : Passing) (fragment : SeenFragment) (item rest : Item) → SameItem splittings.Nothing item rest → changed_passing capping reader ≡ changed_passing capping other → SameReader (after_argument reader fragment item) (after_argument other fragment rest)
step_same reader other fragment item rest same e =
    sym (argument_on item item (item_itself splittings.Nothing item) fragment reader) ∙ ap (λ (r : Passing). option_map (changed_passing capping) (after_argument r fragment item)) e ∙ argument_on item rest same fragment other

pub passing_same : (items : List Item) (reader other : Passing) → changed_passing capping reader ≡ changed_passing capping other → SameReader (after_passing reader (changed_items capping items)) (after_passing other items)
passing_same [] reader other e = ap Some e
passing_same (item ∷ items) reader other e =
    then_same (changed_passing capping) (changed_passing capping) (λ next. after_passing next (changed_items capping items)) (λ next. after_passing next items)
    (after_argument reader item.fragment (changed_item_of capping item)) (after_argument other item.fragment item) (passing_same items) (step_same reader other item.fragment (changed_item_of capping item) item (item_same splittings.Nothing item) e)

pub passed_same : (items : List Item) → SamePassed (passed_items (changed_items capping items)) (passed_items items)
passed_same items =
    then_same (changed_passing capping) (map (changed_argument capping)) arguments_at_end arguments_at_end (after_passing nothing_passed (changed_items capping items)) (after_passing nothing_passed items) end_same (passing_same items nothing_passed nothing_passed refl)
