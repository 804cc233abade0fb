-- The reader of arguments.
use Rattle.std.proofs.Common.{◌≡◌, ℕ, ◌≤◌, max, Bool, true, false, List, [], ◌∷◌, ◌++◌, map, Option, Some, None, option_map, refl, sym, ap, ◌∙◌, arith}
use Rattle.std.proofs.lemmas.List.{map-append}
use Rattle.dy_tree.specs.declared.token.Token.{Token}
use Rattle.dy_tree.specs.declared.types.LiteralForm.TheVariants as literals
use Rattle.dy_tree.specs.Fragments.{SeenFragments, one, group}
use Rattle.dy_tree.specs.declared.expression.Argument as forms
use Rattle.dy_tree.specs.declared.roles.Role.{Role}
use Rattle.dy_tree.specs.declared.roles.Role.TheVariants as roles
use Rattle.dy_tree.specs.declared.splitters.Splitting.TheVariants as splittings
use Rattle.dy_rules.specs.SeenForms.{seen_argument}
use Rattle.dy_rules.specs.Trees.{Tree, literal, Argument, keyword, value, arguments_of}
use Rattle.dy_rules.specs.Depth.{depth, arguments_depth, argument_depth, depth_limit}
use Rattle.dy_rules.specs.Roles.{role_of, bracket_of}
use Rattle.dy_rules.specs.Arguments.{begins_value, role_begins_value}
use Rattle.dy_rules.specs.Cutting.{Found}
use Rattle.dy_rules.specs.Reading as reading
use Rattle.dy_rules.specs.Reading.{Outer, whole, State, wants, counted, has, dotted, at_token, at_group, Passing, nothing_passed, passes_next, symbol_first, passing, or_else, after_argument, argument_of, with_last}
use Rattle.dy_rules_depth.specs.Changes.{changed_argument}
use Rattle.dy_rules_depth.specs.ReaderChanges.{changed_state, changed_passing}
use Rattle.dy_rules_depth.specs.Capping.{capping, capped, filled, filling}
use Rattle.dy_read_outers.specs.declared.passed.Passed.{Passed}
use Rattle.dy_read_outers.specs.Passed.{read_passed}
use Rattle.dy_read_outers.specs.ReadTrees.{seen_list}
use Rattle.dy_read_outers.proofs.Fills.{filled_kept}
use Rattle.dy_read_operators.specs.PassingSteps.{ahead, value_group, after_token}

argument_kept : (argument : Argument) → argument_depth argument ≤ depth_limit → changed_argument capping (changed_argument filling argument) ≡ changed_argument filling argument
argument_kept (keyword token tree) le = ap (keyword token) (filled_kept tree le)
argument_kept (value tree) le = ap value (filled_kept tree le)

list_kept : (list : List Argument) → arguments_depth (arguments_of list) ≤ depth_limit → map (changed_argument capping) (map (changed_argument filling) list) ≡ map (changed_argument filling) list
list_kept [] le = refl
list_kept (first ∷ rest) le = cc (argument_kept first (omega arith), list_kept rest (omega arith))

-- what was read is within the limit
pub passed_kept : (passed : Passed) → map (changed_argument capping) (read_passed passed) ≡ read_passed passed
passed_kept passed = list_kept _ passed.within

-- one argument more
depth_more : (list : List Argument) (argument : Argument) → arguments_depth (arguments_of (list ++ argument ∷ [])) ≡ max (arguments_depth (arguments_of list)) (argument_depth argument)
depth_more [] argument = omega arith
depth_more (first ∷ rest) argument = let more = depth_more rest argument in omega arith

last_depth : (list : List Argument) (word : Option Token) (tree : Tree) → arguments_depth (arguments_of (with_last list word tree)) ≡ max (arguments_depth (arguments_of list)) (depth tree)
last_depth list None tree = depth_more list (value tree)
last_depth list (Some token) tree = depth_more list (keyword token tree)

last_filled : (list : List Argument) (word : Option Token) (tree : Tree) → map (changed_argument filling) (with_last list word tree) ≡ with_last (map (changed_argument filling) list) word (filled tree)
last_filled list None tree = map-append (changed_argument filling) list (value tree ∷ [])
last_filled list (Some token) tree = map-append (changed_argument filling) list (keyword token tree ∷ [])

pub last_read : (list more : List Argument) (word : Option Token) (tree : Tree) → more ≡ with_last list word tree → map (changed_argument filling) more ≡ with_last (map (changed_argument filling) list) word (filled tree)
last_read list more word tree e = ap (map (changed_argument filling)) e ∙ last_filled list word tree

-- the same of what lies in memory
pub last_seen : (written : List forms.Argument) (last : forms.Argument) (word : Option Token) (tree : Tree) → seen_argument last ≡ argument_of word tree → seen_list (written ++ last ∷ []) ≡ with_last (seen_list written) word tree
last_seen written last word tree e = map-append seen_argument written (last ∷ []) ∙ ap (λ (argument : Argument). seen_list written ++ argument ∷ []) e

-- how deep the deepest of them is, as it is read and as it lies in memory
pub last_deepest : (list more : List Argument) (word : Option Token) (tree : Tree) (n m deepest : ℕ) → more ≡ with_last list word tree → n ≡ arguments_depth (arguments_of (map (changed_argument filling) list)) → m ≡ depth (filled tree) → deepest ≡ max n m
    → deepest ≡ arguments_depth (arguments_of (map (changed_argument filling) more))
last_deepest list more word tree n m deepest e f g is =
    let made = ap (λ (found : List Argument). arguments_depth (arguments_of found)) (last_read list more word tree e) in
    let deep = last_depth (map (changed_argument filling) list) word (filled tree) in
    omega arith

pub last_within : (list more : List Argument) (word : Option Token) (tree : Tree) → more ≡ with_last list word tree → arguments_depth (arguments_of list) ≤ depth_limit → depth tree ≤ depth_limit → arguments_depth (arguments_of more) ≤ depth_limit
last_within list more word tree e le within =
    let made = ap (λ (found : List Argument). arguments_depth (arguments_of found)) e in
    let deep = last_depth list word tree in
    omega arith

-- the same arguments with what was read of the next one
pub within_is : (passed : Passed) (word : Option Token) (machine state : Option State) → machine ≡ option_map (changed_state capping) state
    → option_map (passing (read_passed passed) word) machine ≡ option_map (changed_passing capping) (option_map (passing (read_passed passed) word) state)
within_is passed word machine state e = ap (option_map (passing (read_passed passed) word)) e ∙ by state
  where
    by : (found : Option State) → option_map (passing (read_passed passed) word) (option_map (changed_state capping) found) ≡ option_map (changed_passing capping) (option_map (passing (read_passed passed) word) found)
    by None = refl
    by (Some next) = ap (λ (list : List Argument). Some (passing list word (changed_state capping next))) (sym (passed_kept passed))

-- one argument more, of a tree that was read
with_last_read : (list : List Argument) (word : Option Token) (tree : Tree) → map (changed_argument capping) (with_last list word tree) ≡ with_last (map (changed_argument capping) list) word (capped tree)
with_last_read list None tree = map-append (changed_argument capping) list (value tree ∷ [])
with_last_read list (Some token) tree = map-append (changed_argument capping) list (keyword token tree ∷ [])

pub with_tree_is : (passed : Passed) (word : Option Token) (found tree : Option Tree) → found ≡ option_map capped tree
    → option_map (with_last (read_passed passed) word) found ≡ option_map (map (changed_argument capping)) (option_map (with_last (read_passed passed) word) tree)
with_tree_is passed word found tree e = ap (option_map (with_last (read_passed passed) word)) e ∙ by tree
  where
    by : (tree : Option Tree) → option_map (with_last (read_passed passed) word) (option_map capped tree) ≡ option_map (map (changed_argument capping)) (option_map (with_last (read_passed passed) word) tree)
    by None = refl
    by (Some tree) = ap Some (ap (λ (list : List Argument). with_last list word (capped tree)) (sym (passed_kept passed)) ∙ sym (with_last_read (read_passed passed) word tree))

-- a comma behind arguments
pub comma_is : (passed found : Option (List Argument)) → passed ≡ option_map (map (changed_argument capping)) found → option_map passes_next passed ≡ option_map (changed_passing capping) (option_map passes_next found)
comma_is passed found e = ap (option_map passes_next) e ∙ by found
  where
    by : (list : Option (List Argument)) → option_map passes_next (option_map (map (changed_argument capping)) list) ≡ option_map (changed_passing capping) (option_map passes_next list)
    by None = refl
    by (Some list) = refl

else_none : {A : Type 0} (found : Option A) → or_else found None ≡ found
else_none None = refl
else_none (Some a) = refl

-- a group
pub group_item : (reader : Passing) (opener : Token) (inner : SeenFragments) (closer : Token) (found : Found)
    → after_argument reader (group opener inner closer) (record { fragment = group opener inner closer; found = found }) ≡ value_group (ahead (begins_value (group opener inner closer)) reader) opener (bracket_of opener closer) found.tree found.passed
group_item nothing_passed opener inner closer found = refl
group_item (passes_next passed) opener inner closer found = refl
group_item (symbol_first passed token) opener inner closer found = by (begins_value (group opener inner closer))
  where
    by : (begins : Bool) → reading.by_symbol begins passed token (group opener inner closer) (record { fragment = group opener inner closer; found = found }) ≡ value_group (ahead begins (symbol_first passed token)) opener (bracket_of opener closer) found.tree found.passed
    by true = refl
    by false = else_none _
group_item (passing passed word state) opener inner closer found = else_none _

-- a token

comma_behind : (state : State) (token : Token) → role_of token ≡ roles.Comma → at_token splittings.Nothing state token ≡ None
comma_behind (wants outer) token e = rw e refl
comma_behind (counted digits outer) token e = rw e refl
comma_behind (has tree outer) token e = rw e refl
comma_behind (dotted tree outer) token e = rw e refl

abbrev AfterToken : Passing → Token → Found → Role → Type 0
AfterToken reader token found role = role_of token ≡ role → after_argument reader (one token) (record { fragment = one token; found = found }) ≡ after_token role reader token

at_nothing : (token : Token) (found : Found) (role : Role) → AfterToken nothing_passed token found role
at_nothing token found roles.Comma e = rw e refl
at_nothing token found role e = rw e refl

at_next : (passed : List Argument) (token : Token) (found : Found) (role : Role) → AfterToken (passes_next passed) token found role
at_next passed token found roles.Comma e = rw e refl
at_next passed token found role e = rw e refl

-- a token behind a symbol at the front of an argument, by its role
symbol_at : (passed : List Argument) (first token : Token) (found : Found) (role : Role) → role_of token ≡ role → reading.by_symbol (role_begins_value role) passed first (one token) (record { fragment = one token; found = found }) ≡ after_token role (symbol_first passed first) token
symbol_at passed first token found roles.Integer e = refl
symbol_at passed first token found roles.Character e = refl
symbol_at passed first token found roles.Text e = refl
symbol_at passed first token found roles.Boolean e = refl
symbol_at passed first token found roles.Symbol e = refl
symbol_at passed first token found roles.Named e = refl
symbol_at passed first token found roles.Minus e = refl
symbol_at passed first token found roles.Tilde e = refl
symbol_at passed first token found roles.Comma e =
    let reader = symbol_first passed first in
    ap (λ (role : Role). or_else (reading.in_value passed None (has (literal (literals.Symbol first)) whole) (record { fragment = one token; found = found })) (reading.at_comma role reader)) e
    ∙ ap (λ (state : Option State). or_else (option_map (passing passed None) state) (reading.at_comma roles.Comma reader)) (comma_behind (has (literal (literals.Symbol first)) whole) token e)
symbol_at passed first token found role e =
    let operand = reading.in_value passed None (has (literal (literals.Symbol first)) whole) (record { fragment = one token; found = found }) in
    ap (λ (role : Role). or_else operand (reading.at_comma role (symbol_first passed first))) e ∙ else_none operand

at_symbol : (passed : List Argument) (first token : Token) (found : Found) (role : Role) → AfterToken (symbol_first passed first) token found role
at_symbol passed first token found role e = ap (λ (role : Role). reading.by_symbol (role_begins_value role) passed first (one token) (record { fragment = one token; found = found })) e ∙ symbol_at passed first token found role e

at_within : (passed : List Argument) (word : Option Token) (state : State) (token : Token) (found : Found) (role : Role) → AfterToken (passing passed word state) token found role
at_within passed word state token found roles.Comma e = let none = comma_behind state token e in rw (none, e) refl
at_within passed word state token found role e = rw e (else_none _)

pub token_item : (reader : Passing) (token : Token) (found : Found) → after_argument reader (one token) (record { fragment = one token; found = found }) ≡ after_token (role_of token) reader token
token_item nothing_passed token found = at_nothing token found (role_of token) refl
token_item (passes_next passed) token found = at_next passed token found (role_of token) refl
token_item (symbol_first passed first) token found = at_symbol passed first token found (role_of token) refl
token_item (passing passed word state) token found = at_within passed word state token found (role_of token) refl
