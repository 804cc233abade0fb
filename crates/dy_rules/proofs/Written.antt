-- What a tree is written as is derived to it.
use Rattle.std.proofs.Common.{◌≡◌, ℕ, suc, ◌≤◌, Bool, true, false, not, ◌||◌, List, [], ◌∷◌, ◌++◌, Some, None, codes, refl, sym, ap, subst, ◌∙◌, append_assoc, arith, Option}
use Rattle.std.proofs.lemmas.List.{append-nil}
use Rattle.dy_tree.specs.declared.token.TokenKind.TheVariants as kinds
use Rattle.dy_tree.specs.declared.token.Token.{Token}
use Rattle.dy_tree.specs.declared.types.LiteralForm.TheVariants as literals
use Rattle.dy_tree.specs.Fragments.{SeenFragment, one, group, SeenFragments, row, pack}
use Rattle.dy_tree.specs.declared.roles.Role.{Role}
use Rattle.dy_tree.specs.declared.roles.Role.TheVariants as roles
use Rattle.dy_tree.specs.declared.roles.Precedence.{Precedence}
use Rattle.dy_tree.specs.declared.roles.Precedence.TheVariants as precedences
use Rattle.dy_tree.specs.declared.brackets.Keyword.{Keyword}
use Rattle.dy_tree.specs.declared.brackets.Keyword.TheVariants as keywords
use Rattle.dy_tree.specs.declared.brackets.Bracket.TheVariants as enclosures
use Rattle.dy_tree.specs.declared.splitters.Splitting.{Splitting}
use Rattle.dy_tree.specs.declared.splitters.Splitting.TheVariants as splittings
use Rattle.dy_rules.specs.Operators.{below}
use Rattle.dy_rules.specs.ConstantTrees.{constants_of, tail_of}
use Rattle.dy_rules.specs.Trees.{Tree, assignment, operation, unary, call, element, member, literal, name, Argument, arguments_of, list, vector, begin_tree, if_tree, guarded, ItemTree, body_of, alternatives_of, Otherwise, otherwise, case_tree, select_tree, maybe_of, arms_of, Arm, arm, tests_of, no_otherwise, block_tree, for_tree, block_clauses_of, ForClause, for_clauses_of, StopTree, stop_of, no_limit, method_tree, parameters_of, Listed, KeysTree, maybe_keys, keys_of, a_key, MaybeTree, LocalMethod, local_method, methods_of}
use Rattle.dy_rules.specs.Roles.{role_of, precedence_of, splits, bracket_of, positive, negative, begun_by}
use Rattle.dy_rules.specs.Arguments.{passes_two, is_symbol}
use Rattle.dy_rules.specs.Productions.{is_integer, is_integer_role, Sort, leaf, operand, signed, level, expression, argument, some_arguments, arguments, Derives, integer_leaf, character_leaf, string_leaf, boolean_leaf, symbol_leaf, name_leaf, bracket_leaf, leaf_operand, call_operand, element_operand, member_operand, operand_signed, negative_signed, minus_signed, tilde_signed, signed_level, up_level, operation_level, level_expression, assignment_expression, keyword_argument, value_argument, one_argument, more_arguments, no_arguments, all_arguments, list_leaf, vector_leaf, an_item, some_items, a_body, alternatives, begin_leaf, guarded_leaf, if_leaf, by_let, by_handler, by_expression, last_item, more_items, empty_body, separator_body, items_body, ended_body, no_alternatives, by_else, more_alternatives, some_tests, open_body, choices, arms, head, case_leaf, select_leaf, one_test, more_tests, empty_open, items_open, last_arm, more_arms, last_choice, last_choice_arrow, no_arms, some_arms, ended_arms, by_identity, by_test, block_clauses, for_clause, range, for_clauses, for_head, ending_part, block_leaf, for_leaf, no_block_clause, by_afterwards, by_cleanup, by_exception, by_then, by_in, by_from, no_range, step_range, limit_range, last_clause, only_stop, more_clauses, empty_head, some_clauses, no_finally, by_finally, IsExit, no_exit, an_exit, Catches, without_variable, with_variable, list_of, initial, key, more_keys, listed, brackets, signature, local_methods, method_leaf, no_initial, by_initial, plain_key, named_key, no_more_keys, all_keys, key_and_more, last_required, more_required, last_next, more_next, last_rest, more_rest, bare_keys, first_key, empty_brackets, some_listed, by_signature, by_local, last_method, more_methods}
use Rattle.dy_rules.specs.Marks.{made, mark, in_round, square_group, assigns_mark, dot_mark, comma_mark, semicolon_mark, word_mark, statement_group, arrow_mark, next_mark, rest_mark, key_mark}
use Rattle.dy_rules.specs.Writing.{splits_some, bracketed, operand_bracketed, splits_tree, minus_bracketed, is_minus_role, unary_bracketed, plain, written_arguments, written_rest, written_argument, written, written_operand, written_items, written_tail, written_body, items_behind, written_item, written_alternatives, written_otherwise, written_test, written_arms, written_arm, written_tests, tests_behind, written_remains, joined_choices, joined_clauses, written_exit, written_caught, written_clauses, written_for, written_for_clause, written_limit, written_step, written_stop, written_finally, written_signature, written_keys, first_keys, keys_behind, written_key, written_initial, written_methods, methods_behind, written_method, written_all, written_label}
use Rattle.dy_rules.specs.Constants.{in_list, in_vector, IsConstant}
use Rattle.dy_rules.proofs.Lists.{row_pack}
use Rattle.dy_rules.specs.TypeWriting.{written_type, written_target, written_variable, written_results, written_required, required_joined, next_joined, rest_joined}
use Rattle.dy_rules.proofs.TypeWritten.{type_writes, target_writes, type_splits, target_plain, variable_writes, variable_plain, results_write, semicolon_apart, required_writes}
use Rattle.dy_rules.proofs.Sound.{raised}
use Rattle.dy_rules.proofs.WrittenConstants.{list_closed, vector_closed, square_closed, statement_closed, constant_writes}
use Rattle.dy_rules.proofs.ChoiceSound.{no_more_choices}
use Rattle.dy_rules.specs.Types.{TypeTree, VariableTree, RequiredTree, IsRequired, ResultTree, an_end}

abbrev Fragments : Type 0
Fragments = List SeenFragment

abbrev written_under_minus : Tree → Fragments
written_under_minus tree = bracketed (minus_bracketed tree) (plain tree)

-- all that is needed of how a tree is written, where it stands alone, as an operand, and as the operand of a minus
pub record Writes (tree : Tree) : Type 0 where
  pub whole_is : (words : Splitting) → Derives words (expression tree) (written tree)
  pub alone : passes_two (written tree) ≡ false
  pub operand_is : (words : Splitting) → Derives words (leaf tree) (written_operand tree)
  pub front : (rest : Fragments) → passes_two (written_operand tree ++ rest) ≡ false
  pub minus_is : (words : Splitting) → Derives words (leaf tree) (written_under_minus tree)
  pub no_integer : is_integer (written_under_minus tree) ≡ false

abbrev SomeWritten : List Argument → Type 0
SomeWritten passed = ((first : Argument) × (others : List Argument) × (passed ≡ first ∷ others)) × Derives splittings.Nothing (some_arguments passed) (written_arguments (arguments_of passed))

abbrev SomeItems : Splitting → List ItemTree → Type 0
SomeItems w trees = ((first : ItemTree) × (others : List ItemTree) × (trees ≡ first ∷ others)) × Derives w (some_items trees) (written_body (body_of trees))

abbrev SomeTests : List Tree → Type 0
SomeTests trees = ((first : Tree) × (others : List Tree) × (trees ≡ first ∷ others)) × Derives splittings.Nothing (some_tests trees) (written_tests (tests_of trees))

abbrev written_choices : List Arm → Otherwise → Fragments
written_choices trees last = joined_choices (arms_of trees) last (written_arms (arms_of trees)) (written_remains last)

abbrev written_for_head : List ForClause → Option StopTree → Fragments
written_for_head trees stop = joined_clauses (for_clauses_of trees) (stop_of stop) (written_for (for_clauses_of trees)) (written_stop (stop_of stop))

abbrev pub written_rest_of : Listed → Fragments
written_rest_of found = next_joined found.next (rest_joined found.rest (written_keys (maybe_keys found.keys)))

abbrev pub written_listed : Listed → Fragments
written_listed found = required_joined found.required (written_rest_of found)

abbrev SomeFragments : Fragments → Type 0
SomeFragments fragments = (first : SeenFragment) × (rest : Fragments) × (fragments ≡ first ∷ rest)

-- what a parameter list is written as, with something in what stands behind the required ones, or a required one
abbrev ListedWritten : Listed → Type 0
ListedWritten found = Derives splittings.Nothing (listed found) (written_listed found) × ((found.required ≡ []) → SomeFragments (written_rest_of found))

abbrev LocalWritten : List LocalMethod → Type 0
LocalWritten trees = ((first : LocalMethod) × (others : List LocalMethod) × (trees ≡ first ∷ others)) × Derives splittings.Nothing (local_methods trees) (written_methods (methods_of trees))

abbrev pub Written : Splitting → Sort → Type 0
Written w (leaf tree) = Writes tree
Written w (operand tree) = Writes tree
Written w (signed tree) = Writes tree
Written w (level height tree) = Writes tree
Written w (expression tree) = Writes tree
Written w (argument passed) = Derives splittings.Nothing (argument passed) (written_argument passed)
Written w (some_arguments passed) = SomeWritten passed
Written w (arguments passed) = Derives splittings.Nothing (arguments passed) (written_arguments (arguments_of passed))
Written w (an_item tree) = Derives w (an_item tree) (written_item tree)
Written w (some_items trees) = SomeItems w trees
Written w (a_body trees) = Derives w (a_body trees) (written_body (body_of trees))
Written w (some_tests trees) = SomeTests trees
Written w (open_body trees) = Derives splittings.Nothing (open_body trees) (written_body (body_of trees))
Written w (choices single trees last) = Derives splittings.Nothing (choices single trees last) (written_choices trees last)
Written w (arms single trees last) = Derives splittings.Nothing (arms single trees last) (written_choices trees last)
Written w (head selected test) = Derives splittings.Tests (head selected test) (written selected ++ written_test (maybe_of test))
Written w (block_clauses trees) = Derives splittings.Endings (block_clauses trees) (written_clauses (block_clauses_of trees))
Written w (for_clause tree) = Derives splittings.Steps (for_clause tree) (written_for_clause tree)
Written w (range limit step) = Derives splittings.Steps (range limit step) (written_limit limit ++ written_step step)
Written w (for_clauses trees stop) = Derives splittings.Steps (for_clauses trees stop) (written_for_head trees stop)
Written w (for_head trees stop) = Derives splittings.Steps (for_head trees stop) (written_for_head trees stop)
Written w (ending_part last) = Derives splittings.LastPart (ending_part last) (written_finally last)
Written w (initial tree) = Derives splittings.Nothing (initial tree) (written_initial tree)
Written w (key tree) = Derives splittings.Nothing (key tree) (written_key tree)
Written w (more_keys trees takes_all) = Derives splittings.Nothing (more_keys trees takes_all) (keys_behind (keys_of trees) ++ written_all takes_all)
Written w (listed found) = ListedWritten found
Written w (brackets found) = Derives splittings.Nothing (brackets found) (written_listed found)
Written w (signature found results trees) = Derives splittings.Nothing (signature found results trees) (written_signature (parameters_of found results) ++ semicolon_mark ∷ written_body (body_of trees))
Written w (local_methods trees) = LocalWritten trees
Written w (alternatives trees last) = Derives splittings.Branches (alternatives trees last) (written_alternatives (alternatives_of trees) ++ written_otherwise last)

leaf_level : (words : Splitting) (height : ℕ) (tree : Tree) (fragments : Fragments) → Derives words (leaf tree) fragments → Derives words (level height tree) fragments
leaf_level words height tree fragments h = raised words 0 height tree fragments (omega arith) (signed_level words tree fragments (operand_signed words tree fragments (leaf_operand words tree fragments h)))

leaf_whole : (words : Splitting) (tree : Tree) (fragments : Fragments) → Derives words (leaf tree) fragments → Derives words (expression tree) fragments
leaf_whole words tree fragments h = level_expression words tree fragments (leaf_level words 5 tree fragments h)

signed_whole : (words : Splitting) (tree : Tree) (fragments : Fragments) → Derives words (signed tree) fragments → Derives words (expression tree) fragments
signed_whole words tree fragments h = level_expression words tree fragments (raised words 0 5 tree fragments (omega arith) (signed_level words tree fragments h))

operand_whole : (words : Splitting) (tree : Tree) (fragments : Fragments) → Derives words (operand tree) fragments → Derives words (expression tree) fragments
operand_whole words tree fragments h = signed_whole words tree fragments (operand_signed words tree fragments h)

below_five : (precedence : Precedence) → suc (below precedence) ≤ 5
below_five precedences.Power = omega arith
below_five precedences.Product = omega arith
below_five precedences.Sum = omega arith
below_five precedences.Comparison = omega arith
below_five precedences.Logical = omega arith

round_leaf : (words : Splitting) (tree : Tree) (fragments : Fragments) → Derives splittings.Nothing (expression tree) fragments → Derives words (leaf tree) (in_round fragments ∷ [])
round_leaf words tree fragments h = bracket_leaf words tree (mark (codes "(")) (pack fragments) (mark (codes ")")) tt (subst (Derives splittings.Nothing (expression tree)) (sym (row_pack fragments)) h)

round_front : (fragments rest : Fragments) → passes_two (in_round fragments ∷ rest) ≡ false
round_front fragments rest = refl

token_front : (token : Token) (rest : Fragments) → is_symbol (role_of token) ≡ false → passes_two (one token ∷ rest) ≡ false
token_front token [] e = refl
token_front token (second ∷ rest) e = rw e refl

-- a tree that is no leaf
compound : (tree : Tree) → operand_bracketed tree ≡ true → minus_bracketed tree ≡ true → Derives splittings.Nothing (expression tree) (plain tree) → ((words : Splitting) → Derives words (expression tree) (written tree)) → passes_two (written tree) ≡ false → Writes tree
compound tree o m h whole alone =
    record {
      whole_is = whole;
      alone = alone;
      operand_is = λ words. subst (λ (b : Bool). Derives words (leaf tree) (bracketed b (plain tree))) (sym o) (round_leaf words tree (plain tree) h);
      front = λ rest. ap (λ (b : Bool). passes_two (bracketed b (plain tree) ++ rest)) o ∙ round_front (plain tree) rest;
      minus_is = λ words. subst (λ (b : Bool). Derives words (leaf tree) (bracketed b (plain tree))) (sym m) (round_leaf words tree (plain tree) h);
      no_integer = ap (λ (b : Bool). is_integer (bracketed b (plain tree))) m;
    }

-- a leaf of one token, which needs no brackets, and is no integer
bare : (tree : Tree) (token : Token) → ((words : Splitting) → Derives words (leaf tree) (one token ∷ [])) → plain tree ≡ one token ∷ [] → splits_tree tree ≡ false → operand_bracketed tree ≡ false → minus_bracketed tree ≡ false
    → is_symbol (role_of token) ≡ false → is_integer_role (role_of token) ≡ false → Writes tree
bare tree token h p s o m no_symbol no_digits =
    let plainly : Derives splittings.Nothing (expression tree) (plain tree) = rw p (leaf_whole splittings.Nothing tree (one token ∷ []) (h splittings.Nothing)) in
    record {
      whole_is = λ words. rw (s, p) (leaf_whole words tree (one token ∷ []) (h words));
      alone = rw (s, p) refl;
      operand_is = λ words. rw (o, p) (h words);
      front = λ rest. rw (o, p) (token_front token rest no_symbol);
      minus_is = λ words. rw (m, p) (h words);
      no_integer = rw (m, p) no_digits;
    }

integer_writes : (token : Token) → role_of token ≡ roles.Integer → Writes (literal (positive token))
integer_writes token is =
    record {
      whole_is = λ words. leaf_whole words (literal (positive token)) (one token ∷ []) (integer_leaf words token is);
      alone = refl;
      operand_is = λ words. integer_leaf words token is;
      front = λ rest. token_front token rest (rw is refl);
      minus_is = λ words. round_leaf words (literal (positive token)) (one token ∷ []) (leaf_whole splittings.Nothing (literal (positive token)) (one token ∷ []) (integer_leaf splittings.Nothing token is));
      no_integer = refl;
    }

or_left : (a b : Bool) → (a || b) ≡ false → a ≡ false
or_left true b e = absurd cc
or_left false b e = refl

or_right : (a b : Bool) → (a || b) ≡ false → b ≡ false
or_right true b e = absurd cc
or_right false b e = e

splits_nothing : (token : Token) → splits splittings.Nothing token ≡ false
splits_nothing token = refl

-- a name that splits nothing
no_split : (words : Splitting) (token : Token) → splits_some token ≡ false → splits words token ≡ false
no_split splittings.Nothing token e = splits_nothing token
no_split splittings.Branches token e = or_left (splits splittings.Branches token) (splits splittings.Endings token) (or_left _ (splits splittings.LastPart token) (or_left _ (splits splittings.Steps token) (or_left _ (splits splittings.Tests token) e)))
no_split splittings.Endings token e = or_right (splits splittings.Branches token) (splits splittings.Endings token) (or_left _ (splits splittings.LastPart token) (or_left _ (splits splittings.Steps token) (or_left _ (splits splittings.Tests token) e)))
no_split splittings.LastPart token e = or_right (splits splittings.Branches token || splits splittings.Endings token) (splits splittings.LastPart token) (or_left _ (splits splittings.Steps token) (or_left _ (splits splittings.Tests token) e))
no_split splittings.Steps token e = or_right (splits splittings.Branches token || splits splittings.Endings token || splits splittings.LastPart token) (splits splittings.Steps token) (or_left _ (splits splittings.Tests token) e)
no_split splittings.Tests token e = or_right (splits splittings.Branches token || splits splittings.Endings token || splits splittings.LastPart token || splits splittings.Steps token) (splits splittings.Tests token) e

name_writes : (token : Token) (splitting : Bool) → splits_some token ≡ splitting → role_of token ≡ roles.Named → Writes (name token)
name_writes token true e is =
    let h = leaf_whole splittings.Nothing (name token) (one token ∷ []) (name_leaf splittings.Nothing token is (splits_nothing token)) in
    compound (name token) e e h (λ words. rw e (leaf_whole words (name token) (in_round (one token ∷ []) ∷ []) (round_leaf words (name token) (one token ∷ []) h))) (rw e refl)
name_writes token false e is = bare (name token) token (λ words. name_leaf words token is (no_split words token e)) refl e e e (rw is refl) (rw is refl)

member_derived : (words : Splitting) (object : Tree) (token : Token) → Writes object → role_of token ≡ roles.Named → splits words token ≡ false → Derives words (expression (member object token)) (plain (member object token))
member_derived words object token w is plainly =
    operand_whole words (member object token) (plain (member object token))
    (member_operand words object (mark (codes ".")) token (written_operand object) (plain (member object token)) refl refl is plainly (leaf_operand words object (written_operand object) (w.operand_is words)))

member_writes : (object : Tree) (token : Token) (splitting : Bool) → splits_some token ≡ splitting → role_of token ≡ roles.Named → Writes object → Writes (member object token)
member_writes object token true e is w =
    let h = member_derived splittings.Nothing object token w is (splits_nothing token) in
    compound (member object token) refl refl h
    (λ words. rw e (leaf_whole words (member object token) (in_round (plain (member object token)) ∷ []) (round_leaf words (member object token) (plain (member object token)) h))) (rw e refl)
member_writes object token false e is w =
    let h = member_derived splittings.Nothing object token w is (splits_nothing token) in
    compound (member object token) refl refl h (λ words. rw e (member_derived words object token w is (no_split words token e))) (rw e (w.front (dot_mark ∷ one token ∷ [])))

operator_front : (role : Role) → (precedence : Precedence) → precedence_of role ≡ Some precedence → is_symbol role ≡ false
operator_front roles.Symbol precedence e = absurd cc
operator_front role precedence e = refl

inner_arguments : (passed : List Argument) → Derives splittings.Nothing (arguments passed) (written_arguments (arguments_of passed)) → Derives splittings.Nothing (arguments passed) (row (pack (written_arguments (arguments_of passed))))
inner_arguments passed h = subst (Derives splittings.Nothing (arguments passed)) (sym (row_pack (written_arguments (arguments_of passed)))) h

inner_tree : (tree : Tree) → Derives splittings.Nothing (expression tree) (written tree) → Derives splittings.Nothing (expression tree) (row (pack (written tree)))
inner_tree tree h = subst (Derives splittings.Nothing (expression tree)) (sym (row_pack (written tree))) h

minus_role : (role : Role) → role ≡ roles.Minus → is_minus_role role ≡ true
minus_role role e = rw e refl

rest_more : (others : List Argument) (last : Argument) → written_rest (arguments_of (others ++ last ∷ [])) ≡ written_rest (arguments_of others) ++ comma_mark ∷ written_argument last
rest_more [] last = ap (λ (fs : Fragments). comma_mark ∷ fs) (append-nil (written_argument last))
rest_more (first ∷ others) last =
    ap (λ (fs : Fragments). comma_mark ∷ fs) (ap (λ (fs : Fragments). written_argument first ++ fs) (rest_more others last) ∙ sym (append_assoc (written_argument first) (written_rest (arguments_of others)) (comma_mark ∷ written_argument last)))

arguments_more : (passed : List Argument) (first : Argument) (others : List Argument) (last : Argument) → passed ≡ first ∷ others
    → written_arguments (arguments_of (passed ++ last ∷ [])) ≡ written_arguments (arguments_of passed) ++ comma_mark ∷ written_argument last
arguments_more passed first others last e =
    rw e (ap (λ (fs : Fragments). written_argument first ++ fs) (rest_more others last) ∙ sym (append_assoc (written_argument first) (written_rest (arguments_of others)) (comma_mark ∷ written_argument last)))

-- a leaf that is a group
bare_group : (tree : Tree) (opener : Token) (inner : SeenFragments) (closer : Token) → ((words : Splitting) → Derives words (leaf tree) (group opener inner closer ∷ [])) → plain tree ≡ group opener inner closer ∷ [] → splits_tree tree ≡ false → operand_bracketed tree ≡ false → minus_bracketed tree ≡ false → Writes tree
bare_group tree opener inner closer h p s o m =
    record {
      whole_is = λ words. rw (s, p) (leaf_whole words tree (group opener inner closer ∷ []) (h words));
      alone = rw (s, p) refl;
      operand_is = λ words. rw (o, p) (h words);
      front = λ rest. rw (o, p) refl;
      minus_is = λ words. rw (m, p) (h words);
      no_integer = rw (m, p) refl;
    }

-- a statement that is written between its word and an `end`
statement_writes : (tree : Tree) (opener closer : Token) (kind : Keyword) (inside : Fragments) → bracket_of opener closer ≡ enclosures.Statement kind
    → ((words : Splitting) (inner : SeenFragments) (end : Token) → bracket_of opener end ≡ enclosures.Statement kind → row inner ≡ inside → Derives words (leaf tree) (group opener inner end ∷ []))
    → plain tree ≡ statement_group opener inside ∷ [] → splits_tree tree ≡ false → operand_bracketed tree ≡ false → minus_bracketed tree ≡ false → Writes tree
statement_writes tree opener closer kind inside is h p s o m =
    bare_group tree opener (pack inside) (made kinds.Name (codes "end")) (λ words. h words (pack inside) (made kinds.Name (codes "end")) (statement_closed (begun_by opener) closer kind is) (row_pack inside)) p s o m

-- an expression in round brackets, as it is written
row_written : (tree : Tree) → Derives splittings.Nothing (expression tree) (written tree) → Derives splittings.Nothing (expression tree) (row (pack (written tree)))
row_written tree h = subst (Derives splittings.Nothing (expression tree)) (sym (row_pack (written tree))) h

more_items_written : (words : Splitting) (tree : ItemTree) (others : List ItemTree) → SomeItems words others → Derives words (an_item tree) (written_item tree) → Derives words (some_items (tree ∷ others)) (written_body (body_of (tree ∷ others)))
more_items_written words tree others ((first, rest, e), h) k =
    more_items words tree others (mark (codes ";")) (written_item tree) (written_body (body_of others)) (written_body (body_of (tree ∷ others)))
    (ap (λ (list : List ItemTree). written_item tree ++ items_behind (body_of list)) e ∙ ap (λ (list : List ItemTree). written_item tree ++ semicolon_mark ∷ written_body (body_of list)) (sym e)) refl k h

more_tests_written : (tree : Tree) (others : List Tree) → SomeTests others → Derives splittings.Nothing (expression tree) (written tree) → Derives splittings.Nothing (some_tests (tree ∷ others)) (written_tests (tests_of (tree ∷ others)))
more_tests_written tree others ((first, rest, e), h) k =
    more_tests tree others (mark (codes ",")) (written tree) (written_tests (tests_of others)) (written_tests (tests_of (tree ∷ others)))
    (ap (λ (list : List Tree). written tree ++ tests_behind (tests_of list)) e ∙ ap (λ (list : List Tree). written tree ++ comma_mark ∷ written_tests (tests_of list)) (sym e)) refl k h

abbrev first_arm : List Tree → List ItemTree → Fragments → Fragments
first_arm trees entries after = written_tests (tests_of trees) ++ arrow_mark ∷ (written_body (body_of entries) ++ after)

arm_and_after : (trees : List Tree) (entries : List ItemTree) (after : Fragments) → written_arm (arm (tests_of trees) (body_of entries)) ++ after ≡ first_arm trees entries after
arm_and_after trees entries after = append_assoc (written_tests (tests_of trees)) (arrow_mark ∷ written_body (body_of entries)) after

arms_joined : (trees : List Tree) (entries : List ItemTree) (others : List Arm) (last : Otherwise) → (others ≡ [] → last ≡ no_otherwise → ⊥) → written_choices (arm (tests_of trees) (body_of entries) ∷ others) last ≡ first_arm trees entries (semicolon_mark ∷ written_choices others last)
arms_joined trees entries [] no_otherwise some = absurd (some refl refl)
arms_joined trees entries [] (otherwise body) some =
    append_assoc (written_arm (arm (tests_of trees) (body_of entries))) [] (semicolon_mark ∷ written_remains (otherwise body)) ∙ arm_and_after trees entries (semicolon_mark ∷ written_remains (otherwise body))
arms_joined trees entries (second ∷ others) no_otherwise some = arm_and_after trees entries (semicolon_mark ∷ written_arms (arms_of (second ∷ others)))
arms_joined trees entries (second ∷ others) (otherwise body) some =
    append_assoc (written_arm (arm (tests_of trees) (body_of entries))) (semicolon_mark ∷ written_arms (arms_of (second ∷ others))) (semicolon_mark ∷ written_remains (otherwise body))
    ∙ arm_and_after trees entries (semicolon_mark ∷ (written_arms (arms_of (second ∷ others)) ++ semicolon_mark ∷ written_remains (otherwise body)))

clauses_joined : (tree : ForClause) (others : List ForClause) (stop : Option StopTree) → (others ≡ [] → stop ≡ None → ⊥) → written_for_head (tree ∷ others) stop ≡ written_for_clause tree ++ comma_mark ∷ written_for_head others stop
clauses_joined tree [] None some = absurd (some refl refl)
clauses_joined tree [] (Some stop) some = ap (λ (fs : Fragments). fs ++ comma_mark ∷ written_stop (stop_of (Some stop))) (append-nil (written_for_clause tree))
clauses_joined tree (second ∷ others) None some = refl
clauses_joined tree (second ∷ others) (Some stop) some = append_assoc (written_for_clause tree) (comma_mark ∷ written_for (for_clauses_of (second ∷ others))) (comma_mark ∷ written_stop (stop_of (Some stop)))

no_more_clauses : (trees : List ForClause) (stop : Option StopTree) (fragments : Fragments) → Derives splittings.Steps (for_clauses trees stop) fragments → trees ≡ [] → stop ≡ None → ⊥
no_more_clauses trees stop fragments (last_clause tree all h) e f = cc
no_more_clauses trees stop fragments (only_stop word test after is h) e f = cc
no_more_clauses trees stop fragments (more_clauses tree others last separator before after all parts is h k) e f = cc

exit_writes : (exit : Option Token) (fragments : Fragments) → IsExit exit fragments → IsExit exit (written_exit exit)
exit_writes exit fragments no_exit = no_exit
exit_writes exit fragments (an_exit token is) = an_exit token is

caught_writes : (variable : Option Token) (condition : TypeTree) (fragments : Fragments) → Catches variable condition fragments → Catches variable condition (written_caught variable condition)
caught_writes variable condition fragments (without_variable type all h) = without_variable condition (written_type condition) (type_writes condition all h)
caught_writes variable condition fragments (with_variable token sign type after is colon h) = with_variable token (mark (codes "::")) condition (written_type condition) is refl (type_writes condition after h)

required_more : (required : RequiredTree) (others : List RequiredTree) (rest : Fragments) → ((others ≡ []) → SomeFragments rest) → required_joined (required ∷ others) rest ≡ written_required required ++ comma_mark ∷ required_joined others rest
required_more required [] rest some = go rest (some refl)
  where
    go : (fragments : Fragments) → SomeFragments fragments → required_joined (required ∷ []) fragments ≡ written_required required ++ comma_mark ∷ fragments
    go [] (first, more, e) = absurd cc
    go (x ∷ fragments) h = refl
required_more required (second ∷ others) rest some = refl

more_required_written : (required : RequiredTree) (found : Listed) → ListedWritten found → IsRequired required (written_required required) → ListedWritten (list_of (required ∷ found.required) found.next found.rest found.keys)
more_required_written required found (h, some) k =
    (more_required required found (mark (codes ",")) (written_required required) (written_listed found) _ (required_more required found.required (written_rest_of found) some) refl k h, λ e. absurd cc)

next_more : (token : Token) (fragments : Fragments) → SomeFragments fragments → next_joined (Some token) fragments ≡ next_mark ∷ one token ∷ comma_mark ∷ fragments
next_more token [] (first, rest, e) = absurd cc
next_more token (x ∷ fragments) h = refl

rest_more_is : (token : Token) (fragments : Fragments) → SomeFragments fragments → rest_joined (Some token) fragments ≡ rest_mark ∷ one token ∷ comma_mark ∷ fragments
rest_more_is token [] (first, rest, e) = absurd cc
rest_more_is token (x ∷ fragments) h = refl

more_next_written : (token : Token) (rest : Option Token) (keys : Option KeysTree) → role_of token ≡ roles.Named → ListedWritten (list_of [] None rest keys) → ListedWritten (list_of [] (Some token) rest keys)
more_next_written token rest keys is (h, some) =
    let same = next_more token (written_rest_of (list_of [] None rest keys)) (some refl) in (
      subst (Derives splittings.Nothing (listed (list_of [] (Some token) rest keys))) (sym same) (more_next (made kinds.Mark (codes "#next")) token (mark (codes ",")) rest keys (written_listed (list_of [] None rest keys)) refl is refl h),
      λ e. (next_mark, one token ∷ comma_mark ∷ written_rest_of (list_of [] None rest keys), same),
    )

more_rest_written : (token : Token) (keys : Option KeysTree) → role_of token ≡ roles.Named → ListedWritten (list_of [] None None keys) → ListedWritten (list_of [] None (Some token) keys)
more_rest_written token keys is (h, some) =
    let same = rest_more_is token (written_rest_of (list_of [] None None keys)) (some refl) in (
      subst (Derives splittings.Nothing (listed (list_of [] None (Some token) keys))) (sym same) (more_rest (made kinds.Mark (codes "#rest")) token (mark (codes ",")) keys (written_listed (list_of [] None None keys)) refl is refl h),
      λ e. (rest_mark, one token ∷ comma_mark ∷ written_rest_of (list_of [] None None keys), same),
    )

key_label : (label : Option Token) (variable : VariableTree) (default : MaybeTree) (fragments : Fragments) → Derives splittings.Nothing (key (a_key label variable default)) fragments → written_key (a_key label variable default) ≡ written_label label (written_variable variable ++ written_initial default)
key_label label variable default fragments h = refl

method_group : (found : Listed) (results : Option ResultTree) (trees : List ItemTree) (opener token : Token) (closer : Token) → bracket_of opener closer ≡ enclosures.Statement keywords.Method → role_of token ≡ roles.Named
    → Derives splittings.Nothing (signature found results trees) (written_signature (parameters_of found results) ++ semicolon_mark ∷ written_body (body_of trees))
    → Derives splittings.Nothing (local_methods (local_method opener token (parameters_of found results) (body_of trees) ∷ [])) (written_method (local_method opener token (parameters_of found results) (body_of trees)) ∷ [])
method_group found results trees opener token closer is role h =
    let inside : Fragments = written_signature (parameters_of found results) ++ semicolon_mark ∷ written_body (body_of trees) in
    last_method found results trees opener token (pack (one token ∷ inside)) (made kinds.Name (codes "end")) inside (statement_closed (begun_by opener) closer keywords.Method is) (row_pack (one token ∷ inside)) role h

methods_more : (tree : LocalMethod) (others : List LocalMethod) → ((first : LocalMethod) × (rest : List LocalMethod) × (others ≡ first ∷ rest)) → written_methods (methods_of (tree ∷ others)) ≡ written_method tree ∷ comma_mark ∷ written_methods (methods_of others)
methods_more tree others (first, rest, e) = ap (λ (ms : List LocalMethod). written_method tree ∷ methods_behind (methods_of ms)) e ∙ ap (λ (ms : List LocalMethod). written_method tree ∷ comma_mark ∷ written_methods (methods_of ms)) (sym e)

pub writes : (words : Splitting) (sort : Sort) (fragments : List SeenFragment) → Derives words sort fragments → Written words sort
writes words sort fragments (integer_leaf w token is) = integer_writes token is
writes words sort fragments (character_leaf w token is) = bare (literal (literals.Char token)) token (λ v. character_leaf v token is) refl refl refl refl (rw is refl) (rw is refl)
writes words sort fragments (string_leaf w token is) = bare (literal (literals.Str token)) token (λ v. string_leaf v token is) refl refl refl refl (rw is refl) (rw is refl)
writes words sort fragments (boolean_leaf w token is) = bare (literal (literals.Bool token)) token (λ v. boolean_leaf v token is) refl refl refl refl (rw is refl) (rw is refl)
writes words sort fragments (symbol_leaf w token is) =
    compound (literal (literals.Symbol token)) refl refl (leaf_whole splittings.Nothing (literal (literals.Symbol token)) (one token ∷ []) (symbol_leaf splittings.Nothing token is)) (λ v. leaf_whole v (literal (literals.Symbol token)) (one token ∷ []) (symbol_leaf v token is)) refl
writes words sort fragments (name_leaf w token is plainly) = name_writes token (splits_some token) refl is
writes words sort fragments (list_leaf w items last opener inner closer is h) =
    let inside : Fragments = written_items (constants_of items) ++ written_tail (tail_of last) in
    bare_group (list opener (constants_of items) (tail_of last)) opener (pack inside) (mark (codes ")"))
    (λ v. list_leaf v items last opener (pack inside) (mark (codes ")")) (list_closed (begun_by opener) closer is) (subst (IsConstant (in_list items last)) (sym (row_pack inside)) (constant_writes (in_list items last) (row inner) h)))
    refl refl refl refl
writes words sort fragments (vector_leaf w items opener inner closer is h) =
    let inside : Fragments = written_items (constants_of items) in
    bare_group (vector opener (constants_of items)) opener (pack inside) (mark (codes "]"))
    (λ v. vector_leaf v items opener (pack inside) (mark (codes "]")) (vector_closed (begun_by opener) closer is) (subst (IsConstant (in_vector items)) (sym (row_pack inside)) (constant_writes (in_vector items) (row inner) h)))
    refl refl refl refl
writes words sort fragments (begin_leaf w trees opener inner closer is h) =
    let b = writes splittings.Nothing (a_body trees) (row inner) h in
    statement_writes (begin_tree opener (body_of trees)) opener closer keywords.Begin (written_body (body_of trees)) is
    (λ v within end ends parts. begin_leaf v trees opener within end ends (subst (Derives splittings.Nothing (a_body trees)) (sym parts) b)) refl refl refl refl
writes words sort fragments (guarded_leaf w guard test trees opener inner closer left tested right after is parts is_round h k) =
    let t = (writes splittings.Nothing (expression test) (row tested) h).whole_is splittings.Nothing in
    let b = writes splittings.Nothing (a_body trees) after k in
    statement_writes (guarded guard opener test (body_of trees)) opener closer (keywords.Guard guard) (in_round (written test) ∷ written_body (body_of trees)) is
    (λ v within end ends same. guarded_leaf v guard test trees opener within end (mark (codes "(")) (pack (written test)) (mark (codes ")")) (written_body (body_of trees)) ends same refl (row_written test t) b) refl refl refl refl
writes words sort fragments (if_leaf w test trees others last opener inner closer left tested right first second is parts is_round h k m) =
    let t = (writes splittings.Nothing (expression test) (row tested) h).whole_is splittings.Nothing in
    let b = writes splittings.Branches (a_body trees) first k in
    let o = writes splittings.Branches (alternatives others last) second m in
    let behind : Fragments = written_alternatives (alternatives_of others) ++ written_otherwise last in
    statement_writes (if_tree opener test (body_of trees) (alternatives_of others) last) opener closer keywords.If (in_round (written test) ∷ (written_body (body_of trees) ++ behind)) is
    (λ v within end ends same. if_leaf v test trees others last opener within end (mark (codes "(")) (pack (written test)) (mark (codes ")")) (written_body (body_of trees)) behind ends same refl (row_written test t) b o) refl refl refl refl
writes words sort fragments (case_leaf w trees last opener inner closer is h) =
    let a = writes splittings.Nothing (arms true trees last) (row inner) h in
    statement_writes (case_tree opener (arms_of trees) last) opener closer keywords.Case (written_choices trees last) is
    (λ v within end ends parts. case_leaf v trees last opener within end ends (subst (Derives splittings.Nothing (arms true trees last)) (sym parts) a)) refl refl refl refl
writes words sort fragments (select_leaf w selected test trees last opener inner closer left headed right after is parts is_round h k) =
    let t = writes splittings.Tests (head selected test) (row headed) h in
    let a = writes splittings.Nothing (arms false trees last) after k in
    let inside : Fragments = written selected ++ written_test (maybe_of test) in
    statement_writes (select_tree opener selected (maybe_of test) (arms_of trees) last) opener closer keywords.Select (in_round inside ∷ written_choices trees last) is
    (λ v within end ends same. select_leaf v selected test trees last opener within end (mark (codes "(")) (pack inside) (mark (codes ")")) (written_choices trees last) ends same refl (subst (Derives splittings.Tests (head selected test)) (sym (row_pack inside)) t) a) refl refl refl refl
writes words sort fragments (block_leaf w exit trees clauses opener inner closer left within right first second is parts is_round x suits h k) =
    let b = writes splittings.Endings (a_body trees) first h in
    let c = writes splittings.Endings (block_clauses clauses) second k in
    statement_writes (block_tree opener exit (body_of trees) (block_clauses_of clauses)) opener closer keywords.Block (in_round (written_exit exit) ∷ (written_body (body_of trees) ++ written_clauses (block_clauses_of clauses))) is
    (λ v inside end ends same. block_leaf v exit trees clauses opener inside end (mark (codes "(")) (pack (written_exit exit)) (mark (codes ")")) (written_body (body_of trees)) (written_clauses (block_clauses_of clauses)) ends same refl
    (subst (IsExit exit) (sym (row_pack (written_exit exit))) (exit_writes exit (row within) x)) suits b c) refl refl refl refl
writes words sort fragments (for_leaf w clauses stop trees last opener inner closer left within right first second is parts is_round h k m) =
    let c = writes splittings.Steps (for_head clauses stop) (row within) h in
    let b = writes splittings.LastPart (a_body trees) first k in
    let f = writes splittings.LastPart (ending_part last) second m in
    statement_writes (for_tree opener (for_clauses_of clauses) (stop_of stop) (body_of trees) last) opener closer keywords.For (in_round (written_for_head clauses stop) ∷ (written_body (body_of trees) ++ written_finally last)) is
    (λ v inside end ends same. for_leaf v clauses stop trees last opener inside end (mark (codes "(")) (pack (written_for_head clauses stop)) (mark (codes ")")) (written_body (body_of trees)) (written_finally last) ends same refl
    (subst (Derives splittings.Steps (for_head clauses stop)) (sym (row_pack (written_for_head clauses stop))) c) b f) refl refl refl refl
writes words sort fragments (method_leaf w found results trees opener inner closer is h) =
    let s = writes splittings.Nothing (signature found results trees) (row inner) h in
    statement_writes (method_tree opener (parameters_of found results) (body_of trees)) opener closer keywords.Method (written_signature (parameters_of found results) ++ semicolon_mark ∷ written_body (body_of trees)) is
    (λ v inside end ends same. method_leaf v found results trees opener inside end ends (subst (Derives splittings.Nothing (signature found results trees)) (sym same) s)) refl refl refl refl
writes words sort fragments (bracket_leaf w tree opener inner closer is h) = writes splittings.Nothing (expression tree) (row inner) h
writes words sort fragments (leaf_operand w tree all h) = writes w (leaf tree) all h
writes words sort fragments (call_operand w function passed before all opener inner closer parts is h k) =
    let f = writes w (operand function) before h in
    let p = inner_arguments passed (writes splittings.Nothing (arguments passed) (row inner) k) in
    let tree : Tree = call function (arguments_of passed) in
    let d : (v : Splitting) → Derives v (expression tree) (plain tree) =
    λ v. operand_whole v tree (plain tree) (call_operand v function passed (written_operand function) (plain tree) (mark (codes "(")) (pack (written_arguments (arguments_of passed))) (mark (codes ")")) refl refl
    (leaf_operand v function (written_operand function) (f.operand_is v)) p) in
    compound tree refl refl (d splittings.Nothing) d (f.front (in_round (written_arguments (arguments_of passed)) ∷ []))
writes words sort fragments (element_operand w object index before all opener inner closer parts is h k) =
    let f = writes w (operand object) before h in
    let p = inner_tree index ((writes splittings.Nothing (expression index) (row inner) k).whole_is splittings.Nothing) in
    let tree : Tree = element object opener index in
    let d : (v : Splitting) → Derives v (expression tree) (plain tree) =
    λ v. operand_whole v tree (plain tree) (element_operand v object index (written_operand object) (plain tree) opener (pack (written index)) (mark (codes "]")) refl (square_closed (begun_by opener) closer is)
    (leaf_operand v object (written_operand object) (f.operand_is v)) p) in
    compound tree refl refl (d splittings.Nothing) d (f.front (square_group opener (written index) ∷ []))
writes words sort fragments (member_operand w object point token before all parts is_dot is plainly h) = member_writes object token (splits_some token) refl is (writes w (operand object) before h)
writes words sort fragments (operand_signed w tree all h) = writes w (operand tree) all h
writes words sort fragments (negative_signed w sign digits is_minus is) =
    let d : (v : Splitting) → Derives v (expression (literal (negative sign digits))) (one sign ∷ one digits ∷ []) =
    λ v. signed_whole v (literal (negative sign digits)) (one sign ∷ one digits ∷ []) (negative_signed v sign digits is_minus is) in
    compound (literal (negative sign digits)) refl refl (d splittings.Nothing) d (token_front sign (one digits ∷ []) (rw is_minus refl))
writes words sort fragments (minus_signed w sign tree after is plainly h) =
    let t = writes w (signed tree) after h in
    let d : (v : Splitting) → Derives v (expression (unary sign tree)) (plain (unary sign tree)) =
    λ v. rw is (signed_whole v (unary sign tree) (one sign ∷ written_under_minus tree) (minus_signed v sign tree (written_under_minus tree) is t.no_integer (operand_signed v tree (written_under_minus tree) (leaf_operand v tree (written_under_minus tree) (t.minus_is v))))) in
    compound (unary sign tree) refl refl (d splittings.Nothing) d (token_front sign (bracketed (unary_bracketed (is_minus_role (role_of sign)) tree) (plain tree)) (rw is refl))
writes words sort fragments (tilde_signed w sign tree after is h) =
    let t = writes w (signed tree) after h in
    let d : (v : Splitting) → Derives v (expression (unary sign tree)) (plain (unary sign tree)) =
    λ v. rw is (signed_whole v (unary sign tree) (one sign ∷ written_operand tree) (tilde_signed v sign tree (written_operand tree) is (operand_signed v tree (written_operand tree) (leaf_operand v tree (written_operand tree) (t.operand_is v))))) in
    compound (unary sign tree) refl refl (d splittings.Nothing) d (token_front sign (bracketed (unary_bracketed (is_minus_role (role_of sign)) tree) (plain tree)) (rw is refl))
writes words sort fragments (signed_level w tree all h) = writes w (signed tree) all h
writes words sort fragments (up_level w height tree all h) = writes w (level height tree) all h
writes words sort fragments (operation_level w precedence left right sign before after all parts is h k) =
    let l = writes w (level (suc (below precedence)) left) before h in
    let r = writes w (level (below precedence) right) after k in
    let tree : Tree = operation precedence left sign right in
    let d : (v : Splitting) → Derives v (expression tree) (plain tree) =
    λ v. level_expression v tree (plain tree) (raised v (suc (below precedence)) 5 tree (plain tree) (below_five precedence)
    (operation_level v precedence left right sign (written_operand left) (written_operand right) (plain tree) refl is
    (leaf_level v (suc (below precedence)) left (written_operand left) (l.operand_is v)) (leaf_level v (below precedence) right (written_operand right) (r.operand_is v)))) in
    compound tree refl refl (d splittings.Nothing) d (l.front (one sign ∷ written_operand right))
writes words sort fragments (level_expression w tree all h) = writes w (level 5 tree) all h
writes words sort fragments (assignment_expression w place assigned sign before after all parts is h k) =
    let l = writes w (level 5 place) before h in
    let r = writes w (expression assigned) after k in
    let tree : Tree = assignment place assigned in
    let d : (v : Splitting) → Derives v (expression tree) (plain tree) =
    λ v. assignment_expression v place assigned (made kinds.Operator (codes ":=")) (written_operand place) (written_operand assigned) (plain tree) refl refl
    (leaf_level v 5 place (written_operand place) (l.operand_is v)) (leaf_whole v assigned (written_operand assigned) (r.operand_is v)) in
    compound tree refl refl (d splittings.Nothing) d (l.front (assigns_mark ∷ written_operand assigned))
writes words sort fragments (keyword_argument token tree after is h) = keyword_argument token tree (written tree) is ((writes splittings.Nothing (expression tree) after h).whole_is splittings.Nothing)
writes words sort fragments (value_argument tree all two h) = let t = writes splittings.Nothing (expression tree) all h in value_argument tree (written tree) t.alone (t.whole_is splittings.Nothing)
writes words sort fragments (one_argument passed all h) =
    ((passed, [], refl), one_argument passed (written_argument passed ++ []) (subst (Derives splittings.Nothing (argument passed)) (sym (append-nil (written_argument passed))) (writes splittings.Nothing (argument passed) all h)))
writes words sort fragments (more_arguments passed last separator before after all parts is h k) =
    let ((first, others, some), p) = writes splittings.Nothing (some_arguments passed) before h in
    let l = writes splittings.Nothing (argument last) after k in (
      (first, others ++ last ∷ [], ap (λ (more : List Argument). more ++ last ∷ []) some),
      subst (Derives splittings.Nothing (some_arguments (passed ++ last ∷ []))) (sym (arguments_more passed first others last some))
          (more_arguments passed last (mark (codes ",")) (written_arguments (arguments_of passed)) (written_argument last) (written_arguments (arguments_of passed) ++ comma_mark ∷ written_argument last) refl refl p l),
    )
writes words sort fragments no_arguments = no_arguments
writes words sort fragments (all_arguments passed all h) = all_arguments passed (written_arguments (arguments_of passed)) (writes splittings.Nothing (some_arguments passed) all h).1
writes words sort fragments (by_expression w tree all h) = by_expression w tree (written tree) ((writes w (expression tree) all h).whole_is w)
writes words sort fragments (last_item w tree all h) =
    ((tree, [], refl), last_item w tree (written_item tree ++ []) (subst (Derives w (an_item tree)) (sym (append-nil (written_item tree))) (writes w (an_item tree) all h)))
writes words sort fragments (more_items w tree others separator before after all parts is h k) =
    let i = writes w (an_item tree) before h in
    let r = writes w (some_items others) after k in
    ((tree, others, refl), more_items_written w tree others r i)
writes words sort fragments (empty_body w) = empty_body w
writes words sort fragments (separator_body w separator is) = empty_body w
writes words sort fragments (items_body w trees all h) = items_body w trees (written_body (body_of trees)) (writes w (some_items trees) all h).1
writes words sort fragments (ended_body w trees separator before all parts is h) = items_body w trees (written_body (body_of trees)) (writes w (some_items trees) before h).1
writes words sort fragments no_alternatives = no_alternatives
writes words sort fragments (by_else trees word after is h) = by_else trees (made kinds.Name (codes "else")) (written_body (body_of trees)) refl (writes splittings.Branches (a_body trees) after h)
writes words sort fragments (more_alternatives test trees others last word left tested right first second all parts is is_round h k m) =
    let t = (writes splittings.Nothing (expression test) (row tested) h).whole_is splittings.Nothing in
    let b = writes splittings.Branches (a_body trees) first k in
    let o = writes splittings.Branches (alternatives others last) second m in
    more_alternatives test trees others last (made kinds.Name (codes "elseif")) (mark (codes "(")) (pack (written test)) (mark (codes ")")) (written_body (body_of trees)) (written_alternatives (alternatives_of others) ++ written_otherwise last) _
    (ap (λ (fs : Fragments). word_mark (codes "elseif") ∷ in_round (written test) ∷ fs) (append_assoc (written_body (body_of trees)) (written_alternatives (alternatives_of others)) (written_otherwise last))) refl refl (row_written test t) b o
writes words sort fragments (by_let w word equals target assigned before after all parts role is t plainly h) =
    by_let w word (made kinds.Operator (codes "=")) target assigned (written_target target) (written assigned) _ refl role refl (target_writes target before t) (target_plain w target before t plainly) ((writes w (expression assigned) after h).whole_is w)
writes words sort fragments (by_handler w word second equals condition handler before after all parts role also is t plainly h) =
    by_handler w word (made kinds.Name (codes "handler")) (made kinds.Operator (codes "=")) condition handler (written_type condition) (written handler) _ refl role refl refl (type_writes condition before t)
    (ap not (type_splits w condition before t) ∙ plainly) ((writes w (expression handler) after h).whole_is w)
writes words sort fragments (one_test tree all h) =
    ((tree, [], refl), one_test tree (written tree ++ []) (subst (Derives splittings.Nothing (expression tree)) (sym (append-nil (written tree))) ((writes splittings.Nothing (expression tree) all h).whole_is splittings.Nothing)))
writes words sort fragments (more_tests tree others separator before after all parts is h k) =
    ((tree, others, refl), more_tests_written tree others (writes splittings.Nothing (some_tests others) after k) ((writes splittings.Nothing (expression tree) before h).whole_is splittings.Nothing))
writes words sort fragments empty_open = empty_open
writes words sort fragments (items_open trees all h) = items_open trees (written_body (body_of trees)) (writes splittings.Nothing (some_items trees) all h).1
writes words sort fragments (last_arm single trees entries sign before after all parts is fit h k) =
    last_arm single trees entries (mark (codes "=>")) (written_tests (tests_of trees)) (written_body (body_of entries)) _ (append-nil (written_arm (arm (tests_of trees) (body_of entries)))) refl fit (writes splittings.Nothing (some_tests trees) before h).1 (writes splittings.Nothing (open_body entries) after k)
writes words sort fragments (more_arms single trees entries others last sign separator before middle after all parts is semi fit h k m) =
    more_arms single trees entries others last (mark (codes "=>")) (mark (codes ";")) (written_tests (tests_of trees)) (written_body (body_of entries)) (written_choices others last) _
    (arms_joined trees entries others last (no_more_choices single others last after m)) refl refl fit (writes splittings.Nothing (some_tests trees) before h).1 (writes splittings.Nothing (open_body entries) middle k) (writes splittings.Nothing (choices single others last) after m)
writes words sort fragments (last_choice single entries word after is h) = last_choice single entries (made kinds.Name (codes "otherwise")) (written_body (body_of entries)) refl (writes splittings.Nothing (open_body entries) after h)
writes words sort fragments (last_choice_arrow single entries word sign after is also h) = last_choice single entries (made kinds.Name (codes "otherwise")) (written_body (body_of entries)) refl (writes splittings.Nothing (open_body entries) after h)
writes words sort fragments (no_arms single) = no_arms single
writes words sort fragments (some_arms single trees last all h) = some_arms single trees last (written_choices trees last) (writes splittings.Nothing (choices single trees last) all h)
writes words sort fragments (ended_arms single trees last separator before all parts is h) = some_arms single trees last (written_choices trees last) (writes splittings.Nothing (choices single trees last) before h)
writes words sort fragments (by_identity selected all h) = by_identity selected (written selected ++ []) (subst (Derives splittings.Tests (expression selected)) (sym (append-nil (written selected))) ((writes splittings.Tests (expression selected) all h).whole_is splittings.Tests))
writes words sort fragments (by_test selected test word before after all parts is h k) =
    by_test selected test (made kinds.Name (codes "by")) (written selected) (written test) _ refl refl ((writes splittings.Tests (expression selected) before h).whole_is splittings.Tests) ((writes splittings.Tests (expression test) after k).whole_is splittings.Tests)
writes words sort fragments no_block_clause = no_block_clause
writes words sort fragments (by_afterwards trees others word first second all parts is h k) =
    by_afterwards trees others (made kinds.Name (codes "afterwards")) (written_body (body_of trees)) (written_clauses (block_clauses_of others)) _ refl refl (writes splittings.Endings (a_body trees) first h) (writes splittings.Endings (block_clauses others) second k)
writes words sort fragments (by_cleanup trees others word first second all parts is h k) =
    by_cleanup trees others (made kinds.Name (codes "cleanup")) (written_body (body_of trees)) (written_clauses (block_clauses_of others)) _ refl refl (writes splittings.Endings (a_body trees) first h) (writes splittings.Endings (block_clauses others) second k)
writes words sort fragments (by_exception variable condition trees others word left within right first second all parts is is_round c h k) =
    by_exception variable condition trees others (made kinds.Name (codes "exception")) (mark (codes "(")) (pack (written_caught variable condition)) (mark (codes ")")) (written_body (body_of trees)) (written_clauses (block_clauses_of others)) _ refl refl refl
    (subst (Catches variable condition) (sym (row_pack (written_caught variable condition))) (caught_writes variable condition (row within) c)) (writes splittings.Endings (a_body trees) first h) (writes splittings.Endings (block_clauses others) second k)
writes words sort fragments (by_then variable first next equals word before middle after all parts is role v plainly h k) =
    by_then variable first next (made kinds.Operator (codes "=")) (made kinds.Name (codes "then")) (written_variable variable) (written first) (written next) _ refl refl refl (variable_writes variable before v) (variable_plain splittings.Steps variable before v plainly)
    ((writes splittings.Steps (expression first) middle h).whole_is splittings.Steps) ((writes splittings.Steps (expression next) after k).whole_is splittings.Steps)
writes words sort fragments (by_in variable collection word before after all parts is v plainly h) =
    by_in variable collection (made kinds.Name (codes "in")) (written_variable variable) (written collection) _ refl refl (variable_writes variable before v) (variable_plain splittings.Steps variable before v plainly) ((writes splittings.Steps (expression collection) after h).whole_is splittings.Steps)
writes words sort fragments (by_from variable start limit step word before middle after all parts is v plainly h k) =
    by_from variable start limit step (made kinds.Name (codes "from")) (written_variable variable) (written start) (written_limit limit ++ written_step step) _ refl refl (variable_writes variable before v) (variable_plain splittings.Steps variable before v plainly)
    ((writes splittings.Steps (expression start) middle h).whole_is splittings.Steps) (writes splittings.Steps (range limit step) after k)
writes words sort fragments no_range = no_range
writes words sort fragments (step_range tree word after is h) = step_range tree (made kinds.Name (codes "by")) (written tree) refl ((writes splittings.Steps (expression tree) after h).whole_is splittings.Steps)
writes words sort fragments (limit_range bound step word first second all parts is h k) = limit_range bound step word (written bound) (written_step step) _ refl is ((writes splittings.Steps (expression bound) first h).whole_is splittings.Steps) (writes splittings.Steps (range no_limit step) second k)
writes words sort fragments (last_clause tree all h) = last_clause tree (written_for_clause tree ++ []) (subst (Derives splittings.Steps (for_clause tree)) (sym (append-nil (written_for_clause tree))) (writes splittings.Steps (for_clause tree) all h))
writes words sort fragments (only_stop word test after is h) = only_stop word test (written test) is ((writes splittings.Steps (expression test) after h).whole_is splittings.Steps)
writes words sort fragments (more_clauses tree others stop separator before after all parts is h k) =
    more_clauses tree others stop (mark (codes ",")) (written_for_clause tree) (written_for_head others stop) _ (clauses_joined tree others stop (no_more_clauses others stop after k)) refl (writes splittings.Steps (for_clause tree) before h) (writes splittings.Steps (for_clauses others stop) after k)
writes words sort fragments empty_head = empty_head
writes words sort fragments (some_clauses trees stop all h) = some_clauses trees stop (written_for_head trees stop) (writes splittings.Steps (for_clauses trees stop) all h)
writes words sort fragments no_finally = no_finally
writes words sort fragments (by_finally trees word after is h) = by_finally trees (made kinds.Name (codes "finally")) (written_body (body_of trees)) refl (writes splittings.LastPart (a_body trees) after h)
writes words sort fragments no_initial = no_initial
writes words sort fragments (by_initial tree equals after is h) = by_initial tree (made kinds.Operator (codes "=")) (written tree) refl ((writes splittings.Nothing (expression tree) after h).whole_is splittings.Nothing)
writes words sort fragments (plain_key variable default before after all parts v h) = plain_key variable default (written_variable variable) (written_initial default) _ refl (variable_writes variable before v) (writes splittings.Nothing (initial default) after h)
writes words sort fragments (named_key token variable default before after all parts is v h) =
    named_key token variable default (written_variable variable) (written_initial default) _ refl is (variable_writes variable before v) (writes splittings.Nothing (initial default) after h)
writes words sort fragments no_more_keys = no_more_keys
writes words sort fragments (all_keys separator sign is marks) = all_keys (mark (codes ",")) (made kinds.Mark (codes "#all-keys")) refl refl
writes words sort fragments (key_and_more tree others takes_all separator first second all parts is h k) =
    key_and_more tree others takes_all (mark (codes ",")) (written_key tree) (keys_behind (keys_of others) ++ written_all takes_all) _ (ap (λ (fs : Fragments). comma_mark ∷ fs) (append_assoc (written_key tree) (keys_behind (keys_of others)) (written_all takes_all))) refl
    (writes splittings.Nothing (key tree) first h) (writes splittings.Nothing (more_keys others takes_all) second k)
writes words sort fragments (last_required required all is) = (last_required required (written_required required) (required_writes required all is), λ e. absurd cc)
writes words sort fragments (more_required required found separator before after all parts role is h) = more_required_written required found (writes splittings.Nothing (listed found) after h) (required_writes required before is)
writes words sort fragments (last_next sign token marks is) = (last_next (made kinds.Mark (codes "#next")) token refl is, λ e. (next_mark, one token ∷ [], refl))
writes words sort fragments (more_next sign token separator rest keys after marks is role h) = more_next_written token rest keys is (writes splittings.Nothing (listed (list_of [] None rest keys)) after h)
writes words sort fragments (last_rest sign token marks is) = (last_rest (made kinds.Mark (codes "#rest")) token refl is, λ e. (rest_mark, one token ∷ [], refl))
writes words sort fragments (more_rest sign token separator keys after marks is role h) = more_rest_written token keys is (writes splittings.Nothing (listed (list_of [] None None keys)) after h)
writes words sort fragments (bare_keys sign takes_all after marks h) = (bare_keys (made kinds.Mark (codes "#key")) takes_all (written_all takes_all) refl (writes splittings.Nothing (more_keys [] takes_all) after h), λ e. (key_mark, written_all takes_all, refl))
writes words sort fragments (first_key sign tree others takes_all first second all parts marks h k) = (
  first_key (made kinds.Mark (codes "#key")) tree others takes_all (written_key tree) (keys_behind (keys_of others) ++ written_all takes_all) _ (ap (λ (fs : Fragments). key_mark ∷ fs) (append_assoc (written_key tree) (keys_behind (keys_of others)) (written_all takes_all))) refl
      (writes splittings.Nothing (key tree) first h) (writes splittings.Nothing (more_keys others takes_all) second k),
  λ e. (key_mark, first_keys (keys_of (tree ∷ others)) ++ written_all takes_all, refl),
)
writes words sort fragments empty_brackets = empty_brackets
writes words sort fragments (some_listed found all h) = some_listed found (written_listed found) (writes splittings.Nothing (listed found) all h).0
writes words sort fragments (by_signature found results trees left within right given end after all parts is r n a h k) =
    let l = writes splittings.Nothing (brackets found) (row within) h in
    by_signature found results trees (mark (codes "(")) (pack (written_listed found)) (mark (codes ")")) (written_results results) (semicolon_mark ∷ []) (written_body (body_of trees)) _ refl refl (results_write results given r) (an_end (mark (codes ";")) refl)
    (semicolon_apart results (written_body (body_of trees))) (subst (Derives splittings.Nothing (brackets found)) (sym (row_pack (written_listed found))) l) (writes splittings.Nothing (a_body trees) after k)
writes words sort fragments (by_local w trees word after is h) = by_local w trees word (written_methods (methods_of trees)) is (writes splittings.Nothing (local_methods trees) after h).1
writes words sort fragments (last_method found results trees opener token inner closer after is parts role h) =
    ((local_method opener token (parameters_of found results) (body_of trees), [], refl), method_group found results trees opener token closer is role (writes splittings.Nothing (signature found results trees) after h))
writes words sort fragments (more_methods found results trees others opener token inner closer separator after behind is parts role comma_role h k) =
    let inside : Fragments = written_signature (parameters_of found results) ++ semicolon_mark ∷ written_body (body_of trees) in
    let (some, m) = writes splittings.Nothing (local_methods others) behind k in (
      (local_method opener token (parameters_of found results) (body_of trees), others, refl),
      subst (Derives splittings.Nothing (local_methods (local_method opener token (parameters_of found results) (body_of trees) ∷ others))) (sym (methods_more (local_method opener token (parameters_of found results) (body_of trees)) others some))
          (more_methods found results trees others opener token (pack (one token ∷ inside)) (made kinds.Name (codes "end")) (mark (codes ",")) inside (written_methods (methods_of others)) (statement_closed (begun_by opener) closer keywords.Method is) (row_pack (one token ∷ inside)) role refl
          (writes splittings.Nothing (signature found results trees) after h) m),
    )
