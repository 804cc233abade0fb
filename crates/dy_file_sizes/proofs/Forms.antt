-- The draft of a form is not much larger than the fragments that it was read from, by induction over derivations.
use Rattle.std.proofs.Common.{◌≡◌, ℕ, ◌+◌, ◌*◌, ◌<◌, ◌≤◌, suc, codes, Bool, true, false, List, [], ◌∷◌, ◌++◌, length, map, Option, Some, None, ap, ◌∙◌, arith}
use Rattle.dy_tree.specs.Fragments.{SeenFragment, one, group, row}
use Rattle.dy_tree.specs.declared.splitters.Splitting.{Splitting}
use Rattle.dy_tree.specs.declared.splitters.Splitting.TheVariants as splittings
use Rattle.dy_tree.specs.declared.types.LiteralForm.TheVariants as literals
use Rattle.dy_rules.specs.Operators.{below}
use Rattle.dy_rules.specs.ConstantTrees.{constants_of, tail_of}
use Rattle.dy_rules.specs.Roles.{positive, negative}
use Rattle.dy_rules.specs.Types.{TargetTree, one_target, several, VariableTree}
use Rattle.dy_rules.specs.Trees.{Tree, assignment, operation, unary, call, literal, name, Argument, arguments_of, list, vector, begin_tree, if_tree, guarded, case_tree, select_tree, block_tree, for_tree, method_tree, body_of, alternatives_of, Alternative, Otherwise, maybe_of, arms_of, tests_of, BlockClause, block_clauses_of, ForClause, for_clauses_of, StopTree, stop_of, no_limit, MaybeTree, no_tree, some_tree, Key, a_key, keys_of, parameters_of, methods_of}
use Rattle.dy_rules.specs.Productions.{Sort, leaf, operand, signed, level, expression, argument, some_arguments, arguments, Derives, integer_leaf, character_leaf, string_leaf, boolean_leaf, symbol_leaf, name_leaf, bracket_leaf, leaf_operand, call_operand, element_operand, member_operand, operand_signed, negative_signed, minus_signed, tilde_signed, signed_level, up_level, operation_level, level_expression, assignment_expression, keyword_argument, value_argument, one_argument, more_arguments, no_arguments, all_arguments, list_leaf, vector_leaf, an_item, some_items, a_body, alternatives, begin_leaf, guarded_leaf, if_leaf, by_let, by_handler, by_expression, last_item, more_items, empty_body, separator_body, items_body, ended_body, no_alternatives, by_else, more_alternatives, some_tests, open_body, choices, arms, head, case_leaf, select_leaf, one_test, more_tests, empty_open, items_open, last_arm, more_arms, last_choice, last_choice_arrow, no_arms, some_arms, ended_arms, by_identity, by_test, block_clauses, for_clause, range, for_clauses, for_head, ending_part, block_leaf, for_leaf, no_block_clause, by_afterwards, by_cleanup, by_exception, by_then, by_in, by_from, no_range, step_range, limit_range, last_clause, only_stop, more_clauses, empty_head, some_clauses, no_finally, by_finally, list_of, initial, key, more_keys, listed, brackets, signature, local_methods, method_leaf, no_initial, by_initial, plain_key, named_key, no_more_keys, all_keys, key_and_more, last_required, more_required, last_next, more_next, last_rest, more_rest, bare_keys, first_key, empty_brackets, some_listed, by_signature, by_local, last_method, more_methods}
use Rattle.dy_rules.specs.Forms.{SlotOption, IsOption, by_keyword, by_required_keyword, by_value, by_init_function, by_setter, AreOptions, no_option, option_and, SlotTree, IsSlot, a_slot, AreSlots, no_slot, slot_and, FormTree, IsForm, by_class, by_method, by_function, by_constant, by_variable, by_generic, by_domain}
use Rattle.dy_rules.specs.Forms as forms
use Rattle.dy_term.specs.Types.{CoreType}
use Rattle.dy_term.specs.Drafts.{Core, no_place, cores_of}
use Rattle.dy_term.specs.Drafts as drafts
use Rattle.dy_drafts.specs.Shapes.{name_at}
use Rattle.dy_drafts.specs.Parts.{bodied, setter_at}
use Rattle.dy_desugar.specs.Table.{core_of, first_token, cases_of, assignment_of, argument_of, item_of, default_of, for_clause_of, bound_of, or_false, maybe_body, afterwards_of, cleanup_of, exceptions_of, defaults_in, items_in}
use Rattle.dy_desugar.specs.Table as table
use Rattle.dy_surface.specs.Forms.{slot_of, init_of, written_init, constant_by, constant_of, initial as initial_top, draft_of}
use Rattle.dy_surface.specs.TypeConstants.{constant_type}
use Rattle.dy_token_limit.specs.Tokens.{tokens_of, tokens_within}
use Rattle.dy_file_sizes.specs.Drafts.{size, item_size, maybe_size, methods_size, defaults_size, clauses_size, clause_size, limit_size, test_size, catches_size, init_size, slots_size, top_size, draft_size}
use Rattle.dy_file_sizes.proofs.Tokens.{join_tokens, row_tokens}
use Rattle.dy_file_sizes.proofs.Types.{variable_counts, required_counts, target_size, target_counts}
use Rattle.dy_file_sizes.proofs.Joining.{all_size, pairs_size, choice_is, handed_size, join_handed, handed_more, setting_size, rest_size, operation_size, guarded_size, body_size, listed_size, lambda_is, arm_trees_size, cases_small, selects_small, maybe_small, target_is}

abbrev T : List SeenFragment → ℕ
T fragments = 4 * tokens_of fragments

-- an expression, and an assignment to it of a value
abbrev Fits : Tree → List SeenFragment → Type 0
Fits tree fragments = (size (core_of tree) + 3 ≤ T fragments) × ((given : Core) → size (assignment_of tree (core_of tree) given) ≤ T fragments + (4 + size given))

abbrev passed_size : List Argument → ℕ
passed_size passed = handed_size (table.arguments_of (arguments_of passed))

abbrev alternatives_size : List Alternative → Otherwise → ℕ
alternatives_size trees last = pairs_size (table.alternatives_of (alternatives_of trees)) + size (or_false last)

abbrev keys_size : List Key → ℕ
keys_size trees = defaults_size (cores_of (defaults_in (keys_of trees)))

abbrev block_size : List BlockClause → ℕ
block_size trees =
    let clauses = block_clauses_of trees in
    maybe_size (afterwards_of clauses) + (maybe_size (cleanup_of clauses) + catches_size (drafts.catches_of (exceptions_of clauses)))

abbrev head_size : List ForClause → Option StopTree → ℕ
head_size trees stop = clauses_size (drafts.clauses_of (table.for_clauses_of (for_clauses_of trees))) + test_size (table.stop_of (stop_of stop))

abbrev key_size : Key → ℕ
key_size (a_key symbol variable default) = 1 + size (default_of default)

abbrev Small : Sort → List SeenFragment → Type 0
Small (leaf tree) fs = Fits tree fs
Small (operand tree) fs = Fits tree fs
Small (signed tree) fs = Fits tree fs
Small (level height tree) fs = Fits tree fs
Small (expression tree) fs = Fits tree fs
Small (argument passed) fs = handed_size (argument_of passed) ≤ T fs
Small (some_arguments passed) fs = passed_size passed ≤ T fs
Small (arguments passed) fs = passed_size passed ≤ T fs
Small (an_item tree) fs = item_size (item_of tree) ≤ T fs
Small (some_items trees) fs = body_size trees ≤ T fs
Small (a_body trees) fs = body_size trees ≤ T fs
Small (open_body trees) fs = body_size trees ≤ T fs
Small (alternatives trees last) fs = alternatives_size trees last ≤ T fs + 1
Small (some_tests trees) fs = all_size (table.tests_of (tests_of trees)) + 3 ≤ T fs
Small (choices single trees last) fs = arm_trees_size trees + size (or_false last) ≤ T fs
Small (arms single trees last) fs = arm_trees_size trees + size (or_false last) ≤ T fs + 1
Small (head selected test) fs = size (core_of selected) + maybe_size (table.maybe_of (maybe_of test)) ≤ T fs
Small (block_clauses trees) fs = block_size trees ≤ T fs
Small (for_clause tree) fs = clause_size (for_clause_of tree) ≤ T fs
Small (range limit step) fs = limit_size (bound_of limit) + maybe_size (table.maybe_of step) ≤ T fs
Small (for_clauses trees stop) fs = head_size trees stop ≤ T fs
Small (for_head trees stop) fs = head_size trees stop ≤ T fs
Small (ending_part last) fs = maybe_size (maybe_body last) ≤ T fs
Small (initial tree) fs = size (default_of tree) ≤ T fs + 1
Small (key tree) fs = key_size tree ≤ T fs
Small (more_keys trees takes_all) fs = keys_size trees ≤ T fs
Small (listed found) fs = listed_size found ≤ T fs
Small (brackets found) fs = listed_size found ≤ T fs
Small (signature found results trees) fs = 8 + (listed_size found + body_size trees) ≤ T fs
Small (local_methods trees) fs = methods_size (drafts.methods_of (table.local_methods_of (methods_of trees))) ≤ T fs

-- two parts with a fragment between them
parted : (all before : List SeenFragment) (middle : SeenFragment) (after : List SeenFragment) → all ≡ before ++ middle ∷ after → tokens_of all ≡ tokens_of before + tokens_of (middle ∷ after)
parted all before middle after parts = ap tokens_of parts ∙ join_tokens before (middle ∷ after)

-- behind a first fragment two parts
split_behind : (all : List SeenFragment) (first : SeenFragment) (before after : List SeenFragment) → all ≡ first ∷ (before ++ after) → tokens_of all ≡ tokens_of (first ∷ []) + (tokens_of before + tokens_of after)
split_behind all first before after parts = ap tokens_of parts ∙ omega (arith, join_tokens before after)

-- what is no place
unplaced : (tree : Tree) (fragments : List SeenFragment) → size (core_of tree) + 3 ≤ T fragments
    → (size (core_of tree) + 3 ≤ T fragments) × ((given : Core) → size (no_place (first_token tree) (core_of tree) given) ≤ T fragments + (4 + size given))
unplaced tree fragments low = (low, λ given. omega (arith, low))

-- a call of a name sets, and another is no place
call_fits : (function : Tree) (passed : List Argument) (before all : List SeenFragment) (within : ℕ) → Fits function before → passed_size passed ≤ 4 * within → tokens_of all ≡ tokens_of before + (2 + within) → Fits (call function (arguments_of passed)) all
call_fits function passed before all within h k e = (
  omega (arith, h.0, k, e, handed_more (table.arguments_of (arguments_of passed))),
  by function h.0,
)
  where
    by : (tree : Tree) → size (core_of tree) + 3 ≤ T before → (given : Core) → size (assignment_of (call tree (arguments_of passed)) (core_of (call tree (arguments_of passed))) given) ≤ T all + (4 + size given)
    by (name token) low given = omega (arith, low, k, e, setting_size (setter_at token) (table.arguments_of (arguments_of passed)) given)
    by tree low given = omega (arith, low, k, e, handed_more (table.arguments_of (arguments_of passed)))

passed_more : (passed : List Argument) (last : Argument) → passed_size (passed ++ last ∷ []) ≡ passed_size passed + handed_size (argument_of last)
passed_more [] last = omega (arith, join_handed (argument_of last) [])
passed_more (first ∷ passed) last =
    omega (arith, passed_more passed last, join_handed (argument_of first) (table.arguments_of (arguments_of (passed ++ last ∷ []))), join_handed (argument_of first) (table.arguments_of (arguments_of passed)))

keys_more : (tree : Key) (others : List Key) → keys_size (tree ∷ others) ≡ key_size tree + keys_size others
keys_more (a_key symbol variable default) others = omega arith

small : (words : Splitting) (sort : Sort) (fragments : List SeenFragment) → Derives words sort fragments → Small sort fragments
small words sort fragments (integer_leaf w token is) =
    unplaced (literal (positive token)) (one token ∷ []) (omega arith)
small words sort fragments (character_leaf w token is) =
    unplaced (literal (literals.Char token)) (one token ∷ []) (omega arith)
small words sort fragments (string_leaf w token is) =
    unplaced (literal (literals.Str token)) (one token ∷ []) (omega arith)
small words sort fragments (boolean_leaf w token is) =
    unplaced (literal (literals.Bool token)) (one token ∷ []) (omega arith)
small words sort fragments (symbol_leaf w token is) =
    unplaced (literal (literals.Symbol token)) (one token ∷ []) (omega arith)
small words sort fragments (name_leaf w token is plainly) = (omega arith, λ given. omega arith)
small words sort fragments (list_leaf w items last opener inner closer is h) =
    unplaced (list opener (constants_of items) (tail_of last)) (group opener inner closer ∷ []) (omega arith)
small words sort fragments (vector_leaf w items opener inner closer is h) =
    unplaced (vector opener (constants_of items)) (group opener inner closer ∷ []) (omega arith)
small words sort fragments (bracket_leaf w tree opener inner closer is h) =
    let x : Fits tree (row inner) = small splittings.Nothing (expression tree) (row inner) h in (omega (arith, row_tokens inner, x.0), λ given. omega (arith, row_tokens inner, x.1 given))
small words sort fragments (begin_leaf w trees opener inner closer is h) =
    unplaced (begin_tree opener (body_of trees)) (group opener inner closer ∷ []) (omega (arith, row_tokens inner, small splittings.Nothing (a_body trees) (row inner) h))
small words sort fragments (guarded_leaf w guard test trees opener inner closer left tested right after is parts is_round h k) =
    unplaced (guarded guard opener test (body_of trees)) (group opener inner closer ∷ []) (omega (arith, row_tokens inner, ap tokens_of parts, row_tokens tested, (small splittings.Nothing (expression test) (row tested) h).0, small splittings.Nothing (a_body trees) after k, guarded_size guard (core_of test) (bodied (items_in (body_of trees)))))
small words sort fragments (if_leaf w test trees others last opener inner closer left tested right first second is parts is_round h k m) =
    unplaced (if_tree opener test (body_of trees) (alternatives_of others) last) (group opener inner closer ∷ []) (omega (arith, row_tokens inner, split_behind (row inner) (group left tested right) first second parts, row_tokens tested, (small splittings.Nothing (expression test) (row tested) h).0, small splittings.Branches (a_body trees) first k, small splittings.Branches (alternatives others last) second m, choice_is (table.alternatives_of (alternatives_of others)) (or_false last)))
small words sort fragments (case_leaf w trees last opener inner closer is h) =
    unplaced (case_tree opener (arms_of trees) last) (group opener inner closer ∷ []) (omega (arith, row_tokens inner, small splittings.Nothing (arms true trees last) (row inner) h, choice_is (cases_of (arms_of trees)) (or_false last), cases_small trees))
small words sort fragments (select_leaf w selected test trees last opener inner closer left headed right after is parts is_round h k) =
    unplaced (select_tree opener selected (maybe_of test) (arms_of trees) last) (group opener inner closer ∷ []) (omega (arith, row_tokens inner, ap tokens_of parts, row_tokens headed, small splittings.Tests (head selected test) (row headed) h, small splittings.Nothing (arms false trees last) after k, selects_small trees, maybe_small last))
small words sort fragments (block_leaf w exit trees clauses opener inner closer left within right first second is parts is_round x suits h k) =
    unplaced (block_tree opener exit (body_of trees) (block_clauses_of clauses)) (group opener inner closer ∷ []) (omega (arith, row_tokens inner, split_behind (row inner) (group left within right) first second parts, small splittings.Endings (a_body trees) first h, small splittings.Endings (block_clauses clauses) second k))
small words sort fragments (for_leaf w clauses stop trees last opener inner closer left within right first second is parts is_round h k m) =
    unplaced (for_tree opener (for_clauses_of clauses) (stop_of stop) (body_of trees) last) (group opener inner closer ∷ []) (omega (arith, row_tokens inner, split_behind (row inner) (group left within right) first second parts, row_tokens within, small splittings.Steps (for_head clauses stop) (row within) h, small splittings.LastPart (a_body trees) first k, small splittings.LastPart (ending_part last) second m))
small words sort fragments (method_leaf w found results trees opener inner closer is h) =
    unplaced (method_tree opener (parameters_of found results) (body_of trees)) (group opener inner closer ∷ []) (omega (arith, row_tokens inner, small splittings.Nothing (signature found results trees) (row inner) h, lambda_is found results trees))
small words sort fragments (leaf_operand w tree all h) = small w (leaf tree) all h
small words sort fragments (call_operand w function passed before all opener inner closer parts is h k) =
    call_fits function passed before all (tokens_within inner) (small w (operand function) before h) (omega (arith, row_tokens inner, small splittings.Nothing (arguments passed) (row inner) k)) (omega (arith, parted all before (group opener inner closer) [] parts))
small words sort fragments (element_operand w object index before all opener inner closer parts is h k) =
    let x : Fits object before = small w (operand object) before h in
    let y : Fits index (row inner) = small splittings.Nothing (expression index) (row inner) k in
    let e = parted all before (group opener inner closer) [] parts in (
      omega (arith, row_tokens inner, x.0, y.0, e),
      λ given. omega (arith, row_tokens inner, x.0, y.0, e, setting_size (name_at (codes "element-setter") opener) (core_of object ∷ core_of index ∷ []) given),
    )
small words sort fragments (member_operand w object point token before all parts is_dot is plainly h) =
    let x : Fits object before = small w (operand object) before h in
    let e = parted all before (one point) (one token ∷ []) parts in (
      omega (arith, x.0, e),
      λ given. omega (arith, x.0, e, setting_size (setter_at token) (core_of object ∷ []) given),
    )
small words sort fragments (operand_signed w tree all h) = small w (operand tree) all h
small words sort fragments (negative_signed w sign digits is_minus is) =
    unplaced (literal (negative sign digits)) (one sign ∷ one digits ∷ []) (omega arith)
small words sort fragments (minus_signed w sign tree after is plainly h) =
    unplaced (unary sign tree) (one sign ∷ after) (omega (arith, (small w (signed tree) after h).0))
small words sort fragments (tilde_signed w sign tree after is h) =
    unplaced (unary sign tree) (one sign ∷ after) (omega (arith, (small w (signed tree) after h).0))
small words sort fragments (signed_level w tree all h) = small w (signed tree) all h
small words sort fragments (up_level w height tree all h) = small w (level height tree) all h
small words sort fragments (operation_level w precedence left right sign before after all parts is h k) =
    unplaced (operation precedence left sign right) all (omega (arith, parted all before (one sign) after parts, (small w (level (suc (below precedence)) left) before h).0, (small w (level (below precedence) right) after k).0, operation_size precedence sign (core_of left) (core_of right)))
small words sort fragments (level_expression w tree all h) = small w (level 5 tree) all h
small words sort fragments (assignment_expression w place assigned sign before after all parts is h k) =
    unplaced (assignment place assigned) all (omega (arith, parted all before (one sign) after parts, (small w (level 5 place) before h).1 (core_of assigned), (small w (expression assigned) after k).0))
small words sort fragments (keyword_argument token tree after is h) = omega (arith, (small splittings.Nothing (expression tree) after h).0)
small words sort fragments (value_argument tree all two h) = omega (arith, (small splittings.Nothing (expression tree) all h).0)
small words sort fragments (one_argument passed all h) = omega (arith, small splittings.Nothing (argument passed) all h, join_handed (argument_of passed) [])
small words sort fragments (more_arguments passed last separator before after all parts is h k) =
    omega (arith, parted all before (one separator) after parts, small splittings.Nothing (some_arguments passed) before h, small splittings.Nothing (argument last) after k, passed_more passed last)
small words sort fragments no_arguments = omega arith
small words sort fragments (all_arguments passed all h) = small splittings.Nothing (some_arguments passed) all h
small words sort fragments (by_expression w tree all h) = omega (arith, (small w (expression tree) all h).0)
small words sort fragments (by_let w word equals target assigned before after all parts role is t plainly h) =
    omega (arith, split_behind all (one word) before (one equals ∷ after) parts, target_is target, target_counts target before t, (small w (expression assigned) after h).0)
small words sort fragments (by_handler w word second equals condition handler before after all parts role also is t plainly h) =
    omega (arith, ap tokens_of parts, join_tokens before (one equals ∷ after), (small w (expression handler) after h).0)
small words sort fragments (by_local w trees word after is h) = omega (arith, small splittings.Nothing (local_methods trees) after h)
small words sort fragments (last_item w tree all h) = omega (arith, small w (an_item tree) all h)
small words sort fragments (more_items w tree others separator before after all parts is h k) =
    omega (arith, parted all before (one separator) after parts, small w (an_item tree) before h, small w (some_items others) after k)
small words sort fragments (empty_body w) = omega arith
small words sort fragments (separator_body w separator is) = omega arith
small words sort fragments (items_body w trees all h) = small w (some_items trees) all h
small words sort fragments (ended_body w trees separator before all parts is h) = omega (arith, parted all before (one separator) [] parts, small w (some_items trees) before h)
small words sort fragments no_alternatives = omega arith
small words sort fragments (by_else trees word after is h) = omega (arith, small splittings.Branches (a_body trees) after h)
small words sort fragments (more_alternatives test trees others last word left tested right first second all parts is is_round h k m) =
    omega (arith, ap tokens_of parts, join_tokens first second, row_tokens tested, (small splittings.Nothing (expression test) (row tested) h).0, small splittings.Branches (a_body trees) first k, small splittings.Branches (alternatives others last) second m)
small words sort fragments (one_test tree all h) = omega (arith, (small splittings.Nothing (expression tree) all h).0)
small words sort fragments (more_tests tree others separator before after all parts is h k) =
    omega (arith, parted all before (one separator) after parts, (small splittings.Nothing (expression tree) before h).0, small splittings.Nothing (some_tests others) after k)
small words sort fragments empty_open = omega arith
small words sort fragments (items_open trees all h) = small splittings.Nothing (some_items trees) all h
small words sort fragments (last_arm single trees entries sign before after all parts is fit h k) =
    omega (arith, parted all before (one sign) after parts, small splittings.Nothing (some_tests trees) before h, small splittings.Nothing (open_body entries) after k)
small words sort fragments (more_arms single trees entries others last sign separator before middle after all parts is semi fit h k m) =
    omega (arith, parted all before (one sign) (middle ++ one separator ∷ after) parts, join_tokens middle (one separator ∷ after), small splittings.Nothing (some_tests trees) before h, small splittings.Nothing (open_body entries) middle k, small splittings.Nothing (choices single others last) after m)
small words sort fragments (last_choice single entries word after is h) = omega (arith, small splittings.Nothing (open_body entries) after h)
small words sort fragments (last_choice_arrow single entries word sign after is also h) = omega (arith, small splittings.Nothing (open_body entries) after h)
small words sort fragments (no_arms single) = omega arith
small words sort fragments (some_arms single trees last all h) = omega (arith, small splittings.Nothing (choices single trees last) all h)
small words sort fragments (ended_arms single trees last separator before all parts is h) =
    omega (arith, parted all before (one separator) [] parts, small splittings.Nothing (choices single trees last) before h)
small words sort fragments (by_identity selected all h) = omega (arith, (small splittings.Tests (expression selected) all h).0)
small words sort fragments (by_test selected test word before after all parts is h k) =
    omega (arith, parted all before (one word) after parts, (small splittings.Tests (expression selected) before h).0, (small splittings.Tests (expression test) after k).0)
small words sort fragments no_block_clause = omega arith
small words sort fragments (by_afterwards trees others word first second all parts is h k) =
    omega (arith, split_behind all (one word) first second parts, small splittings.Endings (a_body trees) first h, small splittings.Endings (block_clauses others) second k)
small words sort fragments (by_cleanup trees others word first second all parts is h k) =
    omega (arith, split_behind all (one word) first second parts, small splittings.Endings (a_body trees) first h, small splittings.Endings (block_clauses others) second k)
small words sort fragments (by_exception variable condition trees others word left within right first second all parts is is_round c h k) =
    omega (arith, ap tokens_of parts, join_tokens first second, small splittings.Endings (a_body trees) first h, small splittings.Endings (block_clauses others) second k)
small words sort fragments (by_then variable first next equals word before middle after all parts is role v plainly h k) =
    omega (arith, parted all (before ++ one equals ∷ middle) (one word) after parts, join_tokens before (one equals ∷ middle), (small splittings.Steps (expression first) middle h).0, (small splittings.Steps (expression next) after k).0)
small words sort fragments (by_in variable collection word before after all parts is v plainly h) =
    omega (arith, parted all before (one word) after parts, (small splittings.Steps (expression collection) after h).0)
small words sort fragments (by_from variable start limit step word before middle after all parts is v plainly h k) =
    omega (arith, parted all before (one word) (middle ++ after) parts, join_tokens middle after, (small splittings.Steps (expression start) middle h).0, small splittings.Steps (range limit step) after k)
small words sort fragments no_range = omega arith
small words sort fragments (step_range tree word after is h) = omega (arith, (small splittings.Steps (expression tree) after h).0)
small words sort fragments (limit_range bound step word first second all parts is h k) =
    omega (arith, split_behind all (one word) first second parts, (small splittings.Steps (expression bound) first h).0, small splittings.Steps (range no_limit step) second k)
small words sort fragments (last_clause tree all h) = omega (arith, small splittings.Steps (for_clause tree) all h)
small words sort fragments (only_stop word test after is h) = omega (arith, (small splittings.Steps (expression test) after h).0)
small words sort fragments (more_clauses tree others stop separator before after all parts is h k) =
    omega (arith, parted all before (one separator) after parts, small splittings.Steps (for_clause tree) before h, small splittings.Steps (for_clauses others stop) after k)
small words sort fragments empty_head = omega arith
small words sort fragments (some_clauses trees stop all h) = small splittings.Steps (for_clauses trees stop) all h
small words sort fragments no_finally = omega arith
small words sort fragments (by_finally trees word after is h) = omega (arith, small splittings.LastPart (a_body trees) after h)
small words sort fragments no_initial = omega arith
small words sort fragments (by_initial tree equals after is h) = omega (arith, (small splittings.Nothing (expression tree) after h).0)
small words sort fragments (plain_key variable default before after all parts v h) =
    omega (arith, ap tokens_of parts, join_tokens before after, variable_counts variable before v, small splittings.Nothing (initial default) after h)
small words sort fragments (named_key token variable default before after all parts is v h) =
    omega (arith, split_behind all (one token) before after parts, small splittings.Nothing (initial default) after h)
small words sort fragments no_more_keys = omega arith
small words sort fragments (all_keys separator sign is marks) = omega arith
small words sort fragments (key_and_more tree others takes_all separator first second all parts is h k) =
    omega (arith, split_behind all (one separator) first second parts, small splittings.Nothing (key tree) first h, small splittings.Nothing (more_keys others takes_all) second k, keys_more tree others)
small words sort fragments (last_required required all is) = omega (arith, required_counts required all is)
small words sort fragments (more_required required found separator before after all parts role is h) =
    omega (arith, parted all before (one separator) after parts, required_counts required before is, small splittings.Nothing (listed found) after h)
small words sort fragments (last_next sign token marks is) = omega arith
small words sort fragments (more_next sign token separator rest keys after marks is role h) = omega (arith, small splittings.Nothing (listed (list_of [] None rest keys)) after h)
small words sort fragments (last_rest sign token marks is) = omega arith
small words sort fragments (more_rest sign token separator keys after marks is role h) = omega (arith, small splittings.Nothing (listed (list_of [] None None keys)) after h)
small words sort fragments (bare_keys sign takes_all after marks h) = omega arith
small words sort fragments (first_key sign tree others takes_all first second all parts marks h k) =
    omega (arith, split_behind all (one sign) first second parts, small splittings.Nothing (key tree) first h, small splittings.Nothing (more_keys others takes_all) second k, keys_more tree others)
small words sort fragments empty_brackets = omega arith
small words sort fragments (some_listed found all h) = small splittings.Nothing (listed found) all h
small words sort fragments (by_signature found results trees left within right given end after all parts is r n a h k) =
    omega (arith, ap tokens_of parts, join_tokens given (end ++ after), join_tokens end after, row_tokens within, small splittings.Nothing (brackets found) (row within) h, small splittings.Nothing (a_body trees) after k)
small words sort fragments (last_method found results trees opener token inner closer after is parts role h) =
    omega (arith, row_tokens inner, ap tokens_of parts, small splittings.Nothing (signature found results trees) after h, lambda_is found results trees)
small words sort fragments (more_methods found results trees others opener token inner closer separator after behind is parts role comma_role h k) =
    omega (arith, row_tokens inner, ap tokens_of parts, small splittings.Nothing (signature found results trees) after h, lambda_is found results trees, small splittings.Nothing (local_methods others) behind k)

-- slots
init_small : (default : MaybeTree) (options : List SlotOption) (before after : ℕ) → size (default_of default) ≤ before → init_size (written_init options) ≤ after → init_size (init_of default options) ≤ before + after
init_small no_tree options before after h k = omega (arith, k)
init_small (some_tree tree) options before after h k = omega (arith, h)

option_small : (first : SlotOption) (others : List SlotOption) (fragments : List SeenFragment) → IsOption first fragments → init_size (written_init (first ∷ others)) ≤ T fragments + init_size (written_init others)
option_small first others fragments (by_keyword word token is also) = omega arith
option_small first others fragments (by_required_keyword word token is also) = omega arith
option_small first others fragments (by_value word tree after is h) = omega (arith, (small splittings.Nothing (expression tree) after h).0)
option_small first others fragments (by_init_function word tree after is h) = omega (arith, (small splittings.Nothing (expression tree) after h).0)
option_small first others fragments (by_setter word token is also) = omega arith

options_small : (options : List SlotOption) (fragments : List SeenFragment) → AreOptions options fragments → init_size (written_init options) ≤ T fragments
options_small options fragments no_option = omega arith
options_small options fragments (option_and separator first others before after all parts is h k) =
    omega (arith, split_behind all (one separator) before after parts, option_small first others before h, options_small others after k)

slot_small : (slot : SlotTree) (fragments : List SeenFragment) → IsSlot slot fragments → init_size (slot_of slot).init ≤ T fragments
slot_small slot fragments (a_slot found word before middle after all parts suits is v h k fits) =
    let front = one word ∷ (before ++ middle) in
    omega (
      arith,
      ap tokens_of parts,
      join_tokens (map one found.adjectives ++ front) after,
      join_tokens (map one found.adjectives) front,
      join_tokens before middle,
      init_small found.default found.options (T middle + 1) (T after) (small splittings.Nothing (initial found.default) middle h) (options_small found.options after k),
    )

slots_small : (slots : List SlotTree) (fragments : List SeenFragment) → AreSlots slots fragments → slots_size (map slot_of slots) ≤ T fragments
slots_small slots fragments no_slot = omega arith
slots_small slots fragments (slot_and first others separator before after all parts is h k) =
    omega (arith, parted all before (one separator) after parts, slot_small first before h, slots_small others after k)

-- constants and variables
initial_small : (is_constant : Bool) (target : TargetTree) (term : Core) → top_size (initial_top is_constant target term) ≤ 6 + (target_size target + (target_size target + size term))
initial_small is_constant (one_target variable) term = omega arith
initial_small is_constant (several variables None) term = omega arith
initial_small is_constant (several variables (Some rest)) term = omega (arith, rest_size (length variables) term)

type_small : (variable : VariableTree) (found : Option CoreType) (term : Core) → draft_size (constant_by variable found term) ≤ size term
type_small variable None term = omega arith
type_small variable (Some meant) term = omega arith

constant_small : (target : TargetTree) (tree : Tree) → draft_size (constant_of target tree) ≤ 6 + (target_size target + (target_size target + size (core_of tree)))
constant_small (one_target variable) tree = omega (arith, type_small variable (constant_type tree) (core_of tree))
constant_small (several variables rest) tree = initial_small true (several variables rest) (core_of tree)

-- forms
pub drafts_small : (form : FormTree) (fragments : List SeenFragment) → IsForm form fragments → draft_size (draft_of form) < T fragments
drafts_small form fragments (forms.by_expression tree all h) = omega (arith, (small splittings.Nothing (expression tree) all h).0)
drafts_small form fragments (by_class define closer word token adjectives superclasses slots inner left within right after is parts class suits named round names h) =
    omega (arith, row_tokens inner, ap tokens_of parts, join_tokens (map one adjectives) (one word ∷ one token ∷ group left within right ∷ after), slots_small slots after h)
drafts_small form fragments (by_method define closer word token adjectives found results trees inner after is parts method suits named h) =
    omega (arith, row_tokens inner, ap tokens_of parts, join_tokens (map one adjectives) (one word ∷ one token ∷ after), small splittings.Nothing (signature found results trees) after h, lambda_is found results trees)
drafts_small form fragments (by_function define closer word token adjectives found results trees inner after is parts function suits named h) =
    omega (arith, row_tokens inner, ap tokens_of parts, join_tokens (map one adjectives) (one word ∷ one token ∷ after), small splittings.Nothing (signature found results trees) after h, lambda_is found results trees)
drafts_small form fragments (by_constant define word equals target assigned before after all parts defines constant is t h) =
    omega (arith, ap tokens_of parts, join_tokens before (one equals ∷ after), target_counts target before t, (small splittings.Nothing (expression assigned) after h).0, constant_small target assigned)
drafts_small form fragments (by_variable define word equals target assigned before after all parts defines variable is t h) =
    omega (arith, ap tokens_of parts, join_tokens before (one equals ∷ after), target_counts target before t, (small splittings.Nothing (expression assigned) after h).0, initial_small false target (core_of assigned))
drafts_small form fragments (by_generic define word token adjectives found results left within right given all parts defines generic suits named round no_default h k) = omega (arith, ap tokens_of parts)
drafts_small form fragments (by_domain define adjective word token left within right types defines sealed domain named round h) = omega arith
