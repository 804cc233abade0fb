-- What is derived is read, with what it will be a part of.
use Rattle.std.proofs.Common.{◌≡◌, ℕ, suc, ◌≤◌, ◌⊎◌, inl, inr, Bool, true, false, ◌&&◌, List, [], ◌∷◌, ◌++◌, Option, Some, None, option_map, option_and_then, refl, sym, ap, subst, ◌∙◌, arith}
use Rattle.std.proofs.lemmas.Bool.{lt-ltb}
use Rattle.dy_tree.specs.declared.token.Token.{Token}
use Rattle.dy_tree.specs.declared.types.LiteralForm.TheVariants as literals
use Rattle.dy_tree.specs.Fragments.{SeenFragment, one, group, SeenFragments, row}
use Rattle.dy_tree.specs.declared.roles.Role.{Role}
use Rattle.dy_tree.specs.declared.roles.Role.TheVariants as roles
use Rattle.dy_tree.specs.declared.roles.Precedence.{Precedence}
use Rattle.dy_tree.specs.declared.roles.Precedence.TheVariants as precedences
use Rattle.dy_tree.specs.declared.brackets.Keyword.TheVariants as keywords
use Rattle.dy_tree.specs.declared.brackets.Bracket.{Bracket}
use Rattle.dy_tree.specs.declared.brackets.Bracket.TheVariants as enclosures
use Rattle.dy_tree.specs.declared.splitters.Splitting.{Splitting}
use Rattle.dy_tree.specs.declared.splitters.Splitting.TheVariants as splittings
use Rattle.dy_rules.specs.Operators.{below}
use Rattle.dy_rules.specs.ConstantTrees.{Constant, constants_of, tail_of}
use Rattle.dy_rules.specs.Trees.{Tree, operation, call, element, member, literal, name, Argument, keyword, value, arguments_of, list, vector, begin_tree, if_tree, guarded, body_of, alternatives_of, case_tree, select_tree, maybe_of, arms_of, block_tree, for_tree, block_clauses_of, for_clauses_of, stop_of, no_limit, method_tree, parameters_of}
use Rattle.dy_rules.specs.ConstantReading.{Inside, inside, list_in, vector_in}
use Rattle.dy_rules.proofs.ConstantComplete.{list_complete, vector_complete}
use Rattle.dy_rules.specs.Roles.{role_of, precedence_of, bracket_of, positive}
use Rattle.dy_rules.specs.Arguments.{begins_value, passes_two, is_symbol}
use Rattle.dy_rules.specs.Productions.{Brackets, is_integer, Sort, leaf, operand, signed, level, expression, argument, some_arguments, arguments, Derives, integer_leaf, character_leaf, string_leaf, boolean_leaf, symbol_leaf, name_leaf, bracket_leaf, leaf_operand, call_operand, element_operand, member_operand, operand_signed, negative_signed, minus_signed, tilde_signed, signed_level, up_level, operation_level, level_expression, assignment_expression, keyword_argument, value_argument, one_argument, more_arguments, no_arguments, all_arguments, list_leaf, vector_leaf, an_item, some_items, a_body, alternatives, begin_leaf, guarded_leaf, if_leaf, by_let, by_handler, by_expression, last_item, more_items, empty_body, separator_body, items_body, ended_body, no_alternatives, by_else, more_alternatives, some_tests, open_body, choices, arms, head, case_leaf, select_leaf, one_test, more_tests, empty_open, items_open, last_arm, more_arms, last_choice, last_choice_arrow, no_arms, some_arms, ended_arms, by_identity, by_test, block_clauses, for_clause, range, for_clauses, for_head, ending_part, block_leaf, for_leaf, no_block_clause, by_afterwards, by_cleanup, by_exception, by_then, by_in, by_from, no_range, step_range, limit_range, last_clause, only_stop, more_clauses, empty_head, some_clauses, no_finally, by_finally, list_of, initial, key, more_keys, listed, brackets, signature, local_methods, method_leaf, no_initial, by_initial, plain_key, named_key, no_more_keys, all_keys, key_and_more, last_required, more_required, last_next, more_next, last_rest, more_rest, bare_keys, first_key, empty_brackets, some_listed, by_signature, by_local, last_method, more_methods}
use Rattle.dy_rules.specs.Reading.{Outer, whole, operated, under, assigned, Part, State, wants, counted, has, dotted, reduced, finished, under_sign, integer_part, settled, operates, assigns_to, behind, at_token, indexed, called, group_behind, group_at_operand, at_group, finished_part, tree_of, Passing, nothing_passed, passes_next, symbol_first, passing, with_last, arguments_in, arguments_at_end, fresh_role, fresh, at_separator, or_else, after_item, in_value, by_symbol, after_argument, in_brackets, expression_items, passed_items}
use Rattle.dy_rules.specs.Fragments.{item_of, items_in, expression_in, passed_in, tree_inside, list_tree, vector_tree}
use Rattle.dy_rules.specs.Cutting.{Item}
use Rattle.dy_rules.proofs.Singles.{begins_read}
use Rattle.dy_rules.proofs.Outers.{Fits, Ends, NoNegative, fits_signed, ends_fits, fits_up, fits_stays, finished_reduced}
use Rattle.dy_rules.proofs.Lists.{items_row, reads, passes, some_one, reads_on, passes_on}
use Rattle.dy_rules.proofs.BodyComplete.{ItemRead, ItemsRead, BodyRead, AlternativesRead, expression_item_read, let_item_read, handler_item_read, last_item_read, more_items_read, empty_body_read, separator_body_read, items_body_read, ended_body_read, LocalRead, local_item_read, method_alone_read, last_method_read, more_methods_read}
use Rattle.dy_rules.proofs.StatementComplete.{no_alternatives_read, else_read, more_alternatives_read, begin_read, guarded_read, if_read, statement_read, case_read, select_read, method_read}
use Rattle.dy_rules.proofs.ChoiceComplete.{TestsRead, OpenRead, ChoicesRead, ArmsRead, HeadRead, one_test_read, more_tests_read, last_arm_read, more_arms_read, last_choice_read, last_choice_arrow_read, some_arms_read, ended_arms_read, identity_read, test_read}
use Rattle.dy_rules.proofs.BlockComplete.{BlockClausesRead, no_block_clause_read, afterwards_read, cleanup_read, exception_read, block_read}
use Rattle.dy_rules.proofs.LoopComplete.{ClauseRead, RangeRead, ClausesRead, ForHeadRead, EndingRead, step_expression, then_read, in_read, from_read, no_range_read, step_range_read, limit_range_read, last_clause_read, only_stop_read, more_clauses_read, some_clauses_read, no_finally_read, finally_read, for_read}
use Rattle.dy_rules.specs.Signatures.{method_of, named_of}
use Rattle.dy_rules.proofs.SignatureComplete.{InitialRead, KeyRead, MoreKeysRead, ListedRead, BracketsRead, SignatureRead, no_initial_read, initial_read, plain_key_read, named_key_read, no_more_keys_read, all_keys_read, key_and_more_read, last_required_read, more_required_read, last_next_read, more_next_read, last_rest_read, more_rest_read, bare_keys_read, first_key_read, some_listed_read, signature_read, named_read}

abbrev Fragments : Type 0
Fragments = List SeenFragment

-- the part that ends where the state is, before an operation of so many levels
abbrev reduced_part : ℕ → Part → Part
reduced_part height part = reduced height part.0 part.1

abbrev part_before : ℕ → State → Option Part
part_before height state = option_map (reduced_part height) (settled state)

-- the operand was read
pub data AfterOperand (tree : Tree) (outer : Outer) (fragments : List SeenFragment) (state : State) : Type 0 where
  counts : (token : Token) → tree ≡ literal (positive token) → role_of token ≡ roles.Integer → fragments ≡ one token ∷ [] → state ≡ counted token outer → AfterOperand tree outer fragments state
  holds : state ≡ has tree outer → AfterOperand tree outer fragments state

pub record Read (words : Splitting) (outer : Outer) (fragments : List SeenFragment) (P : State → Type 0) : Type 0 where
  pub state : State
  pub read : reads words (wants outer) fragments ≡ Some state
  pub after : P state

pub record Passes (reader : Passing) (fragments : List SeenFragment) (P : Passing → Type 0) : Type 0 where
  pub next : Passing
  pub read : passes reader fragments ≡ Some next
  pub after : P next

-- an argument begins here, behind these
pub data IsFresh : Passing → List Argument → Type 0 where
  first_argument : IsFresh nothing_passed []
  next_argument : (before : List Argument) → IsFresh (passes_next before) before

abbrev pub Complete : Splitting → Sort → Fragments → Type 0
Complete words (leaf tree) fragments = (outer : Outer) → Read words outer fragments (AfterOperand tree outer fragments)
Complete words (operand tree) fragments = (outer : Outer) → Read words outer fragments (AfterOperand tree outer fragments)
Complete words (signed tree) fragments = (outer : Outer) → NoNegative outer fragments → Read words outer fragments (λ state. (height : ℕ) → part_before height state ≡ Some (reduced height tree outer))
Complete words (level low tree) fragments = (outer : Outer) → Fits low outer → Read words outer fragments (λ state. (height : ℕ) → low ≤ height → part_before height state ≡ Some (reduced height tree outer))
Complete words (expression tree) fragments = (outer : Outer) → Ends outer → Read words outer fragments (λ state. tree_of state ≡ Some (finished tree outer))
Complete words (argument last) fragments = (reader : Passing) (before : List Argument) → IsFresh reader before → Passes reader fragments (λ next. arguments_in next ≡ Some (before ++ last ∷ []))
Complete words (some_arguments passed) fragments = Passes nothing_passed fragments (λ next. arguments_in next ≡ Some passed)
Complete words (an_item tree) fragments = ItemRead words tree fragments
Complete words (some_items trees) fragments = ItemsRead words trees fragments
Complete words (a_body trees) fragments = BodyRead words trees fragments
Complete words (alternatives trees last) fragments = AlternativesRead trees last fragments
Complete words (some_tests trees) fragments = TestsRead trees fragments
Complete words (open_body trees) fragments = OpenRead trees fragments
Complete words (choices single trees last) fragments = ChoicesRead single trees last fragments
Complete words (arms single trees last) fragments = ArmsRead single trees last fragments
Complete words (head selected test) fragments = HeadRead selected test fragments
Complete words (block_clauses trees) fragments = BlockClausesRead trees fragments
Complete words (for_clause tree) fragments = ClauseRead tree fragments
Complete words (range limit step) fragments = RangeRead limit step fragments
Complete words (for_clauses trees stop) fragments = ClausesRead trees stop fragments
Complete words (for_head trees stop) fragments = ForHeadRead trees stop fragments
Complete words (ending_part last) fragments = EndingRead last fragments
Complete words (initial tree) fragments = InitialRead tree fragments
Complete words (key tree) fragments = KeyRead tree fragments
Complete words (more_keys trees takes_all) fragments = MoreKeysRead trees takes_all fragments
Complete words (listed found) fragments = ListedRead found fragments
Complete words (brackets found) fragments = BracketsRead found fragments
Complete words (signature found results trees) fragments = SignatureRead found results trees fragments
Complete words (local_methods trees) fragments = LocalRead trees fragments
Complete words (arguments passed) fragments = Passes nothing_passed fragments (λ next. arguments_at_end next ≡ Some passed)

finishes : (height : ℕ) (state : State) (tree : Tree) (outer : Outer) → part_before height state ≡ Some (reduced height tree outer) → tree_of state ≡ Some (finished tree outer)
finishes height state tree outer e = go (settled state) e
  where
    go : (found : Option Part) → option_map (reduced_part height) found ≡ Some (reduced height tree outer) → option_map finished_part found ≡ Some (finished tree outer)
    go None f = absurd cc
    go (Some part) f =
        ap (λ (t : Tree). Some t) (sym (finished_reduced height part.0 part.1) ∙ ap finished_part (some_one (reduced_part height part) (reduced height tree outer) f) ∙ finished_reduced height tree outer)

read_one : (words : Splitting) (state : State) (fragment : SeenFragment) (next : State) → after_item words state (item_of fragment) ≡ Some next → reads words state (fragment ∷ []) ≡ Some next
read_one words state fragment next e = rw e refl

inner_expression : (inner : SeenFragments) (tree : Tree) → Read splittings.Nothing whole (row inner) (λ state. tree_of state ≡ Some (finished tree whole)) → expression_in splittings.Nothing inner ≡ Some tree
inner_expression inner tree h =
    let e : reads splittings.Nothing (wants whole) (row inner) ≡ Some h.state = h.read in
    ap (expression_items splittings.Nothing) (items_row inner) ∙ ap (λ (state : Option State). option_and_then tree_of state) e ∙ h.after

inner_arguments : (inner : SeenFragments) (passed : List Argument) → Passes nothing_passed (row inner) (λ next. arguments_at_end next ≡ Some passed) → passed_in inner ≡ Some passed
inner_arguments inner passed h =
    let e : passes nothing_passed (row inner) ≡ Some h.next = h.read in
    ap passed_items (items_row inner) ∙ ap (λ (reader : Option Passing). option_and_then arguments_at_end reader) e ∙ h.after

bracket_reads : (bracket : Bracket) (outer : Outer) (tree : Tree) (opener : Token) (inner : SeenFragments) → Brackets bracket → expression_in splittings.Nothing inner ≡ Some tree → group_at_operand outer bracket (tree_inside bracket opener inner (items_in inner)) ≡ Some (has tree outer)
bracket_reads enclosures.Round outer tree opener inner h e = rw e refl
bracket_reads enclosures.Hidden outer tree opener inner h e = rw e refl
bracket_reads enclosures.Square outer tree opener inner h e = absurd h
bracket_reads enclosures.SharpRound outer tree opener inner h e = absurd h
bracket_reads enclosures.SharpSquare outer tree opener inner h e = absurd h
bracket_reads (enclosures.Statement kind) outer tree opener inner h e = absurd h
bracket_reads enclosures.Special outer tree opener inner h e = absurd h

list_reads : (bracket : Bracket) (outer : Outer) (opener : Token) (inner : SeenFragments) (items : List Constant) (last : Option Constant) (within : List Item) → bracket ≡ enclosures.SharpRound → list_in inner ≡ Some (inside items last)
    → group_at_operand outer bracket (tree_inside bracket opener inner within) ≡ Some (has (list opener (constants_of items) (tail_of last)) outer)
list_reads bracket outer opener inner items last within is e = rw is (ap (λ (o : Option Inside). option_map (in_brackets outer) (option_map (list_tree opener) o)) e)

vector_reads : (bracket : Bracket) (outer : Outer) (opener : Token) (inner : SeenFragments) (items : List Constant) (within : List Item) → bracket ≡ enclosures.SharpSquare → vector_in inner ≡ Some items
    → group_at_operand outer bracket (tree_inside bracket opener inner within) ≡ Some (has (vector opener (constants_of items)) outer)
vector_reads bracket outer opener inner items within is e = rw is (ap (λ (o : Option (List Constant)). option_map (in_brackets outer) (option_map (vector_tree opener) o)) e)

element_step : (inner : SeenFragments) (outer : Outer) (object index : Tree) (opener closer : Token) → bracket_of opener closer ≡ enclosures.Square → expression_in splittings.Nothing inner ≡ Some index
    → group_behind (object, outer) opener (bracket_of opener closer) (tree_inside (bracket_of opener closer) opener inner (items_in inner)) (passed_in inner) ≡ Some (indexed (object, outer) opener index)
element_step inner outer object index opener closer is e =
    ap (λ (b : Bracket). group_behind (object, outer) opener b (tree_inside b opener inner (items_in inner)) (passed_in inner)) is ∙ ap (λ (o : Option Tree). option_map (indexed (object, outer) opener) o) e

behind_group : (state : State) (tree : Tree) (outer : Outer) (fragments : Fragments) (opener : Token) (bracket : Bracket) (found : Option Tree) (passed : Option (List Argument))
    → AfterOperand tree outer fragments state → at_group state opener bracket found passed ≡ group_behind (tree, outer) opener bracket found passed
behind_group state tree outer fragments opener bracket found passed (counts token is role one_only e) = rw (e, is) refl
behind_group state tree outer fragments opener bracket found passed (holds e) = rw e refl

behind_point : (words : Splitting) (state : State) (tree : Tree) (outer : Outer) (fragments : Fragments) (point : Token) → AfterOperand tree outer fragments state → role_of point ≡ roles.Dot → at_token words state point ≡ Some (dotted tree outer)
behind_point words state tree outer fragments point (counts token is role one_only e) h = rw (e, is) (behind_dot_is (literal (positive token), outer) (integer_part token outer) point (role_of point) h)
  where
    behind_dot_is : (alone part : Part) (point : Token) (role : Role) → role ≡ roles.Dot → behind alone part point role ≡ Some (dotted alone.0 alone.1)
    behind_dot_is alone part point role f = rw f refl
behind_point words state tree outer fragments point (holds e) h = rw e (rw h refl)

under_no_minus : (role : Role) (sign digits : Token) (outer : Outer) → (role ≡ roles.Minus → ⊥) → under_sign role sign digits outer ≡ (literal (positive digits), under sign outer)
under_no_minus roles.Minus sign digits outer h = absurd (h refl)
under_no_minus role sign digits outer h = refl

integer_is : (token : Token) → role_of token ≡ roles.Integer → is_integer (one token ∷ []) ≡ true
integer_is token h = rw h refl

integer_alone : (token : Token) (outer : Outer) → role_of token ≡ roles.Integer → NoNegative outer (one token ∷ []) → integer_part token outer ≡ (literal (positive token), outer)
integer_alone token whole h k = refl
integer_alone token (operated precedence left sign outer) h k = refl
integer_alone token (under sign outer) h k = under_no_minus (role_of sign) sign token outer (λ is. let e = k is in let f = integer_is token h in absurd cc)
integer_alone token (assigned place outer) h k = refl

settled_operand : (state : State) (tree : Tree) (outer : Outer) (fragments : Fragments) → AfterOperand tree outer fragments state → NoNegative outer fragments → settled state ≡ Some (tree, outer)
settled_operand state tree outer fragments (counts token is role one_only e) k =
    let f : integer_part token outer ≡ (literal (positive token), outer) = integer_alone token outer role (subst (λ (fs : Fragments). NoNegative outer fs) one_only k) in
    rw (e, is) (ap (λ (part : Part). Some part) f)
settled_operand state tree outer fragments (holds e) k = rw e refl

behind_operator : (role : Role) (alone part : Part) (sign : Token) (precedence : Precedence) → precedence_of role ≡ Some precedence → behind alone part sign role ≡ Some (operates precedence sign (reduced (suc (below precedence)) part.0 part.1))
behind_operator (roles.Operator found) alone part sign precedence e = let is = some_one found precedence e in rw is refl
behind_operator roles.Minus alone part sign precedence e = let is = some_one precedences.Sum precedence e in rw (← is) refl
behind_operator role alone part sign precedence e = absurd cc

operator_step : (words : Splitting) (state : State) (left : Tree) (outer : Outer) (sign : Token) (precedence : Precedence) → precedence_of (role_of sign) ≡ Some precedence
    → part_before (suc (below precedence)) state ≡ Some (left, outer) → at_token words state sign ≡ Some (wants (operated precedence left sign outer))
operator_step words (wants inner) left outer sign precedence e h = absurd cc
operator_step words (counted digits inner) left outer sign precedence e h =
    behind_operator (role_of sign) (literal (positive digits), inner) (integer_part digits inner) sign precedence e ∙ ap (λ (part : Part). Some (operates precedence sign part)) (some_one _ _ h)
operator_step words (has tree inner) left outer sign precedence e h =
    behind_operator (role_of sign) (tree, inner) (tree, inner) sign precedence e ∙ ap (λ (part : Part). Some (operates precedence sign part)) (some_one _ _ h)
operator_step words (dotted tree inner) left outer sign precedence e h = absurd cc

assigns_step : (words : Splitting) (state : State) (place : Tree) (outer : Outer) (sign : Token) → role_of sign ≡ roles.Assigns → part_before 5 state ≡ Some (place, outer) → at_token words state sign ≡ Some (wants (assigned place outer))
assigns_step words (wants inner) place outer sign e h = absurd cc
assigns_step words (counted digits inner) place outer sign e h = rw e (ap (λ (part : Part). Some (assigns_to part)) (some_one _ _ h))
assigns_step words (has tree inner) place outer sign e h = rw e (ap (λ (part : Part). Some (assigns_to part)) (some_one _ _ h))
assigns_step words (dotted tree inner) place outer sign e h = absurd cc

-- what is read by itself is read as a part of an argument
passing_reads : (fragments : Fragments) (before : List Argument) (token : Option Token) (state next : State) → reads splittings.Nothing state fragments ≡ Some next → passes (passing before token state) fragments ≡ Some (passing before token next)
passing_reads [] before token state next e = ap (λ (s : State). Some (passing before token s)) (some_one state next e)
passing_reads (first ∷ rest) before token state next e = passed_on (after_item splittings.Nothing state (item_of first)) (λ s. passing_reads rest before token s next) e
  where
    passed_on : (found : Option State) → ((s : State) → reads splittings.Nothing s rest ≡ Some next → passes (passing before token s) rest ≡ Some (passing before token next))
        → option_and_then (λ (s : State). reads splittings.Nothing s rest) found ≡ Some next
        → option_and_then (λ (reader : Passing). passes reader rest) (or_else (option_map (passing before token) found) (at_separator (passing before token state) first)) ≡ Some (passing before token next)
    passed_on None more f = absurd cc
    passed_on (Some s) more f = more s f

-- the same where the first fragment is read by another way to begin
value_reads : (first : SeenFragment) (rest : Fragments) (before : List Argument) (token : Option Token) (state next : State) (others : Option Passing) → reads splittings.Nothing state (first ∷ rest) ≡ Some next
    → option_and_then (λ (reader : Passing). passes reader rest) (or_else (in_value before token state (item_of first)) others) ≡ Some (passing before token next)
value_reads first rest before token state next others e = passed_on (after_item splittings.Nothing state (item_of first)) (λ s. passing_reads rest before token s next) e
  where
    passed_on : (found : Option State) → ((s : State) → reads splittings.Nothing s rest ≡ Some next → passes (passing before token s) rest ≡ Some (passing before token next))
        → option_and_then (λ (s : State). reads splittings.Nothing s rest) found ≡ Some next
        → option_and_then (λ (reader : Passing). passes reader rest) (or_else (option_map (passing before token) found) others) ≡ Some (passing before token next)
    passed_on None more f = absurd cc
    passed_on (Some s) more f = more s f

keyword_reads : (first : SeenFragment) (rest : Fragments) (before : List Argument) (token : Option Token) (state next : State) → reads splittings.Nothing state (first ∷ rest) ≡ Some next
    → option_and_then (λ (reader : Passing). passes reader rest) (in_value before token state (item_of first)) ≡ Some (passing before token next)
keyword_reads first rest before token state next e = passed_on (after_item splittings.Nothing state (item_of first)) (λ s. passing_reads rest before token s next) e
  where
    passed_on : (found : Option State) → ((s : State) → reads splittings.Nothing s rest ≡ Some next → passes (passing before token s) rest ≡ Some (passing before token next))
        → option_and_then (λ (s : State). reads splittings.Nothing s rest) found ≡ Some next
        → option_and_then (λ (reader : Passing). passes reader rest) (option_map (passing before token) found) ≡ Some (passing before token next)
    passed_on None more f = absurd cc
    passed_on (Some s) more f = more s f

-- a fresh argument, of which the front is no symbol
fresh_is : (reader : Passing) (before : List Argument) → IsFresh reader before → (first : SeenFragment) → fresh before first ≡ None → after_argument reader first (item_of first) ≡ in_value before None (wants whole) (item_of first)
fresh_is reader before first_argument first e = rw e refl
fresh_is reader before (next_argument others) first e = rw e refl

-- a fresh argument, of which the front is a symbol
fresh_symbol : (reader : Passing) (before : List Argument) → IsFresh reader before → (token : Token) → role_of token ≡ roles.Symbol → after_argument reader (one token) (item_of (one token)) ≡ Some (symbol_first before token)
fresh_symbol reader before first_argument token e = rw e refl
fresh_symbol reader before (next_argument others) token e = rw e refl

read_first : (first : SeenFragment) (rest : Fragments) (state next : State) → reads splittings.Nothing state (first ∷ rest) ≡ Some next → (middle : State) × (after_item splittings.Nothing state (item_of first) ≡ Some middle)
read_first first rest state next e = go (after_item splittings.Nothing state (item_of first)) refl e
  where
    go : (found : Option State) → after_item splittings.Nothing state (item_of first) ≡ found → option_and_then (λ (s : State). reads splittings.Nothing s rest) found ≡ Some next → (middle : State) × (after_item splittings.Nothing state (item_of first) ≡ Some middle)
    go None is f = absurd cc
    go (Some middle) is f = (middle, is)

keyword_complete : (token : Token) (tree : Tree) (fragments : Fragments) → role_of token ≡ roles.Symbol → Read splittings.Nothing whole fragments (λ state. tree_of state ≡ Some tree)
    → (reader : Passing) (before : List Argument) → IsFresh reader before → Passes reader (one token ∷ fragments) (λ next. arguments_in next ≡ Some (before ++ keyword token tree ∷ []))
keyword_complete token tree [] is h reader before f =
    let e : Some (wants whole) ≡ Some h.state = h.read in
    let t : tree_of h.state ≡ Some tree = h.after in
    let u : tree_of (wants whole) ≡ Some tree = ap tree_of (some_one _ _ e) ∙ t in
    absurd cc
keyword_complete token tree (first ∷ rest) is h reader before f =
    let e : reads splittings.Nothing (wants whole) (first ∷ rest) ≡ Some h.state = h.read in
    let t : tree_of h.state ≡ Some tree = h.after in
    let (middle, step) = read_first first rest (wants whole) h.state e in
    let begins : begins_value first ≡ true = begins_read first middle step in
    record {
      next = passing before (Some token) h.state;
      read = rw (fresh_symbol reader before f token is, begins) (keyword_reads first rest before (Some token) (wants whole) h.state e);
      after = rw t refl;
    }

symbol_read : (token : Token) → role_of token ≡ roles.Symbol → after_item splittings.Nothing (wants whole) (item_of (one token)) ≡ Some (has (literal (literals.Symbol token)) whole)
symbol_read token is = rw is refl

two_false : (b c : Bool) → b ≡ true → (b && c) ≡ false → c ≡ false
two_false true c e f = f
two_false false c e f = absurd cc

fresh_other : (role : Role) (before : List Argument) (token : Token) → (role ≡ roles.Symbol → ⊥) → fresh_role role before token ≡ None
fresh_other roles.Symbol before token h = absurd (h refl)
fresh_other role before token h = refl

-- a role that is that of a symbol, or is not
symbol_or : (role : Role) → (role ≡ roles.Symbol) ⊎ (role ≡ roles.Symbol → ⊥)
symbol_or roles.Symbol = inl refl
symbol_or roles.Integer = inr (λ e. cc)
symbol_or roles.Character = inr (λ e. cc)
symbol_or roles.Text = inr (λ e. cc)
symbol_or roles.Boolean = inr (λ e. cc)
symbol_or roles.Named = inr (λ e. cc)
symbol_or (roles.Operator precedence) = inr (λ e. cc)
symbol_or roles.Minus = inr (λ e. cc)
symbol_or roles.Tilde = inr (λ e. cc)
symbol_or roles.Assigns = inr (λ e. cc)
symbol_or roles.Dot = inr (λ e. cc)
symbol_or roles.Comma = inr (λ e. cc)
symbol_or roles.Semicolon = inr (λ e. cc)
symbol_or roles.Arrow = inr (λ e. cc)
symbol_or roles.Colons = inr (λ e. cc)
symbol_or roles.Lets = inr (λ e. cc)
symbol_or roles.Handlers = inr (λ e. cc)
symbol_or roles.Locals = inr (λ e. cc)
symbol_or roles.Remains = inr (λ e. cc)
symbol_or roles.Defines = inr (λ e. cc)
symbol_or roles.Other = inr (λ e. cc)

-- an argument whose front is no symbol
plain_complete : (tree : Tree) (first : SeenFragment) (rest : Fragments) (state : State) → reads splittings.Nothing (wants whole) (first ∷ rest) ≡ Some state → tree_of state ≡ Some tree
    → (reader : Passing) (before : List Argument) → IsFresh reader before → fresh before first ≡ None → Passes reader (first ∷ rest) (λ next. arguments_in next ≡ Some (before ++ value tree ∷ []))
plain_complete tree first rest state e t reader before f none =
    record { next = passing before None state; read = rw (fresh_is reader before f first none) (keyword_reads first rest before None (wants whole) state e); after = rw t refl }

one_read : (found : Option State) (state : State) → option_and_then (λ (s : State). Some s) found ≡ Some state → found ≡ Some state
one_read None state e = absurd cc
one_read (Some found) state e = e

-- an argument that begins with a symbol, which is not passed with a value
symbol_complete : (tree : Tree) (token : Token) (rest : Fragments) (state : State) → role_of token ≡ roles.Symbol → reads splittings.Nothing (wants whole) (one token ∷ rest) ≡ Some state → tree_of state ≡ Some tree → passes_two (one token ∷ rest) ≡ false
    → (reader : Passing) (before : List Argument) → IsFresh reader before → Passes reader (one token ∷ rest) (λ next. arguments_in next ≡ Some (before ++ value tree ∷ []))
symbol_complete tree token [] state is e t two reader before f =
    let s : Some (has (literal (literals.Symbol token)) whole) ≡ Some state = sym (symbol_read token is) ∙ one_read (after_item splittings.Nothing (wants whole) (item_of (one token))) state e in
    let same = some_one _ _ s in
    record {
      next = symbol_first before token;
      read = rw (fresh_symbol reader before f token is) refl;
      after = ap (λ (o : Option Tree). option_map (with_last before None) o) (ap tree_of same ∙ t);
    }
symbol_complete tree token (second ∷ more) state is e t two reader before f =
    let no : begins_value second ≡ false = two_false (is_symbol (role_of token)) (begins_value second) (rw is refl) two in
    let r : reads splittings.Nothing (has (literal (literals.Symbol token)) whole) (second ∷ more) ≡ Some state = ap (λ (o : Option State). option_and_then (λ (s : State). reads splittings.Nothing s (second ∷ more)) o) (sym (symbol_read token is)) ∙ e in
    record {
      next = passing before None state;
      read = rw (fresh_symbol reader before f token is, no) (value_reads second more before None (has (literal (literals.Symbol token)) whole) state (at_separator (symbol_first before token) second) r);
      after = rw t refl;
    }

argument_complete : (tree : Tree) (fragments : Fragments) → passes_two fragments ≡ false → Read splittings.Nothing whole fragments (λ state. tree_of state ≡ Some tree)
    → (reader : Passing) (before : List Argument) → IsFresh reader before → Passes reader fragments (λ next. arguments_in next ≡ Some (before ++ value tree ∷ []))
argument_complete tree [] two h reader before f = let e : Some (wants whole) ≡ Some h.state = h.read in let s = some_one _ _ e in let t : tree_of h.state ≡ Some tree = h.after in let u : tree_of (wants whole) ≡ Some tree = ap tree_of s ∙ t in absurd cc
argument_complete tree (group opener inner closer ∷ rest) two h reader before f = plain_complete tree (group opener inner closer) rest h.state h.read h.after reader before f refl
argument_complete tree (one token ∷ rest) two h reader before f = go (symbol_or (role_of token))
  where
    go : (role_of token ≡ roles.Symbol) ⊎ (role_of token ≡ roles.Symbol → ⊥) → Passes reader (one token ∷ rest) (λ next. arguments_in next ≡ Some (before ++ value tree ∷ []))
    go (inl is) = symbol_complete tree token rest h.state is h.read h.after two reader before f
    go (inr different) = plain_complete tree (one token) rest h.state h.read h.after reader before f (fresh_other (role_of token) before token different)

-- no expression goes on at a comma
comma_ends : (words : Splitting) (state : State) (token : Token) → role_of token ≡ roles.Comma → after_item words state (item_of (one token)) ≡ None
comma_ends words (wants outer) token is = rw is refl
comma_ends words (counted digits outer) token is = rw is refl
comma_ends words (has tree outer) token is = rw is refl
comma_ends words (dotted tree outer) token is = rw is refl

comma_begins : (token : Token) → role_of token ≡ roles.Comma → begins_value (one token) ≡ false
comma_begins token is = rw is refl

comma_separates : (reader : Passing) (passed : List Argument) (token : Token) → role_of token ≡ roles.Comma → arguments_in reader ≡ Some passed → at_separator reader (one token) ≡ Some (passes_next passed)
comma_separates reader passed token is e = rw (is, e) refl

comma_step : (reader : Passing) (passed : List Argument) (token : Token) → role_of token ≡ roles.Comma → arguments_in reader ≡ Some passed → after_argument reader (one token) (item_of (one token)) ≡ Some (passes_next passed)
comma_step nothing_passed passed token is e = absurd cc
comma_step (passes_next before) passed token is e = absurd cc
comma_step (symbol_first before first) passed token is e =
    ap (λ (b : Bool). by_symbol b before first (one token) (item_of (one token))) (comma_begins token is)
    ∙ ap (λ (o : Option State). or_else (option_map (passing before None) o) (at_separator (symbol_first before first) (one token))) (comma_ends splittings.Nothing (has (literal (literals.Symbol first)) whole) token is)
    ∙ comma_separates (symbol_first before first) passed token is e
comma_step (passing before first state) passed token is e =
    ap (λ (o : Option State). or_else (option_map (passing before first) o) (at_separator (passing before first state) (one token))) (comma_ends splittings.Nothing state token is)
    ∙ comma_separates (passing before first state) passed token is e

at_end_is : (reader : Passing) (passed : List Argument) → arguments_in reader ≡ Some passed → arguments_at_end reader ≡ Some passed
at_end_is nothing_passed passed e = absurd cc
at_end_is reader passed e = e

operation_whole : (height : ℕ) (precedence : Precedence) (left right : Tree) (sign : Token) (outer : Outer) → suc (below precedence) ≤ height
    → Some (reduced height right (operated precedence left sign outer)) ≡ Some (reduced height (operation precedence left sign right) outer)
operation_whole height precedence left right sign outer above = rw (lt-ltb (below precedence) height (omega arith)) refl

pub complete : (words : Splitting) (sort : Sort) (fragments : List SeenFragment) → Derives words sort fragments → Complete words sort fragments
complete words sort fragments (integer_leaf w token is) = λ outer. record { state = counted token outer; read = rw is refl; after = counts token refl is refl refl }
complete words sort fragments (character_leaf w token is) = λ outer. record { state = has (literal (literals.Char token)) outer; read = rw is refl; after = holds refl }
complete words sort fragments (string_leaf w token is) = λ outer. record { state = has (literal (literals.Str token)) outer; read = rw is refl; after = holds refl }
complete words sort fragments (boolean_leaf w token is) = λ outer. record { state = has (literal (literals.Bool token)) outer; read = rw is refl; after = holds refl }
complete words sort fragments (symbol_leaf w token is) = λ outer. record { state = has (literal (literals.Symbol token)) outer; read = rw is refl; after = holds refl }
complete words sort fragments (name_leaf w token is plain) = λ outer. record { state = has (name token) outer; read = rw (is, plain) refl; after = holds refl }
complete words sort fragments (list_leaf w items last opener inner closer is h) = λ outer.
    record {
      state = has (list opener (constants_of items) (tail_of last)) outer;
      read = read_one words (wants outer) (group opener inner closer) _ (list_reads (bracket_of opener closer) outer opener inner items last (items_in inner) is (list_complete inner items last h));
      after = holds refl;
    }
complete words sort fragments (vector_leaf w items opener inner closer is h) = λ outer.
    record {
      state = has (vector opener (constants_of items)) outer;
      read = read_one words (wants outer) (group opener inner closer) _ (vector_reads (bracket_of opener closer) outer opener inner items (items_in inner) is (vector_complete inner items h));
      after = holds refl;
    }
complete words sort fragments (bracket_leaf w tree opener inner closer is h) = λ outer.
    let e = inner_expression inner tree (complete splittings.Nothing (expression tree) (row inner) h whole tt) in
    record { state = has tree outer; read = read_one words (wants outer) (group opener inner closer) (has tree outer) (bracket_reads (bracket_of opener closer) outer tree opener inner is e); after = holds refl }
complete words sort fragments (begin_leaf w trees opener inner closer is h) = λ outer.
    let e = begin_read trees opener inner (complete splittings.Nothing (a_body trees) (row inner) h) in
    record { state = has (begin_tree opener (body_of trees)) outer; read = read_one words (wants outer) (group opener inner closer) _ (statement_read keywords.Begin outer opener inner closer _ is e); after = holds refl }
complete words sort fragments (guarded_leaf w guard test trees opener inner closer left tested right after is parts is_round h k) = λ outer.
    let t = inner_expression tested test (complete splittings.Nothing (expression test) (row tested) h whole tt) in
    let e = guarded_read guard test trees opener inner left tested right after parts is_round t (complete splittings.Nothing (a_body trees) after k) in
    record { state = has (guarded guard opener test (body_of trees)) outer; read = read_one words (wants outer) (group opener inner closer) _ (statement_read (keywords.Guard guard) outer opener inner closer _ is e); after = holds refl }
complete words sort fragments (if_leaf w test trees others last opener inner closer left tested right first second is parts is_round h k m) = λ outer.
    let t = inner_expression tested test (complete splittings.Nothing (expression test) (row tested) h whole tt) in
    let e = if_read test trees others last opener inner left tested right first second parts is_round t (complete splittings.Branches (a_body trees) first k) (complete splittings.Branches (alternatives others last) second m) in
    record { state = has (if_tree opener test (body_of trees) (alternatives_of others) last) outer; read = read_one words (wants outer) (group opener inner closer) _ (statement_read keywords.If outer opener inner closer _ is e); after = holds refl }
complete words sort fragments (case_leaf w trees last opener inner closer is h) = λ outer.
    let e = case_read trees last opener inner (complete splittings.Nothing (arms true trees last) (row inner) h) in
    record { state = has (case_tree opener (arms_of trees) last) outer; read = read_one words (wants outer) (group opener inner closer) _ (statement_read keywords.Case outer opener inner closer _ is e); after = holds refl }
complete words sort fragments (select_leaf w selected test trees last opener inner closer left within right after is parts is_round h k) = λ outer.
    let e = select_read selected test trees last opener inner left within right after parts is_round (complete splittings.Tests (head selected test) (row within) h) (complete splittings.Nothing (arms false trees last) after k) in
    record { state = has (select_tree opener selected (maybe_of test) (arms_of trees) last) outer; read = read_one words (wants outer) (group opener inner closer) _ (statement_read keywords.Select outer opener inner closer _ is e); after = holds refl }
complete words sort fragments (block_leaf w exit trees clauses opener inner closer left within right first second is parts is_round x suits h k) = λ outer.
    let e = block_read exit trees clauses opener inner left within right first second parts is_round x suits (complete splittings.Endings (a_body trees) first h) (complete splittings.Endings (block_clauses clauses) second k) in
    record { state = has (block_tree opener exit (body_of trees) (block_clauses_of clauses)) outer; read = read_one words (wants outer) (group opener inner closer) _ (statement_read keywords.Block outer opener inner closer _ is e); after = holds refl }
complete words sort fragments (for_leaf w clauses stop trees last opener inner closer left within right first second is parts is_round h k m) = λ outer.
    let e = for_read clauses stop trees last opener inner left within right first second parts is_round (complete splittings.Steps (for_head clauses stop) (row within) h) (complete splittings.LastPart (a_body trees) first k) (complete splittings.LastPart (ending_part last) second m) in
    record { state = has (for_tree opener (for_clauses_of clauses) (stop_of stop) (body_of trees) last) outer; read = read_one words (wants outer) (group opener inner closer) _ (statement_read keywords.For outer opener inner closer _ is e); after = holds refl }
complete words sort fragments (method_leaf w found results trees opener inner closer is h) = λ outer.
    let e = method_read found results trees opener inner (complete splittings.Nothing (signature found results trees) (row inner) h) in
    record { state = has (method_tree opener (parameters_of found results) (body_of trees)) outer; read = read_one words (wants outer) (group opener inner closer) _ (statement_read keywords.Method outer opener inner closer _ is e); after = holds refl }
complete words sort fragments (leaf_operand w tree all h) = λ outer. complete words (leaf tree) all h outer
complete words sort fragments (call_operand w function passed before all opener inner closer parts is h k) = λ outer.
    let first = complete words (operand function) before h outer in
    let e = inner_arguments inner passed (complete splittings.Nothing (arguments passed) (row inner) k) in
    let step : after_item words first.state (item_of (group opener inner closer)) ≡ Some (called (function, outer) passed) =
    behind_group first.state function outer before opener (bracket_of opener closer) (tree_inside (bracket_of opener closer) opener inner (items_in inner)) (passed_in inner) first.after
    ∙ ap (λ (b : Bracket). group_behind (function, outer) opener b (tree_inside b opener inner (items_in inner)) (passed_in inner)) is ∙ ap (λ (o : Option (List Argument)). option_map (called (function, outer)) o) e in
    record {
      state = has (call function (arguments_of passed)) outer;
      read = ap (reads words (wants outer)) parts ∙ reads_on words before (group opener inner closer ∷ []) (wants outer) first.state first.read ∙ read_one words first.state (group opener inner closer) _ step;
      after = holds refl;
    }
complete words sort fragments (element_operand w object index before all opener inner closer parts is h k) = λ outer.
    let first = complete words (operand object) before h outer in
    let e = inner_expression inner index (complete splittings.Nothing (expression index) (row inner) k whole tt) in
    let step : after_item words first.state (item_of (group opener inner closer)) ≡ Some (indexed (object, outer) opener index) =
    behind_group first.state object outer before opener (bracket_of opener closer) (tree_inside (bracket_of opener closer) opener inner (items_in inner)) (passed_in inner) first.after
    ∙ ap (λ (b : Bracket). group_behind (object, outer) opener b (tree_inside b opener inner (items_in inner)) (passed_in inner)) is ∙ ap (λ (o : Option Tree). option_map (indexed (object, outer) opener) o) e in
    record {
      state = has (element object opener index) outer;
      read = ap (reads words (wants outer)) parts ∙ reads_on words before (group opener inner closer ∷ []) (wants outer) first.state first.read ∙ read_one words first.state (group opener inner closer) _ step;
      after = holds refl;
    }
complete words sort fragments (member_operand w object point token before all parts is_dot is_name plain h) = λ outer.
    let first = complete words (operand object) before h outer in
    let dotted_is = behind_point words first.state object outer before point first.after is_dot in
    let named_is : at_token words (dotted object outer) token ≡ Some (has (member object token) outer) = rw (is_name, plain) refl in
    let step : reads words first.state (one point ∷ one token ∷ []) ≡ Some (has (member object token) outer) =
    ap (λ (o : Option State). option_and_then (λ (s : State). reads words s (one token ∷ [])) o) dotted_is ∙ read_one words (dotted object outer) (one token) _ named_is in
    record {
      state = has (member object token) outer;
      read = ap (reads words (wants outer)) parts ∙ reads_on words before (one point ∷ one token ∷ []) (wants outer) first.state first.read ∙ step;
      after = holds refl;
    }
complete words sort fragments (operand_signed w tree all h) = λ outer alone.
    let first = complete words (operand tree) all h outer in
    let e = settled_operand first.state tree outer all first.after alone in
    record { state = first.state; read = first.read; after = λ height. ap (λ (o : Option Part). option_map (reduced_part height) o) e }
complete words sort fragments (negative_signed w sign digits is_minus is_digits) = λ outer alone.
    record {
      state = counted digits (under sign outer);
      read = rw (is_minus, is_digits) refl;
      after = λ height. rw is_minus refl;
    }
complete words sort fragments (minus_signed w sign tree after is plain h) = λ outer alone.
    let first = complete words (signed tree) after h (under sign outer) (λ e. plain) in
    record { state = first.state; read = rw is first.read; after = first.after }
complete words sort fragments (tilde_signed w sign tree after is h) = λ outer alone.
    let first = complete words (signed tree) after h (under sign outer) (λ e. let f = sym is ∙ e in absurd cc) in
    record { state = first.state; read = rw is first.read; after = first.after }
complete words sort fragments (signed_level w tree all h) = λ outer fits.
    let first = complete words (signed tree) all h outer (fits_signed 0 outer all fits) in
    record { state = first.state; read = first.read; after = λ height above. first.after height }
complete words sort fragments (up_level w low tree all h) = λ outer fits.
    let first = complete words (level low tree) all h outer (fits_up low outer fits) in
    record { state = first.state; read = first.read; after = λ height above. first.after height (omega arith) }
complete words sort fragments (operation_level w precedence left right sign before after all parts is h k) = λ outer fits.
    let first = complete words (level (suc (below precedence)) left) before h outer fits in
    let left_is = first.after (suc (below precedence)) (omega arith) ∙ ap (λ (p : Part). Some p) (fits_stays (suc (below precedence)) left outer fits) in
    let second = complete words (level (below precedence) right) after k (operated precedence left sign outer) (omega arith) in
    let step = operator_step words first.state left outer sign precedence is left_is in
    record {
      state = second.state;
      read = ap (reads words (wants outer)) parts ∙ reads_on words before (one sign ∷ after) (wants outer) first.state first.read ∙ ap (λ (o : Option State). option_and_then (λ (s : State). reads words s after) o) step ∙ second.read;
      after = λ height above. second.after height (omega arith) ∙ operation_whole height precedence left right sign outer above;
    }
complete words sort fragments (level_expression w tree all h) = λ outer ends.
    let first = complete words (level 5 tree) all h outer (ends_fits 5 outer ends) in
    record { state = first.state; read = first.read; after = finishes 5 first.state tree outer (first.after 5 (omega arith)) }
complete words sort fragments (assignment_expression w place assigned_tree sign before after all parts is h k) = λ outer ends.
    let first = complete words (level 5 place) before h outer (ends_fits 5 outer ends) in
    let place_is = first.after 5 (omega arith) ∙ ap (λ (p : Part). Some p) (fits_stays 5 place outer (ends_fits 5 outer ends)) in
    let second = complete words (expression assigned_tree) after k (assigned place outer) tt in
    let step = assigns_step words first.state place outer sign is place_is in
    record {
      state = second.state;
      read = ap (reads words (wants outer)) parts ∙ reads_on words before (one sign ∷ after) (wants outer) first.state first.read ∙ ap (λ (o : Option State). option_and_then (λ (s : State). reads words s after) o) step ∙ second.read;
      after = second.after;
    }
complete words sort fragments (keyword_argument token tree after is h) = λ reader before fresh_reader.
    keyword_complete token tree after is (complete splittings.Nothing (expression tree) after h whole tt) reader before fresh_reader
complete words sort fragments (value_argument tree all two h) = λ reader before fresh_reader.
    argument_complete tree all two (complete splittings.Nothing (expression tree) all h whole tt) reader before fresh_reader
complete words sort fragments (one_argument passed all h) = complete splittings.Nothing (argument passed) all h nothing_passed [] first_argument
complete words sort fragments (more_arguments passed last separator before after all parts is h k) =
    let first = complete splittings.Nothing (some_arguments passed) before h in
    let second = complete splittings.Nothing (argument last) after k (passes_next passed) passed (next_argument passed) in
    let step = comma_step first.next passed separator is first.after in
    record {
      next = second.next;
      read = ap (passes nothing_passed) parts ∙ passes_on before (one separator ∷ after) nothing_passed first.next first.read ∙ ap (λ (o : Option Passing). option_and_then (λ (r : Passing). passes r after) o) step ∙ second.read;
      after = second.after;
    }
complete words sort fragments no_arguments = record { next = nothing_passed; read = refl; after = refl }
complete words sort fragments (all_arguments passed all h) =
    let first = complete splittings.Nothing (some_arguments passed) all h in
    record { next = first.next; read = first.read; after = at_end_is first.next passed first.after }
complete words sort fragments (by_expression w tree all h) = let r = complete words (expression tree) all h whole tt in expression_item_read words tree all r.state r.read r.after
complete words sort fragments (by_let w word equals target assigned_tree before after all parts role is t plainly h) =
    let r = complete words (expression assigned_tree) after h whole tt in let_item_read words word equals target assigned_tree before after all parts role is t plainly r.state r.read r.after
complete words sort fragments (by_handler w word second equals condition handler before after all parts role also is t plainly h) =
    let r = complete words (expression handler) after h whole tt in handler_item_read words word second equals condition handler before after all parts role also is t plainly r.state r.read r.after
complete words sort fragments (last_item w tree all h) = last_item_read words tree all (complete words (an_item tree) all h)
complete words sort fragments (more_items w tree others separator before after all parts is h k) = more_items_read words tree others separator before after all parts is (complete words (an_item tree) before h) (complete words (some_items others) after k)
complete words sort fragments (empty_body w) = empty_body_read words
complete words sort fragments (separator_body w separator is) = separator_body_read words separator is
complete words sort fragments (items_body w trees all h) = items_body_read words trees all (complete words (some_items trees) all h)
complete words sort fragments (ended_body w trees separator before all parts is h) = ended_body_read words trees separator before all parts is (complete words (some_items trees) before h)
complete words sort fragments no_alternatives = no_alternatives_read
complete words sort fragments (by_else trees word after is h) = else_read trees word after is (complete splittings.Branches (a_body trees) after h)
complete words sort fragments (more_alternatives test trees others last word left tested right first second all parts is is_round h k m) =
    let t = inner_expression tested test (complete splittings.Nothing (expression test) (row tested) h whole tt) in
    more_alternatives_read test trees others last word left tested right first second all parts is is_round t (complete splittings.Branches (a_body trees) first k) (complete splittings.Branches (alternatives others last) second m)
complete words sort fragments (one_test tree all h) = let r = complete splittings.Nothing (expression tree) all h whole tt in one_test_read tree all r.state r.read r.after
complete words sort fragments (more_tests tree others separator before after all parts is h k) =
    let r = complete splittings.Nothing (expression tree) before h whole tt in more_tests_read tree others separator before after all parts is r.state r.read r.after (complete splittings.Nothing (some_tests others) after k)
complete words sort fragments empty_open = inl (refl, refl)
complete words sort fragments (items_open trees all h) = inr (complete splittings.Nothing (some_items trees) all h)
complete words sort fragments (last_arm single trees entries sign before after all parts is fit h k) = last_arm_read single trees entries sign before after all parts is fit (complete splittings.Nothing (some_tests trees) before h) (complete splittings.Nothing (open_body entries) after k)
complete words sort fragments (more_arms single trees entries others last sign separator before middle after all parts is semi fit h k m) =
    more_arms_read single trees entries others last sign separator before middle after all parts is semi fit (complete splittings.Nothing (some_tests trees) before h) (complete splittings.Nothing (open_body entries) middle k) (complete splittings.Nothing (choices single others last) after m)
complete words sort fragments (last_choice single entries word after is h) = last_choice_read single entries word after is (complete splittings.Nothing (open_body entries) after h)
complete words sort fragments (last_choice_arrow single entries word sign after is also h) = last_choice_arrow_read single entries word sign after is also (complete splittings.Nothing (open_body entries) after h)
complete words sort fragments (no_arms single) = refl
complete words sort fragments (some_arms single trees last all h) = some_arms_read single trees last all (complete splittings.Nothing (choices single trees last) all h)
complete words sort fragments (ended_arms single trees last separator before all parts is h) = ended_arms_read single trees last separator before all parts is (complete splittings.Nothing (choices single trees last) before h)
complete words sort fragments (by_identity selected all h) = let r = complete splittings.Tests (expression selected) all h whole tt in identity_read selected all r.state r.read r.after
complete words sort fragments (by_test selected test word before after all parts is h k) =
    let r = complete splittings.Tests (expression selected) before h whole tt in
    let t = complete splittings.Tests (expression test) after k whole tt in test_read selected test word before after all parts is r.state t.state r.read r.after t.read t.after
complete words sort fragments no_block_clause = no_block_clause_read
complete words sort fragments (by_afterwards trees others word first second all parts is h k) = afterwards_read trees others word first second all parts is (complete splittings.Endings (a_body trees) first h) (complete splittings.Endings (block_clauses others) second k)
complete words sort fragments (by_cleanup trees others word first second all parts is h k) = cleanup_read trees others word first second all parts is (complete splittings.Endings (a_body trees) first h) (complete splittings.Endings (block_clauses others) second k)
complete words sort fragments (by_exception variable condition trees others word left within right first second all parts is is_round c h k) =
    exception_read variable condition trees others word left within right first second all parts is is_round c (complete splittings.Endings (a_body trees) first h) (complete splittings.Endings (block_clauses others) second k)
complete words sort fragments (by_then variable first next equals word before middle after all parts is role v plainly h k) =
    let r = complete splittings.Steps (expression first) middle h whole tt in
    let t = complete splittings.Steps (expression next) after k whole tt in then_read variable first next equals word before middle after all parts is role v plainly (step_expression first middle r.state r.read r.after) (step_expression next after t.state t.read t.after)
complete words sort fragments (by_in variable collection word before after all parts is v plainly h) =
    let r = complete splittings.Steps (expression collection) after h whole tt in in_read variable collection word before after all parts is v plainly (step_expression collection after r.state r.read r.after)
complete words sort fragments (by_from variable start limit step word before middle after all parts is v plainly h k) =
    let r = complete splittings.Steps (expression start) middle h whole tt in from_read variable start limit step word before middle after all parts is v plainly (step_expression start middle r.state r.read r.after) (complete splittings.Steps (range limit step) after k)
complete words sort fragments no_range = no_range_read
complete words sort fragments (step_range tree word after is h) = let r = complete splittings.Steps (expression tree) after h whole tt in step_range_read tree word after is (step_expression tree after r.state r.read r.after)
complete words sort fragments (limit_range bound step word first second all parts is h k) =
    let r = complete splittings.Steps (expression bound) first h whole tt in limit_range_read bound step word first second all parts is (step_expression bound first r.state r.read r.after) (complete splittings.Steps (range no_limit step) second k)
complete words sort fragments (last_clause tree all h) = last_clause_read tree all (complete splittings.Steps (for_clause tree) all h)
complete words sort fragments (only_stop word test after is h) = let r = complete splittings.Steps (expression test) after h whole tt in only_stop_read word test after is (step_expression test after r.state r.read r.after)
complete words sort fragments (more_clauses tree others stop separator before after all parts is h k) = more_clauses_read tree others stop separator before after all parts is (complete splittings.Steps (for_clause tree) before h) (complete splittings.Steps (for_clauses others stop) after k)
complete words sort fragments empty_head = refl
complete words sort fragments (some_clauses trees stop all h) = some_clauses_read trees stop all (complete splittings.Steps (for_clauses trees stop) all h)
complete words sort fragments no_finally = no_finally_read
complete words sort fragments (by_finally trees word after is h) = finally_read trees word after is (complete splittings.LastPart (a_body trees) after h)
complete words sort fragments no_initial = no_initial_read
complete words sort fragments (by_initial tree equals after is h) = let r = complete splittings.Nothing (expression tree) after h whole tt in initial_read tree equals after is r.state r.read r.after
complete words sort fragments (plain_key variable default before after all parts v h) = plain_key_read variable default before after all parts v (complete splittings.Nothing (initial default) after h)
complete words sort fragments (named_key token variable default before after all parts is v h) = named_key_read token variable default before after all parts is v (complete splittings.Nothing (initial default) after h)
complete words sort fragments no_more_keys = no_more_keys_read
complete words sort fragments (all_keys separator mark is marks) = all_keys_read separator mark is marks
complete words sort fragments (key_and_more tree others takes_all separator first second all parts is h k) = key_and_more_read tree others takes_all separator first second all parts is (complete splittings.Nothing (key tree) first h) (complete splittings.Nothing (more_keys others takes_all) second k)
complete words sort fragments (last_required required all is) = last_required_read required all is
complete words sort fragments (more_required required found separator before after all parts role is h) = more_required_read required found separator before after all parts role is (complete splittings.Nothing (listed found) after h)
complete words sort fragments (last_next mark token marks is) = last_next_read mark token marks is
complete words sort fragments (more_next mark token separator rest keys after marks is role h) = more_next_read mark token separator rest keys after marks is role (complete splittings.Nothing (listed (list_of [] None rest keys)) after h)
complete words sort fragments (last_rest mark token marks is) = last_rest_read mark token marks is
complete words sort fragments (more_rest mark token separator keys after marks is role h) = more_rest_read mark token separator keys after marks is role (complete splittings.Nothing (listed (list_of [] None None keys)) after h)
complete words sort fragments (bare_keys mark takes_all after marks h) = bare_keys_read mark takes_all after marks (complete splittings.Nothing (more_keys [] takes_all) after h)
complete words sort fragments (first_key mark tree others takes_all first second all parts marks h k) = first_key_read mark tree others takes_all first second all parts marks (complete splittings.Nothing (key tree) first h) (complete splittings.Nothing (more_keys others takes_all) second k)
complete words sort fragments empty_brackets = refl
complete words sort fragments (some_listed found all h) = some_listed_read found all (complete splittings.Nothing (listed found) all h)
complete words sort fragments (by_signature found results trees left within right given end after all parts is r n a h k) =
    signature_read found results trees left within right given end after all parts is r n a (complete splittings.Nothing (brackets found) (row within) h) (complete splittings.Nothing (a_body trees) after k)
complete words sort fragments (by_local w trees word after is h) = local_item_read words trees word after is (complete splittings.Nothing (local_methods trees) after h)
complete words sort fragments (last_method found results trees opener token inner closer after is parts role h) =
    let e = named_read found results trees token inner after parts role (complete splittings.Nothing (signature found results trees) after h) in
    last_method_read opener inner closer _ (method_alone_read opener inner closer (named_of token (method_of found results trees)) is e)
complete words sort fragments (more_methods found results trees others opener token inner closer separator after behind is parts role comma_role h k) =
    let e = named_read found results trees token inner after parts role (complete splittings.Nothing (signature found results trees) after h) in
    more_methods_read opener inner closer _ others separator behind comma_role (method_alone_read opener inner closer (named_of token (method_of found results trees)) is e) (complete splittings.Nothing (local_methods others) behind k)
