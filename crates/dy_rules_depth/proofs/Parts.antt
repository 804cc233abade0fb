-- A relation of trees to others in their places holds of everything that holds trees, where it holds of all that is made of parts.
use Rattle.std.proofs.Common.{ℕ, max, List, [], ◌∷◌, map, Option, Some, None, option_map}
use Rattle.dy_rules.specs.ConstantTrees.{Constant, Constants, no_constant, constant_and, Tail, no_tail, tail}
use Rattle.dy_rules.specs.Types.{TypeTree, TypeTrees, no_type, type_and, Single, VariableTree, TargetTree, one_target, several, RequiredTree, required_variable, required_single, ResultTree, several_results, one_result}
use Rattle.dy_rules.specs.Trees.{Tree, Parameters, parameters, MaybeKeys, no_keys, some_keys, Keys, no_key, key_and, Key, a_key, LocalMethods, no_method, method_and, LocalMethod, local_method, BlockClauses, no_clause, clause_and, BlockClause, afterwards_clause, cleanup_clause, exception_clause, ForClauses, no_for_clause, for_clause_and, ForClause, then_clause, in_clause, from_clause, MaybeLimit, no_limit, a_limit, MaybeStop, no_stop, a_stop, MaybeTree, no_tree, some_tree, Body, no_item, item_and, ItemTree, let_item, handler_item, local_item, expression_item, Alternatives, no_alternative, alternative_and, Alternative, alternative, Otherwise, no_otherwise, otherwise, Arms, no_arm, arm_and, Arm, arm, Tests, no_test, test_and, Arguments, no_argument, argument_and, Argument, keyword, value}
use Rattle.dy_rules.specs.Forms.{SlotOption, init_keyword, required_init_keyword, init_value, init_function, setter, SlotTree}
use Rattle.dy_rules.specs.Depth.{depth, type_depth, constant_depth, constants_depth, tail_depth, types_depth, declared_depth, variable_depth, variables_depth, target_depth, required_depth, given_depth, results_depth, parameters_depth, maybe_keys_depth, keys_depth, key_depth, methods_depth, method_depth, block_clauses_depth, block_clause_depth, for_clauses_depth, for_clause_depth, limit_depth, stop_depth, maybe_depth, arms_depth, arm_depth, tests_depth, body_depth, item_depth, alternatives_depth, alternative_depth, otherwise_depth, arguments_depth, argument_depth}
use Rattle.dy_rules.specs.FormDepth.{option_depth, options_depth, slots_depth, domain_depth}
use Rattle.dy_rules_depth.specs.Changes.{Change, changed_constants, changed_tail, changed_types, changed_variable, changed_target, changed_required, changed_results, changed_maybe, changed_key, changed_keys, changed_maybe_keys, changed_parameters, changed_body, changed_item, changed_methods, changed_method, changed_argument, changed_arguments, changed_alternative, changed_alternatives, changed_otherwise, changed_tests, changed_arm, changed_arms, changed_clause, changed_clauses, changed_limit, changed_for, changed_for_clauses, changed_stop, changed_option, changed_slot}

-- a relation of something to what stands in its place, with how deep both are
pub record Parts : Type 1 where
  pub change : Change
  pub Related : (A : Type 0) → A → A → ℕ → ℕ → Type 0
  pub same : (A : Type 0) (a : A) → Related A a a 0 0
  pub leaf : (A : Type 0) (a : A) → Related A a a 1 1
  pub one : {A B : Type 0} (make : A → B) {a b : A} {m n : ℕ} → Related A a b m n → Related B (make a) (make b) m n
  pub two : {A B C : Type 0} (make : A → B → C) {a b : A} {m n : ℕ} {c d : B} {k l : ℕ} → Related A a b m n → Related B c d k l → Related C (make a c) (make b d) (max m k) (max n l)
  pub tree : (tree : Tree) → Related Tree tree (change.on_tree tree) (depth tree) (depth (change.on_tree tree))
  pub type : (type : TypeTree) → Related TypeTree type (change.on_type type) (type_depth type) (type_depth (change.on_type type))
  pub constant : (constant : Constant) → Related Constant constant (change.on_constant constant) (constant_depth constant) (constant_depth (change.on_constant constant))

abbrev slot_with : SlotTree → VariableTree → MaybeTree × List SlotOption → SlotTree
slot_with slot variable behind = record { adjectives = slot.adjectives; variable = variable; default = behind.0; options = behind.1 }

module _ (parts : Parts) where
  pub pair : {A B : Type 0} {a b : A} {m n : ℕ} {c d : B} {k l : ℕ} → parts.Related A a b m n → parts.Related B c d k l → parts.Related (A × B) (a, c) (b, d) (max m k) (max n l)
  pair {A = A} {B = B} h i = parts.two (λ (x : A) (y : B). (x, y)) h i

  -- constants

  pub related_constants : (items : Constants) → parts.Related Constants items (changed_constants parts.change items) (constants_depth items) (constants_depth (changed_constants parts.change items))
  related_constants no_constant = parts.same Constants no_constant
  related_constants (constant_and first rest) = parts.two constant_and (parts.constant first) (related_constants rest)

  pub related_tail : (last : Tail) → parts.Related Tail last (changed_tail parts.change last) (tail_depth last) (tail_depth (changed_tail parts.change last))
  related_tail no_tail = parts.same Tail no_tail
  related_tail (tail last) = parts.one tail (parts.constant last)

  -- types and variables

  pub related_types : (types : TypeTrees) → parts.Related TypeTrees types (changed_types parts.change types) (types_depth types) (types_depth (changed_types parts.change types))
  related_types no_type = parts.same TypeTrees no_type
  related_types (type_and first rest) = parts.two type_and (parts.type first) (related_types rest)

  related_declared : (declared : Option TypeTree) → parts.Related (Option TypeTree) declared (option_map parts.change.on_type declared) (declared_depth declared) (declared_depth (option_map parts.change.on_type declared))
  related_declared None = parts.same (Option TypeTree) None
  related_declared (Some type) = parts.one Some (parts.type type)

  pub related_variable : (variable : VariableTree) → parts.Related VariableTree variable (changed_variable parts.change variable) (variable_depth variable) (variable_depth (changed_variable parts.change variable))
  related_variable variable = parts.one (λ declared. record { variable = variable.variable; declared = declared }) (related_declared variable.declared)

  pub related_variables : (variables : List VariableTree) → parts.Related (List VariableTree) variables (map (changed_variable parts.change) variables) (variables_depth variables) (variables_depth (map (changed_variable parts.change) variables))
  related_variables [] = parts.same (List VariableTree) []
  related_variables (first ∷ rest) = parts.two (λ (v : VariableTree) (others : List VariableTree). v ∷ others) (related_variable first) (related_variables rest)

  pub related_target : (target : TargetTree) → parts.Related TargetTree target (changed_target parts.change target) (target_depth target) (target_depth (changed_target parts.change target))
  related_target (one_target variable) = parts.one one_target (related_variable variable)
  related_target (several variables rest) = parts.one (λ list. several list rest) (related_variables variables)

  pub related_required : (required : List RequiredTree) → parts.Related (List RequiredTree) required (map (changed_required parts.change) required) (required_depth required) (required_depth (map (changed_required parts.change) required))
  related_required [] = parts.same (List RequiredTree) []
  related_required (required_variable variable ∷ rest) = parts.two (λ (v : VariableTree) (others : List RequiredTree). required_variable v ∷ others) (related_variable variable) (related_required rest)
  related_required (required_single token single ∷ rest) = parts.two (λ (s : Single) (others : List RequiredTree). required_single token s ∷ others) (parts.leaf Single single) (related_required rest)

  related_given : (given : Option VariableTree) → parts.Related (Option VariableTree) given (option_map (changed_variable parts.change) given) (given_depth given) (given_depth (option_map (changed_variable parts.change) given))
  related_given None = parts.same (Option VariableTree) None
  related_given (Some variable) = parts.one Some (related_variable variable)

  pub related_results : (results : Option ResultTree) → parts.Related (Option ResultTree) results (option_map (changed_results parts.change) results) (results_depth results) (results_depth (option_map (changed_results parts.change) results))
  related_results None = parts.same (Option ResultTree) None
  related_results (Some (several_results variables rest)) = parts.two (λ (vs : List VariableTree) (last : Option VariableTree). Some (several_results vs last)) (related_variables variables) (related_given rest)
  related_results (Some (one_result variable)) = parts.one (λ (v : VariableTree). Some (one_result v)) (related_variable variable)

  -- parameters

  pub related_maybe : (tree : MaybeTree) → parts.Related MaybeTree tree (changed_maybe parts.change tree) (maybe_depth tree) (maybe_depth (changed_maybe parts.change tree))
  related_maybe no_tree = parts.same MaybeTree no_tree
  related_maybe (some_tree tree) = parts.one some_tree (parts.tree tree)

  pub related_key : (key : Key) → parts.Related Key key (changed_key parts.change key) (key_depth key) (key_depth (changed_key parts.change key))
  related_key (a_key symbol variable default) = parts.two (a_key symbol) (related_variable variable) (related_maybe default)

  pub related_keys : (keys : Keys) → parts.Related Keys keys (changed_keys parts.change keys) (keys_depth keys) (keys_depth (changed_keys parts.change keys))
  related_keys no_key = parts.same Keys no_key
  related_keys (key_and first rest) = parts.two key_and (related_key first) (related_keys rest)

  pub related_maybe_keys : (keys : MaybeKeys) → parts.Related MaybeKeys keys (changed_maybe_keys parts.change keys) (maybe_keys_depth keys) (maybe_keys_depth (changed_maybe_keys parts.change keys))
  related_maybe_keys no_keys = parts.same MaybeKeys no_keys
  related_maybe_keys (some_keys keys takes_all) = parts.one (λ found. some_keys found takes_all) (related_keys keys)

  pub related_parameters : (signature : Parameters) → parts.Related Parameters signature (changed_parameters parts.change signature) (parameters_depth signature) (parameters_depth (changed_parameters parts.change signature))
  related_parameters (parameters required next rest keys results) =
      parts.two (λ (front : List RequiredTree × MaybeKeys) (given : Option ResultTree). parameters front.0 next rest front.1 given) (pair (related_required required) (related_maybe_keys keys)) (related_results results)

  -- bodies

  mutual
    pub related_body : (body : Body) → parts.Related Body body (changed_body parts.change body) (body_depth body) (body_depth (changed_body parts.change body))
    related_body no_item = parts.same Body no_item
    related_body (item_and first rest) = parts.two item_and (related_item first) (related_body rest)

    pub related_item : (item : ItemTree) → parts.Related ItemTree item (changed_item parts.change item) (item_depth item) (item_depth (changed_item parts.change item))
    related_item (let_item word target assigned) = parts.two (let_item word) (related_target target) (parts.tree assigned)
    related_item (handler_item word condition handler) = parts.two (handler_item word) (parts.type condition) (parts.tree handler)
    related_item (local_item word methods) = parts.one (local_item word) (related_methods methods)
    related_item (expression_item tree) = parts.one expression_item (parts.tree tree)

    pub related_methods : (methods : LocalMethods) → parts.Related LocalMethods methods (changed_methods parts.change methods) (methods_depth methods) (methods_depth (changed_methods parts.change methods))
    related_methods no_method = parts.same LocalMethods no_method
    related_methods (method_and first rest) = parts.two method_and (related_method first) (related_methods rest)

    pub related_method : (method : LocalMethod) → parts.Related LocalMethod method (changed_method parts.change method) (method_depth method) (method_depth (changed_method parts.change method))
    related_method (local_method word token signature body) = parts.two (local_method word token) (related_parameters signature) (related_body body)

  -- parts of statements

  pub related_argument : (argument : Argument) → parts.Related Argument argument (changed_argument parts.change argument) (argument_depth argument) (argument_depth (changed_argument parts.change argument))
  related_argument (keyword symbol tree) = parts.one (keyword symbol) (parts.tree tree)
  related_argument (value tree) = parts.one value (parts.tree tree)

  pub related_arguments : (arguments : Arguments) → parts.Related Arguments arguments (changed_arguments parts.change arguments) (arguments_depth arguments) (arguments_depth (changed_arguments parts.change arguments))
  related_arguments no_argument = parts.same Arguments no_argument
  related_arguments (argument_and first rest) = parts.two argument_and (related_argument first) (related_arguments rest)

  pub related_alternative : (other : Alternative) → parts.Related Alternative other (changed_alternative parts.change other) (alternative_depth other) (alternative_depth (changed_alternative parts.change other))
  related_alternative (alternative test body) = parts.two alternative (parts.tree test) (related_body body)

  pub related_alternatives : (others : Alternatives) → parts.Related Alternatives others (changed_alternatives parts.change others) (alternatives_depth others) (alternatives_depth (changed_alternatives parts.change others))
  related_alternatives no_alternative = parts.same Alternatives no_alternative
  related_alternatives (alternative_and first rest) = parts.two alternative_and (related_alternative first) (related_alternatives rest)

  pub related_otherwise : (last : Otherwise) → parts.Related Otherwise last (changed_otherwise parts.change last) (otherwise_depth last) (otherwise_depth (changed_otherwise parts.change last))
  related_otherwise no_otherwise = parts.same Otherwise no_otherwise
  related_otherwise (otherwise body) = parts.one otherwise (related_body body)

  pub related_tests : (tried : Tests) → parts.Related Tests tried (changed_tests parts.change tried) (tests_depth tried) (tests_depth (changed_tests parts.change tried))
  related_tests no_test = parts.same Tests no_test
  related_tests (test_and first rest) = parts.two test_and (parts.tree first) (related_tests rest)

  pub related_arm : (branch : Arm) → parts.Related Arm branch (changed_arm parts.change branch) (arm_depth branch) (arm_depth (changed_arm parts.change branch))
  related_arm (arm tried body) = parts.two arm (related_tests tried) (related_body body)

  pub related_arms : (arms : Arms) → parts.Related Arms arms (changed_arms parts.change arms) (arms_depth arms) (arms_depth (changed_arms parts.change arms))
  related_arms no_arm = parts.same Arms no_arm
  related_arms (arm_and first rest) = parts.two arm_and (related_arm first) (related_arms rest)

  pub related_clause : (clause : BlockClause) → parts.Related BlockClause clause (changed_clause parts.change clause) (block_clause_depth clause) (block_clause_depth (changed_clause parts.change clause))
  related_clause (afterwards_clause body) = parts.one afterwards_clause (related_body body)
  related_clause (cleanup_clause body) = parts.one cleanup_clause (related_body body)
  related_clause (exception_clause variable condition body) = parts.two (exception_clause variable) (parts.type condition) (related_body body)

  pub related_clauses : (clauses : BlockClauses) → parts.Related BlockClauses clauses (changed_clauses parts.change clauses) (block_clauses_depth clauses) (block_clauses_depth (changed_clauses parts.change clauses))
  related_clauses no_clause = parts.same BlockClauses no_clause
  related_clauses (clause_and first rest) = parts.two clause_and (related_clause first) (related_clauses rest)

  pub related_limit : (limit : MaybeLimit) → parts.Related MaybeLimit limit (changed_limit parts.change limit) (limit_depth limit) (limit_depth (changed_limit parts.change limit))
  related_limit no_limit = parts.same MaybeLimit no_limit
  related_limit (a_limit word bound) = parts.one (a_limit word) (parts.tree bound)

  pub related_for : (clause : ForClause) → parts.Related ForClause clause (changed_for parts.change clause) (for_clause_depth clause) (for_clause_depth (changed_for parts.change clause))
  related_for (then_clause variable first next) = parts.two (λ (v : VariableTree) (trees : Tree × Tree). then_clause v trees.0 trees.1) (related_variable variable) (pair (parts.tree first) (parts.tree next))
  related_for (in_clause variable collection) = parts.two in_clause (related_variable variable) (parts.tree collection)
  related_for (from_clause variable start limit step) =
      parts.two (λ (front : VariableTree × Tree) (range : MaybeLimit × MaybeTree). from_clause front.0 front.1 range.0 range.1) (pair (related_variable variable) (parts.tree start)) (pair (related_limit limit) (related_maybe step))

  pub related_for_clauses : (clauses : ForClauses) → parts.Related ForClauses clauses (changed_for_clauses parts.change clauses) (for_clauses_depth clauses) (for_clauses_depth (changed_for_clauses parts.change clauses))
  related_for_clauses no_for_clause = parts.same ForClauses no_for_clause
  related_for_clauses (for_clause_and first rest) = parts.two for_clause_and (related_for first) (related_for_clauses rest)

  pub related_stop : (stop : MaybeStop) → parts.Related MaybeStop stop (changed_stop parts.change stop) (stop_depth stop) (stop_depth (changed_stop parts.change stop))
  related_stop no_stop = parts.same MaybeStop no_stop
  related_stop (a_stop word test) = parts.one (a_stop word) (parts.tree test)

  -- parts of forms

  pub related_option : (option : SlotOption) → parts.Related SlotOption option (changed_option parts.change option) (option_depth option) (option_depth (changed_option parts.change option))
  related_option (init_keyword token) = parts.same SlotOption (init_keyword token)
  related_option (required_init_keyword token) = parts.same SlotOption (required_init_keyword token)
  related_option (init_value tree) = parts.one init_value (parts.tree tree)
  related_option (init_function tree) = parts.one init_function (parts.tree tree)
  related_option (setter token) = parts.same SlotOption (setter token)

  pub related_options : (options : List SlotOption) → parts.Related (List SlotOption) options (map (changed_option parts.change) options) (options_depth options) (options_depth (map (changed_option parts.change) options))
  related_options [] = parts.same (List SlotOption) []
  related_options (first ∷ rest) = parts.two (λ (option : SlotOption) (others : List SlotOption). option ∷ others) (related_option first) (related_options rest)

  pub related_slots : (slots : List SlotTree) → parts.Related (List SlotTree) slots (map (changed_slot parts.change) slots) (slots_depth slots) (slots_depth (map (changed_slot parts.change) slots))
  related_slots [] = parts.same (List SlotTree) []
  related_slots (first ∷ rest) =
      parts.two (λ (slot : SlotTree) (others : List SlotTree). slot ∷ others) (parts.two (slot_with first) (related_variable first.variable) (pair (related_maybe first.default) (related_options first.options))) (related_slots rest)

  pub related_domain : (types : List TypeTree) → parts.Related (List TypeTree) types (map parts.change.on_type types) (domain_depth types) (domain_depth (map parts.change.on_type types))
  related_domain [] = parts.same (List TypeTree) []
  related_domain (first ∷ rest) = parts.two (λ (type : TypeTree) (others : List TypeTree). type ∷ others) (parts.type first) (related_domain rest)
