-- How deep a tree is (own).
use Rattle.std.specs.Prelude.{ℕ, ◌+◌, max, List, [], ◌∷◌, Option, Some, None}
use Rattle.dy_rules.specs.Types.{TypeTree, named_type, singleton_type, union_type, limited_type}
use Rattle.dy_rules.specs.Types.{TypeTrees, no_type, type_and, VariableTree, TargetTree, one_target}
use Rattle.dy_rules.specs.Types.{several, RequiredTree, required_variable, required_single}
use Rattle.dy_rules.specs.Types.{ResultTree, several_results, one_result}
use Rattle.dy_rules.specs.ConstantTrees.{Constant, literal_item, list_item, vector_item, Constants}
use Rattle.dy_rules.specs.ConstantTrees.{no_constant, constant_and, Tail, no_tail, tail}
use Rattle.dy_rules.specs.Trees.{Tree, assignment, operation, unary, call, element, member, literal}
use Rattle.dy_rules.specs.Trees.{name, Arguments, no_argument, argument_and, Argument, keyword}
use Rattle.dy_rules.specs.Trees.{value, list, vector, begin_tree, if_tree, guarded, Body, no_item}
use Rattle.dy_rules.specs.Trees.{item_and, ItemTree, let_item, handler_item, expression_item}
use Rattle.dy_rules.specs.Trees.{Alternatives, no_alternative, alternative_and, Alternative}
use Rattle.dy_rules.specs.Trees.{alternative, Otherwise, no_otherwise, otherwise, case_tree}
use Rattle.dy_rules.specs.Trees.{select_tree, MaybeTree, no_tree, some_tree, Arms, no_arm, arm_and}
use Rattle.dy_rules.specs.Trees.{Arm, arm, Tests, no_test, test_and, block_tree, for_tree}
use Rattle.dy_rules.specs.Trees.{BlockClauses, no_clause, clause_and, BlockClause}
use Rattle.dy_rules.specs.Trees.{afterwards_clause, cleanup_clause, exception_clause, ForClauses}
use Rattle.dy_rules.specs.Trees.{no_for_clause, for_clause_and, ForClause, then_clause, in_clause}
use Rattle.dy_rules.specs.Trees.{from_clause, MaybeLimit, no_limit, a_limit, MaybeStop, no_stop}
use Rattle.dy_rules.specs.Trees.{a_stop, method_tree, Parameters, parameters, MaybeKeys, no_keys}
use Rattle.dy_rules.specs.Trees.{some_keys, Keys, no_key, key_and, Key, a_key, LocalMethods}
use Rattle.dy_rules.specs.Trees.{no_method, method_and, LocalMethod, local_method, local_item}

-- A literal has depth 1, and a list or a vector is one deeper than its deepest part.
abbrev mutual
  pub constant_depth : Constant → ℕ
  constant_depth (literal_item form) = 1
  constant_depth (list_item opener items last) = 1 + max (constants_depth items) (tail_depth last)
  constant_depth (vector_item opener items) = 1 + constants_depth items

  pub constants_depth : Constants → ℕ
  constants_depth no_constant = 0
  constants_depth (constant_and first rest) = max (constant_depth first) (constants_depth rest)

  pub tail_depth : Tail → ℕ
  tail_depth no_tail = 0
  tail_depth (tail item) = constant_depth item

-- A type is as deep as a name, and a union one deeper than its deepest type.
abbrev mutual
  pub type_depth : TypeTree → ℕ
  type_depth (named_type token) = 1
  type_depth (singleton_type word single) = 1
  type_depth (union_type word types) = 1 + types_depth types
  type_depth (limited_type word class bounds) = 1

  pub types_depth : TypeTrees → ℕ
  types_depth no_type = 0
  types_depth (type_and first rest) = max (type_depth first) (types_depth rest)

abbrev pub declared_depth : Option TypeTree → ℕ
declared_depth None = 0
declared_depth (Some type) = type_depth type

abbrev pub variable_depth : VariableTree → ℕ
variable_depth variable = declared_depth variable.declared

abbrev pub variables_depth : List VariableTree → ℕ
variables_depth [] = 0
variables_depth (first ∷ rest) = max (variable_depth first) (variables_depth rest)

abbrev pub target_depth : TargetTree → ℕ
target_depth (one_target variable) = variable_depth variable
target_depth (several variables rest) = variables_depth variables

-- The value that a parameter is compared with is as deep as a name.
abbrev pub required_depth : List RequiredTree → ℕ
required_depth [] = 0
required_depth (required_variable variable ∷ rest) =
    max (variable_depth variable) (required_depth rest)
required_depth (required_single token single ∷ rest) = max 1 (required_depth rest)

abbrev pub given_depth : Option VariableTree → ℕ
given_depth None = 0
given_depth (Some variable) = variable_depth variable

abbrev pub results_depth : Option ResultTree → ℕ
results_depth None = 0
results_depth (Some (several_results variables rest)) =
    max (variables_depth variables) (given_depth rest)
results_depth (Some (one_result variable)) = variable_depth variable

-- A name has depth 1. All else is one deeper than its deepest part, arguments and what stands in
-- bodies included. Brackets count for nothing.
abbrev mutual
  pub depth : Tree → ℕ
  depth (assignment place assigned) = 1 + max (depth place) (depth assigned)
  depth (operation precedence left operator right) = 1 + max (depth left) (depth right)
  depth (unary operator operand) = 1 + depth operand
  depth (call function arguments) = 1 + max (depth function) (arguments_depth arguments)
  depth (element object opener index) = 1 + max (depth object) (depth index)
  depth (member object token) = 1 + depth object
  depth (literal form) = 1
  depth (name token) = 1
  depth (list opener items last) = 1 + max (constants_depth items) (tail_depth last)
  depth (vector opener items) = 1 + constants_depth items
  depth (begin_tree word body) = 1 + body_depth body
  depth (if_tree word test body others last) =
      1 + max (max (depth test) (body_depth body))
      (max (alternatives_depth others) (otherwise_depth last))
  depth (guarded guard word test body) = 1 + max (depth test) (body_depth body)
  depth (case_tree word arms last) = 1 + max (arms_depth arms) (otherwise_depth last)
  depth (select_tree word selected test arms last) =
      1 + max (max (depth selected) (maybe_depth test))
      (max (arms_depth arms) (otherwise_depth last))
  depth (block_tree word exit body clauses) =
      1 + max (body_depth body) (block_clauses_depth clauses)
  depth (for_tree word clauses stop body last) =
      1 + max (max (for_clauses_depth clauses) (stop_depth stop))
      (max (body_depth body) (otherwise_depth last))
  depth (method_tree word signature body) = 1 + max (parameters_depth signature) (body_depth body)

  pub parameters_depth : Parameters → ℕ
  parameters_depth (parameters required next rest keys results) =
      max (max (required_depth required) (maybe_keys_depth keys)) (results_depth results)

  pub maybe_keys_depth : MaybeKeys → ℕ
  maybe_keys_depth no_keys = 0
  maybe_keys_depth (some_keys keys takes_all) = keys_depth keys

  pub keys_depth : Keys → ℕ
  keys_depth no_key = 0
  keys_depth (key_and first rest) = max (key_depth first) (keys_depth rest)

  pub key_depth : Key → ℕ
  key_depth (a_key symbol variable default) = max (variable_depth variable) (maybe_depth default)

  pub methods_depth : LocalMethods → ℕ
  methods_depth no_method = 0
  methods_depth (method_and first rest) = max (method_depth first) (methods_depth rest)

  pub method_depth : LocalMethod → ℕ
  method_depth (local_method word token signature body) =
      max (parameters_depth signature) (body_depth body)

  pub block_clauses_depth : BlockClauses → ℕ
  block_clauses_depth no_clause = 0
  block_clauses_depth (clause_and first rest) =
      max (block_clause_depth first) (block_clauses_depth rest)

  pub block_clause_depth : BlockClause → ℕ
  block_clause_depth (afterwards_clause body) = body_depth body
  block_clause_depth (cleanup_clause body) = body_depth body
  block_clause_depth (exception_clause variable condition body) =
      max (type_depth condition) (body_depth body)

  pub for_clauses_depth : ForClauses → ℕ
  for_clauses_depth no_for_clause = 0
  for_clauses_depth (for_clause_and first rest) =
      max (for_clause_depth first) (for_clauses_depth rest)

  pub for_clause_depth : ForClause → ℕ
  for_clause_depth (then_clause variable first next) =
      max (variable_depth variable) (max (depth first) (depth next))
  for_clause_depth (in_clause variable collection) =
      max (variable_depth variable) (depth collection)
  for_clause_depth (from_clause variable start limit step) =
      max (max (variable_depth variable) (depth start)) (max (limit_depth limit) (maybe_depth step))

  pub limit_depth : MaybeLimit → ℕ
  limit_depth no_limit = 0
  limit_depth (a_limit word bound) = depth bound

  pub stop_depth : MaybeStop → ℕ
  stop_depth no_stop = 0
  stop_depth (a_stop key test) = depth test

  pub maybe_depth : MaybeTree → ℕ
  maybe_depth no_tree = 0
  maybe_depth (some_tree tree) = depth tree

  pub arms_depth : Arms → ℕ
  arms_depth no_arm = 0
  arms_depth (arm_and first rest) = max (arm_depth first) (arms_depth rest)

  pub arm_depth : Arm → ℕ
  arm_depth (arm tried body) = max (tests_depth tried) (body_depth body)

  pub tests_depth : Tests → ℕ
  tests_depth no_test = 0
  tests_depth (test_and first rest) = max (depth first) (tests_depth rest)

  pub body_depth : Body → ℕ
  body_depth no_item = 0
  body_depth (item_and first rest) = max (item_depth first) (body_depth rest)

  pub item_depth : ItemTree → ℕ
  item_depth (let_item word target assigned) = max (target_depth target) (depth assigned)
  item_depth (handler_item word condition handler) = max (type_depth condition) (depth handler)
  item_depth (local_item word methods) = methods_depth methods
  item_depth (expression_item tree) = depth tree

  pub alternatives_depth : Alternatives → ℕ
  alternatives_depth no_alternative = 0
  alternatives_depth (alternative_and first rest) =
      max (alternative_depth first) (alternatives_depth rest)

  pub alternative_depth : Alternative → ℕ
  alternative_depth (alternative test body) = max (depth test) (body_depth body)

  pub otherwise_depth : Otherwise → ℕ
  otherwise_depth no_otherwise = 0
  otherwise_depth (otherwise body) = body_depth body

  pub arguments_depth : Arguments → ℕ
  arguments_depth no_argument = 0
  arguments_depth (argument_and first rest) = max (argument_depth first) (arguments_depth rest)

  pub argument_depth : Argument → ℕ
  argument_depth (keyword token tree) = depth tree
  argument_depth (value tree) = depth tree

-- how deep a tree may be
abbrev pub depth_limit : ℕ
depth_limit = 200
