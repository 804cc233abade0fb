-- Expressions and statements of the source, in the core (DRM 4, "Operators", "Assignment"; DRM 7,
-- "Statements").
use Rattle.std.specs.Prelude.{ℕ, Bool, true, false, List, [], ◌∷◌, ◌++◌, map, codes, Option, Some}
use Rattle.std.specs.Prelude.{None, if◌then◌else◌}
use Rattle.dy_tree.specs.declared.token.Token.{Token}
use Rattle.dy_tree.specs.declared.types.LiteralForm.{LiteralForm}
use Rattle.dy_tree.specs.declared.types.LiteralForm.TheVariants as forms
use Rattle.dy_tree.specs.declared.roles.Precedence.{Precedence}
use Rattle.dy_tree.specs.declared.roles.Precedence.TheVariants as precedences
use Rattle.dy_tree.specs.declared.brackets.Guard.{Guard}
use Rattle.dy_tree.specs.declared.brackets.Guard.TheVariants as guards
use Rattle.dy_tree.specs.Spelling.{is_spelled}
use Rattle.dy_rules.specs.Trees as source
use Rattle.dy_rules.specs.Trees.{Tree, Arguments, Argument, Body, ItemTree, Alternatives, Otherwise}
use Rattle.dy_rules.specs.Trees.{Arms, Tests, MaybeTree, MaybeStop, MaybeLimit, MaybeKeys, Keys}
use Rattle.dy_rules.specs.Trees.{Parameters, LocalMethods, BlockClauses, ForClauses, ForClause}
use Rattle.dy_term.specs.declared.literal.Literal as constants
use Rattle.dy_term.specs.Types.{CoreType, integer, CoreKey, CoreParams, CoreResults}
use Rattle.dy_term.specs.Drafts.{Core, literal, name, set, no_place, cond, and, or, select, loop}
use Rattle.dy_term.specs.Drafts.{method, block, MaybeCore, nothing, just, CoreItem, run, let_values}
use Rattle.dy_term.specs.Drafts.{let_methods, handler, CoreLambda, lambda, CoreClause, then_clause}
use Rattle.dy_term.specs.Drafts.{in_clause, from_clause, CoreLimit, no_limit, a_limit, CoreTest}
use Rattle.dy_term.specs.Drafts.{no_test, a_test, CoreArm, CoreCatch, cores_of, choice_of, arms_of}
use Rattle.dy_term.specs.Drafts.{methods_of, clauses_of, catches_of}
use Rattle.dy_term.specs.Drafts as core
use Rattle.dy_drafts.specs.Shapes.{name_at, literal_of, list_of, constants_of, tail_of, type_of}
use Rattle.dy_drafts.specs.Shapes.{declared_or, declared_of, locals_of, rest_of, required_of}
use Rattle.dy_drafts.specs.Shapes.{results_of, key_of}
use Rattle.dy_drafts.specs.Parts.{false_core, call_named, choose, not_core, unary_name, bodied}
use Rattle.dy_drafts.specs.Parts.{setting, setter_at, limit_of, first_or_false}

abbrev pub literal_token : LiteralForm → Token
literal_token (forms.Int form) =
    elim form.minus as (λ _. Token) [ None ↦ form.digits | Some minus ↦ minus ]
literal_token (forms.Char token) = token
literal_token (forms.Str token) = token
literal_token (forms.Bool token) = token
literal_token (forms.Symbol token) = token

-- The first token of an expression. Brackets round it are no part of the tree.
abbrev pub first_token : Tree → Token
first_token (source.assignment place value) = first_token place
first_token (source.operation precedence left operator right) = first_token left
first_token (source.unary operator operand) = operator
first_token (source.call function arguments) = first_token function
first_token (source.element inner opener index) = first_token inner
first_token (source.member inner token) = first_token inner
first_token (source.literal form) = literal_token form
first_token (source.name token) = token
first_token (source.list opener items last) = opener
first_token (source.vector opener items) = opener
first_token (source.begin_tree word body) = word
first_token (source.method_tree word row body) = word
first_token (source.if_tree word test body alternatives other) = word
first_token (source.guarded guard word test body) = word
first_token (source.case_tree word arms other) = word
first_token (source.select_tree word value test arms other) = word
first_token (source.block_tree word exit body clauses) = word
first_token (source.for_tree word clauses stop body finally) = word

-- the name that an expression is
abbrev pub name_in : Tree → Option Token
name_in (source.name token) = Some token
name_in _ = None

abbrev pub key_rows : Keys → List CoreKey
key_rows source.no_key = []
key_rows (source.key_and (source.a_key symbol variable default) rest) =
    key_of symbol variable ∷ key_rows rest

abbrev pub keys_of : MaybeKeys → Option (List CoreKey)
keys_of source.no_keys = None
keys_of (source.some_keys keys takes_all) = Some (key_rows keys)

abbrev pub takes_all : MaybeKeys → Bool
takes_all source.no_keys = false
takes_all (source.some_keys keys all) = all

abbrev pub params_of : Parameters → CoreParams
params_of (source.parameters required next rest keys results) =
    record {
      required = map required_of required;
      next = next;
      rest = rest;
      keys = keys_of keys;
      all_keys = takes_all keys;
    }

abbrev pub returned_of : Parameters → CoreResults
returned_of (source.parameters required next rest keys results) = results_of results

-- a body with its parameters, from the defaults of the keyword parameters and the core of the body
abbrev pub lambda_from : Parameters → List Core → Core → CoreLambda
lambda_from row defaults inner = lambda (params_of row) (cores_of defaults) inner (returned_of row)

-- Binary operators are calls of names, but for `&` and `|`, which evaluate their right side where
-- it counts.
abbrev pub operation_core : Precedence → Token → Core → Core → Core
operation_core precedences.Logical operator left right =
    if is_spelled (codes "&") operator then and left right else or left right
operation_core _ operator left right = call_named operator (left ∷ right ∷ [])

-- `unless`, `while` and `until`, from the cores of the test and of the body
abbrev pub guarded_core : Guard → Core → Core → Core
guarded_core guards.Unless test inner = choose test false_core inner
guarded_core guards.While test inner = loop test inner
guarded_core guards.Until test inner = loop (not_core test) inner

abbrev mutual
  pub core_of : Tree → Core
  core_of (source.operation precedence left operator right) =
      operation_core precedence operator (core_of left) (core_of right)
  core_of (source.unary operator operand) = call_named (unary_name operator) (core_of operand ∷ [])
  core_of (source.call function arguments) =
      core.call (core_of function) (cores_of (arguments_of arguments))
  core_of (source.element inner opener index) =
      call_named (name_at (codes "element") opener) (core_of inner ∷ core_of index ∷ [])
  core_of (source.member inner token) = call_named token (core_of inner ∷ [])
  -- an assignment to a name sets it; one to a call of a name, an element or a member calls the
  -- setter
  core_of (source.assignment place value) = assignment_of place (core_of place) (core_of value)
  core_of (source.literal value) = literal (literal_of value)
  core_of (source.name token) = name token
  core_of (source.list opener items last) = literal (list_of (constants_of items) (tail_of last))
  core_of (source.vector opener items) = literal (constants.Vector (constants_of items))
  -- statements
  core_of (source.begin_tree word body) = bodied (items_in body)
  core_of (source.method_tree word row body) =
      method (lambda_from row (defaults_of row) (bodied (items_in body)))
  core_of (source.if_tree word test body alternatives other) =
      cond (choice_of ((core_of test, bodied (items_in body)) ∷ alternatives_of alternatives)
      (or_false other))
  core_of (source.guarded guard word test body) =
      guarded_core guard (core_of test) (bodied (items_in body))
  core_of (source.case_tree word arms other) = cond (choice_of (cases_of arms) (or_false other))
  core_of (source.select_tree word value test arms other) =
      select (core_of value) (maybe_of test) (arms_of (select_arms arms)) (maybe_body other)
  core_of (source.block_tree word exit body clauses) =
      block exit (bodied (items_in body)) (afterwards_of clauses) (cleanup_of clauses)
      (catches_of (exceptions_of clauses))
  core_of (source.for_tree word clauses stop body finally) =
      core.for (clauses_of (for_clauses_of clauses)) (stop_of stop) (bodied (items_in body))
      (maybe_body finally)

  -- an assignment, with the core of its place and of its value
  pub assignment_of : Tree → Core → Core → Core
  assignment_of (source.name token) place value = set token value
  assignment_of (source.call (source.name token) arguments) place value =
      setting (setter_at token) (arguments_of arguments) value
  assignment_of (source.element inner opener index) place value =
      setting (name_at (codes "element-setter") opener) (core_of inner ∷ core_of index ∷ []) value
  assignment_of (source.member inner token) place value =
      setting (setter_at token) (core_of inner ∷ []) value
  assignment_of other place value = no_place (first_token other) place value

  -- a keyword and its value are two arguments
  pub arguments_of : Arguments → List Core
  arguments_of source.no_argument = []
  arguments_of (source.argument_and first rest) = argument_of first ++ arguments_of rest

  pub argument_of : Argument → List Core
  argument_of (source.keyword symbol value) =
      literal (literal_of (forms.Symbol symbol)) ∷ core_of value ∷ []
  argument_of (source.value tree) = core_of tree ∷ []

  pub items_in : Body → List CoreItem
  items_in source.no_item = []
  items_in (source.item_and first rest) = item_of first ∷ items_in rest

  pub item_of : ItemTree → CoreItem
  item_of (source.let_item word target value) =
      let_values (locals_of target) (rest_of target) (core_of value)
  item_of (source.handler_item word condition function) =
      handler (type_of condition) (core_of function)
  item_of (source.local_item word methods) = let_methods (methods_of (local_methods_of methods))
  item_of (source.expression_item tree) = run (core_of tree)

  pub local_methods_of : LocalMethods → List (Token × CoreLambda)
  local_methods_of source.no_method = []
  local_methods_of (source.method_and (source.local_method word token row body) rest) =
      (token, lambda_from row (defaults_of row) (bodied (items_in body))) ∷ local_methods_of rest

  -- the defaults of the keyword parameters
  pub defaults_of : Parameters → List Core
  defaults_of (source.parameters required next rest keys results) = key_defaults keys

  pub key_defaults : MaybeKeys → List Core
  key_defaults source.no_keys = []
  key_defaults (source.some_keys keys all) = defaults_in keys

  -- a keyword without a default has `#f`
  pub defaults_in : Keys → List Core
  defaults_in source.no_key = []
  defaults_in (source.key_and (source.a_key symbol variable default) rest) =
      default_of default ∷ defaults_in rest

  pub default_of : MaybeTree → Core
  default_of source.no_tree = false_core
  default_of (source.some_tree tree) = core_of tree

  pub alternatives_of : Alternatives → List (Core × Core)
  alternatives_of source.no_alternative = []
  alternatives_of (source.alternative_and (source.alternative test body) rest) =
      (core_of test, bodied (items_in body)) ∷ alternatives_of rest

  -- what is not written is `#f`
  pub or_false : Otherwise → Core
  or_false source.no_otherwise = false_core
  or_false (source.otherwise body) = bodied (items_in body)

  pub maybe_body : Otherwise → MaybeCore
  maybe_body source.no_otherwise = nothing
  maybe_body (source.otherwise body) = just (bodied (items_in body))

  pub maybe_of : MaybeTree → MaybeCore
  maybe_of source.no_tree = nothing
  maybe_of (source.some_tree tree) = just (core_of tree)

  pub tests_of : Tests → List Core
  tests_of source.no_test = []
  tests_of (source.test_and first rest) = core_of first ∷ tests_of rest

  pub cases_of : Arms → List (Core × Core)
  cases_of source.no_arm = []
  cases_of (source.arm_and (source.arm tests body) rest) =
      (first_or_false (tests_of tests), bodied (items_in body)) ∷ cases_of rest

  pub select_arms : Arms → List CoreArm
  select_arms source.no_arm = []
  select_arms (source.arm_and (source.arm tests body) rest) =
      record { values = tests_of tests; body = bodied (items_in body) } ∷ select_arms rest

  -- the first `afterwards`, the first `cleanup`, and all `exception` clauses of a block
  pub afterwards_of : BlockClauses → MaybeCore
  afterwards_of source.no_clause = nothing
  afterwards_of (source.clause_and (source.afterwards_clause body) rest) =
      just (bodied (items_in body))
  afterwards_of (source.clause_and (source.cleanup_clause body) rest) = afterwards_of rest
  afterwards_of (source.clause_and (source.exception_clause variable condition body) rest) =
      afterwards_of rest

  pub cleanup_of : BlockClauses → MaybeCore
  cleanup_of source.no_clause = nothing
  cleanup_of (source.clause_and (source.afterwards_clause body) rest) = cleanup_of rest
  cleanup_of (source.clause_and (source.cleanup_clause body) rest) = just (bodied (items_in body))
  cleanup_of (source.clause_and (source.exception_clause variable condition body) rest) =
      cleanup_of rest

  pub exceptions_of : BlockClauses → List CoreCatch
  exceptions_of source.no_clause = []
  exceptions_of (source.clause_and (source.afterwards_clause body) rest) = exceptions_of rest
  exceptions_of (source.clause_and (source.cleanup_clause body) rest) = exceptions_of rest
  exceptions_of (source.clause_and (source.exception_clause variable condition body) rest) =
      record { variable = variable; condition = type_of condition; body = bodied (items_in body) }
      ∷ exceptions_of rest

  pub for_clauses_of : ForClauses → List CoreClause
  for_clauses_of source.no_for_clause = []
  for_clauses_of (source.for_clause_and first rest) = for_clause_of first ∷ for_clauses_of rest

  -- the numbers of a `for` are integers where no type is written
  pub for_clause_of : ForClause → CoreClause
  for_clause_of (source.then_clause variable first next) =
      then_clause variable.variable (declared_of variable) (core_of first) (core_of next)
  for_clause_of (source.in_clause variable collection) =
      in_clause variable.variable (declared_of variable) (core_of collection)
  for_clause_of (source.from_clause variable start limit step) =
      from_clause variable.variable (declared_or integer variable.declared) (core_of start)
      (bound_of limit) (maybe_of step)

  pub bound_of : MaybeLimit → CoreLimit
  bound_of source.no_limit = no_limit
  bound_of (source.a_limit word bound) = a_limit (limit_of word) (core_of bound)

  -- `until:` ends the loop where its test is true
  pub stop_of : MaybeStop → CoreTest
  stop_of source.no_stop = no_test
  stop_of (source.a_stop symbol test) = a_test (is_spelled (codes "until") symbol) (core_of test)

abbrev pub body_of : Body → Core
body_of body = bodied (items_in body)

-- a method
abbrev pub lambda_of : Parameters → Body → CoreLambda
lambda_of row body = lambda_from row (defaults_of row) (body_of body)
