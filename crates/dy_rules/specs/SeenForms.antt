-- Expressions, statements and forms without where they lie in memory.
use Rattle.std.specs.Prelude.{List, [], ◌∷◌, map, Option, Some, None, option_map}
use Rattle.dy_tree.specs.declared.expression.Expression.{Expression}
use Rattle.dy_tree.specs.declared.expression.Expression as expressions
use Rattle.dy_tree.specs.declared.expression.Statement.{Statement}
use Rattle.dy_tree.specs.declared.expression.Statement as statements
use Rattle.dy_tree.specs.declared.expression.Argument.{Argument}
use Rattle.dy_tree.specs.declared.expression.Argument as passed
use Rattle.dy_tree.specs.declared.expression.Item.{Item}
use Rattle.dy_tree.specs.declared.expression.Item as items
use Rattle.dy_tree.specs.declared.expression.BlockClause.{BlockClause}
use Rattle.dy_tree.specs.declared.expression.BlockClause as clauses
use Rattle.dy_tree.specs.declared.expression.ForClause.{ForClause}
use Rattle.dy_tree.specs.declared.expression.ForClause as loops
use Rattle.dy_tree.specs.declared.expression.LocalMethod.{LocalMethod, LocalMethod'}
use Rattle.dy_tree.specs.declared.expression.Parameters.{Parameters, Parameters'}
use Rattle.dy_tree.specs.declared.expression.Parameters.{Held-Parameters-keys}
use Rattle.dy_tree.specs.declared.expression.Parameters.{Parameters-keys-None'}
use Rattle.dy_tree.specs.declared.expression.Parameters.{Parameters-keys-Some'}
use Rattle.dy_tree.specs.declared.expression.Keys.{Keys, Keys', Row_of-Key, end_of-Key, more_of-Key}
use Rattle.dy_tree.specs.declared.form.Slot.{Slot}
use Rattle.dy_tree.specs.declared.form.SlotOption.{SlotOption}
use Rattle.dy_tree.specs.declared.form.SlotOption.TheVariants as options
use Rattle.dy_tree.specs.declared.form.Form.{Form}
use Rattle.dy_tree.specs.declared.form.Form.TheVariants as forms
use Rattle.dy_rules.specs.ConstantTrees.{constants_of, tail_of}
use Rattle.dy_rules.specs.SeenTypes.{seen_constant, seen_type, seen_variable, seen_target}
use Rattle.dy_rules.specs.SeenTypes.{seen_required, seen_results}
use Rattle.dy_rules.specs.Trees as trees
use Rattle.dy_rules.specs.Forms as written

abbrev mutual
  pub seen_tree : Expression → trees.Tree
  seen_tree (expressions.Assign' p place q value) =
      trees.assignment (seen_tree place) (seen_tree value)
  seen_tree (expressions.Operation' precedence p left operator q right) =
      trees.operation precedence (seen_tree left) operator (seen_tree right)
  seen_tree (expressions.Unary' operator p operand) = trees.unary operator (seen_tree operand)
  seen_tree (expressions.Call' p function shape arguments) =
      trees.call (seen_tree function) (seen_arguments arguments)
  seen_tree (expressions.Element' p object opener q index) =
      trees.element (seen_tree object) opener (seen_tree index)
  seen_tree (expressions.Member' p object token) = trees.member (seen_tree object) token
  seen_tree (expressions.Literal form) = trees.literal form
  seen_tree (expressions.Name token) = trees.name token
  seen_tree (expressions.List opener constants last) =
      trees.list opener (constants_of (map seen_constant constants.items))
      (tail_of (option_map seen_constant last))
  seen_tree (expressions.Vector opener constants) =
      trees.vector opener (constants_of (map seen_constant constants.items))
  seen_tree (expressions.Statement statement) = seen_statement statement

  pub seen_statement : Statement → trees.Tree
  seen_statement (statements.Begin' word shape body) = trees.begin_tree word (seen_body body)
  seen_statement (statements.Method' word p signature shape body) =
      trees.method_tree word (seen_parameters signature) (seen_body body)
  seen_statement (statements.If' word p test shape body others alternatives last) =
      trees.if_tree word (seen_tree test) (seen_body body) (seen_alternatives alternatives)
      (seen_otherwise last)
  seen_statement (statements.Guarded' guard word p test shape body) =
      trees.guarded guard word (seen_tree test) (seen_body body)
  seen_statement (statements.Case' word shape arms last) =
      trees.case_tree word (seen_arms arms) (seen_otherwise last)
  seen_statement (statements.Select' word p value test shape arms last) =
      trees.select_tree word (seen_tree value) (seen_test test) (seen_arms arms)
      (seen_otherwise last)
  seen_statement (statements.Block' word exit shape body others found) =
      trees.block_tree word exit (seen_body body) (seen_clauses found)
  seen_statement (statements.For' word shape found stop others body last) =
      trees.for_tree word (seen_for found) (seen_stop stop) (seen_body body) (seen_otherwise last)

  pub seen_arguments : {m : _} → expressions.Row_of-Argument m → trees.Arguments
  seen_arguments expressions.end_of-Argument = trees.no_argument
  seen_arguments (expressions.more_of-Argument first rest) =
      trees.argument_and (seen_argument first) (seen_arguments rest)

  pub seen_argument : Argument → trees.Argument
  seen_argument (passed.Keyword token value) = trees.keyword token (seen_tree value)
  seen_argument (passed.Value value) = trees.value (seen_tree value)

  pub seen_body : {m : _} → statements.Row_of-Item m → trees.Body
  seen_body statements.end_of-Item = trees.no_item
  seen_body (statements.more_of-Item first rest) = trees.item_and (seen_item first) (seen_body rest)

  pub seen_item : Item → trees.ItemTree
  seen_item (items.Let word target value) =
      trees.let_item word (seen_target target) (seen_tree value)
  seen_item (items.Handler word condition handler) =
      trees.handler_item word (seen_type condition) (seen_tree handler)
  seen_item (items.Local' word shape methods) = trees.local_item word (seen_methods methods)
  seen_item (items.Expression value) = trees.expression_item (seen_tree value)

  pub seen_methods : {m : _} → items.Row_of-LocalMethod m → trees.LocalMethods
  seen_methods items.end_of-LocalMethod = trees.no_method
  seen_methods (items.more_of-LocalMethod first rest) =
      trees.method_and (seen_method first) (seen_methods rest)

  pub seen_method : LocalMethod → trees.LocalMethod
  seen_method (LocalMethod' word token signature shape body) =
      trees.local_method word token (seen_parameters signature) (seen_body body)

  pub seen_parameters : Parameters → trees.Parameters
  seen_parameters (Parameters' required next rest keys results) =
      trees.parameters (map seen_required required.items) next rest (seen_maybe_keys keys)
      (option_map seen_results results)

  pub seen_maybe_keys : Held-Parameters-keys → trees.MaybeKeys
  seen_maybe_keys Parameters-keys-None' = trees.no_keys
  seen_maybe_keys (Parameters-keys-Some' keys) = seen_keys keys

  pub seen_keys : Keys → trees.MaybeKeys
  seen_keys (Keys' shape keys takes_all) = trees.some_keys (seen_key_row keys) takes_all

  pub seen_key_row : {m : _} → Row_of-Key m → trees.Keys
  seen_key_row end_of-Key = trees.no_key
  seen_key_row (more_of-Key label variable default rest) =
      trees.key_and (trees.a_key label (seen_variable variable) (seen_default default))
      (seen_key_row rest)

  pub seen_default : loops.Held-ForClause-From-3 → trees.MaybeTree
  seen_default loops.ForClause-From-3-None' = trees.no_tree
  seen_default (loops.ForClause-From-3-Some' value) = trees.some_tree (seen_tree value)

  pub seen_alternatives : {m : _} → statements.Row_of-Alternative m → trees.Alternatives
  seen_alternatives statements.end_of-Alternative = trees.no_alternative
  seen_alternatives (statements.more_of-Alternative test shape body rest) =
      trees.alternative_and (trees.alternative (seen_tree test) (seen_body body))
      (seen_alternatives rest)

  pub seen_otherwise : statements.Held-Statement-If-4 → trees.Otherwise
  seen_otherwise statements.Statement-If-4-None' = trees.no_otherwise
  seen_otherwise (statements.Statement-If-4-Some' shape body) = trees.otherwise (seen_body body)

  pub seen_arms : {m : _} → statements.Row_of-Arm m → trees.Arms
  seen_arms statements.end_of-Arm = trees.no_arm
  seen_arms (statements.more_of-Arm shape tests others body rest) =
      trees.arm_and (trees.arm (seen_tests tests) (seen_body body)) (seen_arms rest)

  pub seen_tests : {m : _} → statements.Row_of-Expression m → trees.Tests
  seen_tests statements.end_of-Expression = trees.no_test
  seen_tests (statements.more_of-Expression first rest) =
      trees.test_and (seen_tree first) (seen_tests rest)

  pub seen_test : statements.Held-Statement-Select-2 → trees.MaybeTree
  seen_test statements.Statement-Select-2-None' = trees.no_tree
  seen_test (statements.Statement-Select-2-Some' p value) = trees.some_tree (seen_tree value)

  pub seen_clauses : {m : _} → statements.Row_of-BlockClause m → trees.BlockClauses
  seen_clauses statements.end_of-BlockClause = trees.no_clause
  seen_clauses (statements.more_of-BlockClause first rest) =
      trees.clause_and (seen_clause first) (seen_clauses rest)

  pub seen_clause : BlockClause → trees.BlockClause
  seen_clause (clauses.Afterwards' shape body) = trees.afterwards_clause (seen_body body)
  seen_clause (clauses.Cleanup' shape body) = trees.cleanup_clause (seen_body body)
  seen_clause (clauses.Exception' variable condition shape body) =
      trees.exception_clause variable (seen_type condition) (seen_body body)

  pub seen_for : {m : _} → statements.Row_of-ForClause m → trees.ForClauses
  seen_for statements.end_of-ForClause = trees.no_for_clause
  seen_for (statements.more_of-ForClause first rest) =
      trees.for_clause_and (seen_for_clause first) (seen_for rest)

  pub seen_for_clause : ForClause → trees.ForClause
  seen_for_clause (loops.Then variable first next) =
      trees.then_clause (seen_variable variable) (seen_tree first) (seen_tree next)
  seen_for_clause (loops.In variable collection) =
      trees.in_clause (seen_variable variable) (seen_tree collection)
  seen_for_clause (loops.From' variable start limit step) =
      trees.from_clause (seen_variable variable) (seen_tree start) (seen_limit limit)
      (seen_default step)

  pub seen_limit : loops.Held-ForClause-From-2 → trees.MaybeLimit
  seen_limit loops.ForClause-From-2-None' = trees.no_limit
  seen_limit (loops.ForClause-From-2-Some' word bound) = trees.a_limit word (seen_tree bound)

  pub seen_stop : statements.Held-Statement-For-2 → trees.MaybeStop
  seen_stop statements.Statement-For-2-None' = trees.no_stop
  seen_stop (statements.Statement-For-2-Some' p key test) = trees.a_stop key (seen_tree test)

-- a body in memory of its own
abbrev pub seen_items : List Item → List trees.ItemTree
seen_items list = map seen_item list

abbrev pub seen_option : SlotOption → written.SlotOption
seen_option (options.InitKeyword token) = written.init_keyword token
seen_option (options.RequiredInitKeyword token) = written.required_init_keyword token
seen_option (options.InitValue value) = written.init_value (seen_tree value)
seen_option (options.InitFunction value) = written.init_function (seen_tree value)
seen_option (options.Setter token) = written.setter token

abbrev pub seen_initial : Option Expression → trees.MaybeTree
seen_initial None = trees.no_tree
seen_initial (Some value) = trees.some_tree (seen_tree value)

abbrev pub seen_slot : Slot → written.SlotTree
seen_slot slot =
    record {
      adjectives = slot.adjectives.items;
      variable = record { variable = slot.name; declared = option_map seen_type slot.declared };
      default = seen_initial slot.value;
      options = map seen_option slot.options.items;
    }

abbrev pub seen_form : Form → written.FormTree
seen_form (forms.Expression value) = written.expression_form (seen_tree value)
seen_form (forms.Class define adjectives token superclasses slots) =
    written.class_form define adjectives.items token superclasses.items (map seen_slot slots.items)
seen_form (forms.Constant define target value) =
    written.constant_form define (seen_target target) (seen_tree value)
seen_form (forms.Variable define target value) =
    written.variable_form define (seen_target target) (seen_tree value)
seen_form (forms.Generic define adjectives token signature) =
    written.generic_form define adjectives.items token (seen_parameters signature)
seen_form (forms.Method define adjectives word token signature body) =
    written.method_form define adjectives.items word token (seen_parameters signature)
    (trees.body_of (seen_items body.items))
seen_form (forms.Function define adjectives token signature body) =
    written.function_form define adjectives.items token (seen_parameters signature)
    (trees.body_of (seen_items body.items))
seen_form (forms.Domain define token found) =
    written.domain_form define token (map seen_type found.items)
