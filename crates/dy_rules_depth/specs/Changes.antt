-- Other trees, types and constants in the place of those that stand directly in something. Inside
-- of them nothing changes.
use Rattle.std.specs.Prelude.{map, option_map}
use Rattle.dy_rules.specs.ConstantTrees.{Constant, Constants, no_constant, constant_and, Tail}
use Rattle.dy_rules.specs.ConstantTrees.{no_tail, tail}
use Rattle.dy_rules.specs.Types.{TypeTree, TypeTrees, no_type, type_and, VariableTree, TargetTree}
use Rattle.dy_rules.specs.Types.{one_target, several, RequiredTree, required_variable}
use Rattle.dy_rules.specs.Types.{required_single, ResultTree, several_results, one_result}
use Rattle.dy_rules.specs.Trees.{Tree, Parameters, parameters, MaybeKeys, no_keys, some_keys, Keys}
use Rattle.dy_rules.specs.Trees.{no_key, key_and, Key, a_key, LocalMethods, no_method, method_and}
use Rattle.dy_rules.specs.Trees.{LocalMethod, local_method, BlockClauses, no_clause, clause_and}
use Rattle.dy_rules.specs.Trees.{BlockClause, afterwards_clause, cleanup_clause, exception_clause}
use Rattle.dy_rules.specs.Trees.{ForClauses, no_for_clause, for_clause_and, ForClause, then_clause}
use Rattle.dy_rules.specs.Trees.{in_clause, from_clause, MaybeLimit, no_limit, a_limit, MaybeStop}
use Rattle.dy_rules.specs.Trees.{no_stop, a_stop, MaybeTree, no_tree, some_tree, Body, no_item}
use Rattle.dy_rules.specs.Trees.{item_and, ItemTree, let_item, handler_item, local_item}
use Rattle.dy_rules.specs.Trees.{expression_item, Alternatives, no_alternative, alternative_and}
use Rattle.dy_rules.specs.Trees.{Alternative, alternative, Otherwise, no_otherwise, otherwise, Arms}
use Rattle.dy_rules.specs.Trees.{no_arm, arm_and, Arm, arm, Tests, no_test, test_and, Arguments}
use Rattle.dy_rules.specs.Trees.{no_argument, argument_and, Argument, keyword, value, StopTree}
use Rattle.dy_rules.specs.Trees.{KeysTree, Listed}
use Rattle.dy_rules.specs.Forms.{SlotOption, init_keyword, required_init_keyword, init_value}
use Rattle.dy_rules.specs.Forms.{init_function, setter, SlotTree, FormTree, expression_form}
use Rattle.dy_rules.specs.Forms.{class_form, constant_form, variable_form, generic_form}
use Rattle.dy_rules.specs.Forms.{method_form, function_form, domain_form}

pub record Change : Type 0 where
  pub on_tree : Tree → Tree
  pub on_type : TypeTree → TypeTree
  pub on_constant : Constant → Constant

-- constants

abbrev pub changed_constants : Change → Constants → Constants
changed_constants change no_constant = no_constant
changed_constants change (constant_and first rest) =
    constant_and (change.on_constant first) (changed_constants change rest)

abbrev pub changed_tail : Change → Tail → Tail
changed_tail change no_tail = no_tail
changed_tail change (tail last) = tail (change.on_constant last)

-- types and variables

abbrev pub changed_types : Change → TypeTrees → TypeTrees
changed_types change no_type = no_type
changed_types change (type_and first rest) =
    type_and (change.on_type first) (changed_types change rest)

abbrev pub changed_variable : Change → VariableTree → VariableTree
changed_variable change variable =
    record { variable = variable.variable; declared = option_map change.on_type variable.declared }

abbrev pub changed_target : Change → TargetTree → TargetTree
changed_target change (one_target variable) = one_target (changed_variable change variable)
changed_target change (several variables rest) =
    several (map (changed_variable change) variables) rest

abbrev pub changed_required : Change → RequiredTree → RequiredTree
changed_required change (required_variable variable) =
    required_variable (changed_variable change variable)
changed_required change (required_single token single) = required_single token single

abbrev pub changed_results : Change → ResultTree → ResultTree
changed_results change (several_results variables rest) =
    several_results (map (changed_variable change) variables)
    (option_map (changed_variable change) rest)
changed_results change (one_result variable) = one_result (changed_variable change variable)

-- parameters

abbrev pub changed_maybe : Change → MaybeTree → MaybeTree
changed_maybe change no_tree = no_tree
changed_maybe change (some_tree tree) = some_tree (change.on_tree tree)

abbrev pub changed_key : Change → Key → Key
changed_key change (a_key symbol variable default) =
    a_key symbol (changed_variable change variable) (changed_maybe change default)

abbrev pub changed_keys : Change → Keys → Keys
changed_keys change no_key = no_key
changed_keys change (key_and first rest) =
    key_and (changed_key change first) (changed_keys change rest)

abbrev pub changed_maybe_keys : Change → MaybeKeys → MaybeKeys
changed_maybe_keys change no_keys = no_keys
changed_maybe_keys change (some_keys keys takes_all) =
    some_keys (changed_keys change keys) takes_all

abbrev pub changed_parameters : Change → Parameters → Parameters
changed_parameters change (parameters required next rest keys results) =
    parameters (map (changed_required change) required) next rest (changed_maybe_keys change keys)
    (option_map (changed_results change) results)

abbrev pub changed_keys_tree : Change → KeysTree → KeysTree
changed_keys_tree change found =
    record { keys = map (changed_key change) found.keys; takes_all = found.takes_all }

abbrev pub changed_listed : Change → Listed → Listed
changed_listed change found =
    record {
      required = map (changed_required change) found.required;
      next = found.next;
      rest = found.rest;
      keys = option_map (changed_keys_tree change) found.keys;
    }

-- bodies

abbrev mutual
  pub changed_body : Change → Body → Body
  changed_body change no_item = no_item
  changed_body change (item_and first rest) =
      item_and (changed_item change first) (changed_body change rest)

  pub changed_item : Change → ItemTree → ItemTree
  changed_item change (let_item word target assigned) =
      let_item word (changed_target change target) (change.on_tree assigned)
  changed_item change (handler_item word condition handler) =
      handler_item word (change.on_type condition) (change.on_tree handler)
  changed_item change (local_item word methods) = local_item word (changed_methods change methods)
  changed_item change (expression_item tree) = expression_item (change.on_tree tree)

  pub changed_methods : Change → LocalMethods → LocalMethods
  changed_methods change no_method = no_method
  changed_methods change (method_and first rest) =
      method_and (changed_method change first) (changed_methods change rest)

  pub changed_method : Change → LocalMethod → LocalMethod
  changed_method change (local_method word token signature body) =
      local_method word token (changed_parameters change signature) (changed_body change body)

-- parts of statements

abbrev pub changed_argument : Change → Argument → Argument
changed_argument change (keyword symbol tree) = keyword symbol (change.on_tree tree)
changed_argument change (value tree) = value (change.on_tree tree)

abbrev pub changed_arguments : Change → Arguments → Arguments
changed_arguments change no_argument = no_argument
changed_arguments change (argument_and first rest) =
    argument_and (changed_argument change first) (changed_arguments change rest)

abbrev pub changed_alternative : Change → Alternative → Alternative
changed_alternative change (alternative test body) =
    alternative (change.on_tree test) (changed_body change body)

abbrev pub changed_alternatives : Change → Alternatives → Alternatives
changed_alternatives change no_alternative = no_alternative
changed_alternatives change (alternative_and first rest) =
    alternative_and (changed_alternative change first) (changed_alternatives change rest)

abbrev pub changed_otherwise : Change → Otherwise → Otherwise
changed_otherwise change no_otherwise = no_otherwise
changed_otherwise change (otherwise body) = otherwise (changed_body change body)

abbrev pub changed_tests : Change → Tests → Tests
changed_tests change no_test = no_test
changed_tests change (test_and first rest) =
    test_and (change.on_tree first) (changed_tests change rest)

abbrev pub changed_arm : Change → Arm → Arm
changed_arm change (arm tried body) = arm (changed_tests change tried) (changed_body change body)

abbrev pub changed_arms : Change → Arms → Arms
changed_arms change no_arm = no_arm
changed_arms change (arm_and first rest) =
    arm_and (changed_arm change first) (changed_arms change rest)

abbrev pub changed_clause : Change → BlockClause → BlockClause
changed_clause change (afterwards_clause body) = afterwards_clause (changed_body change body)
changed_clause change (cleanup_clause body) = cleanup_clause (changed_body change body)
changed_clause change (exception_clause variable condition body) =
    exception_clause variable (change.on_type condition) (changed_body change body)

abbrev pub changed_clauses : Change → BlockClauses → BlockClauses
changed_clauses change no_clause = no_clause
changed_clauses change (clause_and first rest) =
    clause_and (changed_clause change first) (changed_clauses change rest)

abbrev pub changed_limit : Change → MaybeLimit → MaybeLimit
changed_limit change no_limit = no_limit
changed_limit change (a_limit word bound) = a_limit word (change.on_tree bound)

abbrev pub changed_for : Change → ForClause → ForClause
changed_for change (then_clause variable first next) =
    then_clause (changed_variable change variable) (change.on_tree first) (change.on_tree next)
changed_for change (in_clause variable collection) =
    in_clause (changed_variable change variable) (change.on_tree collection)
changed_for change (from_clause variable start limit step) =
    from_clause (changed_variable change variable) (change.on_tree start)
    (changed_limit change limit) (changed_maybe change step)

abbrev pub changed_for_clauses : Change → ForClauses → ForClauses
changed_for_clauses change no_for_clause = no_for_clause
changed_for_clauses change (for_clause_and first rest) =
    for_clause_and (changed_for change first) (changed_for_clauses change rest)

abbrev pub changed_stop : Change → MaybeStop → MaybeStop
changed_stop change no_stop = no_stop
changed_stop change (a_stop word test) = a_stop word (change.on_tree test)

abbrev pub changed_stop_tree : Change → StopTree → StopTree
changed_stop_tree change stop = record { keyword = stop.keyword; test = change.on_tree stop.test }

-- forms

abbrev pub changed_option : Change → SlotOption → SlotOption
changed_option change (init_keyword token) = init_keyword token
changed_option change (required_init_keyword token) = required_init_keyword token
changed_option change (init_value tree) = init_value (change.on_tree tree)
changed_option change (init_function tree) = init_function (change.on_tree tree)
changed_option change (setter token) = setter token

abbrev pub changed_slot : Change → SlotTree → SlotTree
changed_slot change slot =
    record {
      adjectives = slot.adjectives;
      variable = changed_variable change slot.variable;
      default = changed_maybe change slot.default;
      options = map (changed_option change) slot.options;
    }

abbrev pub changed_form : Change → FormTree → FormTree
changed_form change (expression_form tree) = expression_form (change.on_tree tree)
changed_form change (class_form define adjectives token superclasses slots) =
    class_form define adjectives token superclasses (map (changed_slot change) slots)
changed_form change (constant_form define target assigned) =
    constant_form define (changed_target change target) (change.on_tree assigned)
changed_form change (variable_form define target assigned) =
    variable_form define (changed_target change target) (change.on_tree assigned)
changed_form change (generic_form define adjectives token signature) =
    generic_form define adjectives token (changed_parameters change signature)
changed_form change (method_form define adjectives word token signature body) =
    method_form define adjectives word token (changed_parameters change signature)
    (changed_body change body)
changed_form change (function_form define adjectives token signature body) =
    function_form define adjectives token (changed_parameters change signature)
    (changed_body change body)
changed_form change (domain_form define token types) =
    domain_form define token (map change.on_type types)
