-- The constructs that expressions, statements and bodies hold: what they are, and what their parts
-- hold, in the order of the text (DRM 4; DRM 7; DRM, appendix A).
use Rattle.std.specs.Prelude.{◌++◌, Bool, true, false, not, List, [], ◌∷◌}
use Rattle.dy_rules.specs.Trees as source
use Rattle.dy_rules.specs.Trees.{Tree, Arguments, Argument, Body, ItemTree, Alternatives}
use Rattle.dy_rules.specs.Trees.{Alternative, Otherwise, Arms, Arm, Tests, MaybeTree, MaybeStop}
use Rattle.dy_rules.specs.Trees.{MaybeLimit, MaybeKeys, Keys, Key, Parameters, LocalMethods}
use Rattle.dy_rules.specs.Trees.{LocalMethod, BlockClauses, BlockClause, ForClauses, ForClause}
use Rattle.dy_construct_parts.specs.declared.construct.Construct.{Construct}
use Rattle.dy_construct_parts.specs.declared.construct.Construct.TheVariants as constructs
use Rattle.dy_construct_parts.specs.Table.{where_given, where_true}
use Rattle.dy_construct_parts.specs.Words.{binary, unary, guarded, is_comparison, next_method}
use Rattle.dy_construct_parts.specs.Parts.{of_literal, in_constants, in_tail, in_type, in_variable}
use Rattle.dy_construct_parts.specs.Parts.{in_target, in_all_required, in_results}

-- what stands behind an argument, or behind a part of a body
abbrev pub more_arguments : Arguments → List Construct
more_arguments source.no_argument = []
more_arguments (source.argument_and first rest) = constructs.SeveralArguments ∷ []

abbrev pub more_items : Body → List Construct
more_items source.no_item = []
more_items (source.item_and first rest) = constructs.SeveralItems ∷ []

abbrev pub is_name : Tree → Bool
is_name (source.name token) = true
is_name _ = false

abbrev pub is_compared : Tree → Bool
is_compared (source.operation precedence left operator right) = is_comparison (binary operator)
is_compared _ = false

-- What an expression is by its place, beside what it holds wherever it stands: where it is called,
-- where a value is wanted, and as the test in the brackets behind a word.
abbrev pub as_function : Tree → List Construct
as_function tree = where_true constructs.ComputedCall (not (is_name tree))

abbrev pub as_value : Tree → List Construct
as_value tree = where_true constructs.ComparisonValue (is_compared tree)

abbrev pub as_test : Tree → List Construct
as_test tree = where_true constructs.OtherTest (not (is_compared tree))

abbrev mutual
  -- an expression
  pub in_tree : Tree → List Construct
  in_tree (source.assignment place value) =
      constructs.Assignment ∷ (in_tree place ++ (as_value value ++ in_tree value))
  in_tree (source.operation precedence left operator right) =
      binary operator ∷ ((as_value left ++ in_tree left) ++ (as_value right ++ in_tree right))
  in_tree (source.unary operator operand) = unary operator ∷ (as_value operand ++ in_tree operand)
  in_tree (source.call function arguments) =
      constructs.Call ∷ ((as_function function ++ in_tree function) ++ in_arguments arguments)
  in_tree (source.element inner opener index) =
      constructs.Element ∷ ((as_value inner ++ in_tree inner) ++ (as_value index ++ in_tree index))
  in_tree (source.member inner token) =
      constructs.Member ∷ (next_method token ++ (as_value inner ++ in_tree inner))
  in_tree (source.literal value) = of_literal value ∷ []
  in_tree (source.name token) = constructs.Name ∷ next_method token
  in_tree (source.list opener items last) = constructs.List ∷ (in_constants items ++ in_tail last)
  in_tree (source.vector opener items) = constructs.Vector ∷ in_constants items
  in_tree (source.begin_tree word body) = constructs.Begin ∷ in_body body
  in_tree (source.method_tree word row body) =
      constructs.AnonymousMethod ∷ (in_parameters row ++ in_body body)
  in_tree (source.if_tree word test body alternatives other) =
      constructs.If
      ∷ ((as_test test ++ in_tree test) ++ in_body body ++ in_alternatives alternatives
      ++ in_else other)
  in_tree (source.guarded guard word test body) =
      guarded guard ∷ ((as_test test ++ in_tree test) ++ in_body body)
  in_tree (source.case_tree word arms other) =
      constructs.Case ∷ (in_arms arms ++ in_last constructs.Otherwise other)
  in_tree (source.select_tree word value test arms other) =
      constructs.Select
      ∷ ((as_value value ++ in_tree value) ++ in_maybe constructs.SelectTest test ++ in_arms arms
      ++ in_last constructs.Otherwise other)
  in_tree (source.block_tree word exit body clauses) =
      constructs.Block
      ∷ (where_given constructs.BlockExit exit ++ in_body body ++ in_clauses clauses)
  in_tree (source.for_tree word clauses stop body finally) =
      constructs.For
      ∷ (in_loop clauses ++ in_stop stop ++ in_body body ++ in_last constructs.Finally finally)

  pub in_arguments : Arguments → List Construct
  in_arguments source.no_argument = constructs.NoArgument ∷ []
  in_arguments (source.argument_and first rest) =
      more_arguments rest ++ in_argument first ++ in_each_argument rest

  pub in_each_argument : Arguments → List Construct
  in_each_argument source.no_argument = []
  in_each_argument (source.argument_and first rest) = in_argument first ++ in_each_argument rest

  pub in_argument : Argument → List Construct
  in_argument (source.keyword symbol value) =
      constructs.KeywordArgument ∷ (as_value value ++ in_tree value)
  in_argument (source.value tree) = as_value tree ++ in_tree tree

  pub in_body : Body → List Construct
  in_body source.no_item = constructs.EmptyBody ∷ []
  in_body (source.item_and first rest) = more_items rest ++ in_item first ++ in_items rest

  pub in_items : Body → List Construct
  in_items source.no_item = []
  in_items (source.item_and first rest) = in_item first ++ in_items rest

  pub in_item : ItemTree → List Construct
  in_item (source.let_item word target value) =
      constructs.Let ∷ (in_target target ++ (as_value value ++ in_tree value))
  in_item (source.handler_item word condition function) =
      constructs.LetHandler ∷ (in_type condition ++ (as_value function ++ in_tree function))
  in_item (source.local_item word methods) = constructs.LocalMethods ∷ in_methods methods
  in_item (source.expression_item tree) = as_value tree ++ in_tree tree

  pub in_methods : LocalMethods → List Construct
  in_methods source.no_method = []
  in_methods (source.method_and first rest) = in_method first ++ in_methods rest

  pub in_method : LocalMethod → List Construct
  in_method (source.local_method word token row body) = in_parameters row ++ in_body body

  pub in_parameters : Parameters → List Construct
  in_parameters (source.parameters required next rest keys results) =
      in_all_required required ++ where_given constructs.NextParameter next
      ++ where_given constructs.RestParameter rest ++ in_keys keys ++ in_results results

  pub in_keys : MaybeKeys → List Construct
  in_keys source.no_keys = []
  in_keys (source.some_keys keys takes_all) =
      constructs.KeyParameters ∷ (in_key_row keys ++ where_true constructs.AllKeys takes_all)

  pub in_key_row : Keys → List Construct
  in_key_row source.no_key = []
  in_key_row (source.key_and first rest) = in_key first ++ in_key_row rest

  pub in_key : Key → List Construct
  in_key (source.a_key symbol variable default) =
      where_given constructs.NamedKeyword symbol ++ in_variable constructs.TypedKey variable
      ++ in_maybe constructs.KeyDefault default

  -- an expression that may be left out, which is this construct where it stands
  pub in_maybe : Construct → MaybeTree → List Construct
  in_maybe construct source.no_tree = []
  in_maybe construct (source.some_tree tree) = construct ∷ (as_value tree ++ in_tree tree)

  pub in_alternatives : Alternatives → List Construct
  in_alternatives source.no_alternative = []
  in_alternatives (source.alternative_and first rest) = in_alternative first ++ in_alternatives rest

  pub in_alternative : Alternative → List Construct
  in_alternative (source.alternative test body) =
      constructs.Elseif ∷ ((as_test test ++ in_tree test) ++ in_body body)

  -- the last part of an `if`
  pub in_else : Otherwise → List Construct
  in_else source.no_otherwise = constructs.NoElse ∷ []
  in_else (source.otherwise body) = in_body body

  -- a last body that may be left out, which is this construct where it stands
  pub in_last : Construct → Otherwise → List Construct
  in_last construct source.no_otherwise = []
  in_last construct (source.otherwise body) = construct ∷ in_body body

  pub in_arms : Arms → List Construct
  in_arms source.no_arm = []
  in_arms (source.arm_and first rest) = in_arm first ++ in_arms rest

  pub in_arm : Arm → List Construct
  in_arm (source.arm tests body) = in_tests tests ++ in_body body

  pub in_tests : Tests → List Construct
  in_tests source.no_test = []
  in_tests (source.test_and first rest) = (as_value first ++ in_tree first) ++ in_tests rest

  pub in_clauses : BlockClauses → List Construct
  in_clauses source.no_clause = []
  in_clauses (source.clause_and first rest) = in_clause first ++ in_clauses rest

  pub in_clause : BlockClause → List Construct
  in_clause (source.afterwards_clause body) = constructs.Afterwards ∷ in_body body
  in_clause (source.cleanup_clause body) = constructs.Cleanup ∷ in_body body
  in_clause (source.exception_clause variable condition body) =
      constructs.ExceptionClause ∷ (in_type condition ++ in_body body)

  pub in_loop : ForClauses → List Construct
  in_loop source.no_for_clause = []
  in_loop (source.for_clause_and first rest) = in_loop_clause first ++ in_loop rest

  pub in_loop_clause : ForClause → List Construct
  in_loop_clause (source.then_clause variable first next) =
      constructs.ThenClause
      ∷ (in_variable constructs.TypedVariable variable ++ (as_value first ++ in_tree first)
      ++ (as_value next ++ in_tree next))
  in_loop_clause (source.in_clause variable collection) =
      constructs.InClause
      ∷ (in_variable constructs.TypedVariable variable
      ++ (as_value collection ++ in_tree collection))
  in_loop_clause (source.from_clause variable start limit step) =
      constructs.FromClause
      ∷ (in_variable constructs.TypedVariable variable ++ (as_value start ++ in_tree start)
      ++ in_limit limit ++ in_maybe constructs.Step step)

  pub in_limit : MaybeLimit → List Construct
  in_limit source.no_limit = []
  in_limit (source.a_limit word bound) = constructs.Limit ∷ (as_value bound ++ in_tree bound)

  pub in_stop : MaybeStop → List Construct
  in_stop source.no_stop = []
  in_stop (source.a_stop symbol test) = constructs.Stop ∷ (as_value test ++ in_tree test)

abbrev pub in_value : Tree → List Construct
in_value tree = as_value tree ++ in_tree tree

abbrev pub in_test : Tree → List Construct
in_test tree = as_test tree ++ in_tree tree

abbrev pub in_called : Tree → List Construct
in_called tree = as_function tree ++ in_tree tree
