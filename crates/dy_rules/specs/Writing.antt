-- The fragments that a tree is written as (own): brackets stand round every operand that is no
-- leaf, round a symbol or a negative literal that is an operand, round an integer under a minus,
-- and round a name, or a member with a name, that splits a statement.
use Rattle.std.specs.Prelude.{Bool, true, false, ◌||◌, List, [], ◌∷◌, ◌++◌, codes, Option, Some}
use Rattle.std.specs.Prelude.{None}
use Rattle.dy_tree.specs.declared.token.Token.{Token}
use Rattle.dy_tree.specs.declared.types.LiteralForm.{LiteralForm}
use Rattle.dy_tree.specs.declared.types.LiteralForm.TheVariants as literals
use Rattle.dy_tree.specs.Fragments.{SeenFragment, one}
use Rattle.dy_tree.specs.declared.roles.Role.{Role}
use Rattle.dy_tree.specs.declared.roles.Role.TheVariants as roles
use Rattle.dy_tree.specs.declared.splitters.Splitting.TheVariants as splittings
use Rattle.dy_rules.specs.Marks.{in_round, written_literal, assigns_mark, dot_mark, comma_mark}
use Rattle.dy_rules.specs.Marks.{list_group, square_group, semicolon_mark, word_mark}
use Rattle.dy_rules.specs.Marks.{statement_group, equals_mark, handler_mark, arrow_mark}
use Rattle.dy_rules.specs.Marks.{colons_mark, key_mark, all_keys_mark}
use Rattle.dy_rules.specs.TypeWriting.{written_type, written_target, written_variable}
use Rattle.dy_rules.specs.TypeWriting.{written_results, required_joined, next_joined, rest_joined}
use Rattle.dy_rules.specs.ConstantTrees.{Constant, literal_item, list_item, vector_item, Constants}
use Rattle.dy_rules.specs.ConstantTrees.{no_constant, constant_and, Tail, no_tail, tail}
use Rattle.dy_rules.specs.Trees.{Tree, assignment, operation, unary, call, element, member, literal}
use Rattle.dy_rules.specs.Trees.{name, Arguments, no_argument, argument_and, Argument, keyword}
use Rattle.dy_rules.specs.Trees.{value, list, vector, begin_tree, if_tree, guarded, Body, no_item}
use Rattle.dy_rules.specs.Trees.{item_and, ItemTree, let_item, handler_item, expression_item}
use Rattle.dy_rules.specs.Trees.{Alternatives, no_alternative, alternative_and, Alternative}
use Rattle.dy_rules.specs.Trees.{alternative, Otherwise, no_otherwise, otherwise, case_tree}
use Rattle.dy_rules.specs.Trees.{select_tree, MaybeTree, no_tree, some_tree, Arms, no_arm, arm_and}
use Rattle.dy_rules.specs.Trees.{Arm, arm, Tests, no_test, test_and, block_tree, for_tree}
use Rattle.dy_rules.specs.Trees.{BlockClauses, no_clause, clause_and, BlockClause}
use Rattle.dy_rules.specs.Trees.{afterwards_clause, cleanup_clause, exception_clause, ForClauses}
use Rattle.dy_rules.specs.Trees.{no_for_clause, for_clause_and, ForClause, then_clause, in_clause}
use Rattle.dy_rules.specs.Trees.{from_clause, MaybeLimit, no_limit, a_limit, MaybeStop, no_stop}
use Rattle.dy_rules.specs.Trees.{a_stop, method_tree, Parameters, parameters, MaybeKeys, no_keys}
use Rattle.dy_rules.specs.Trees.{some_keys, Keys, no_key, key_and, Key, a_key, LocalMethods}
use Rattle.dy_rules.specs.Trees.{no_method, method_and, LocalMethod, local_method, local_item}
use Rattle.dy_rules.specs.Roles.{role_of, splits}
use Rattle.dy_rules.specs.Types.{TypeTree}

-- the name splits some statement
abbrev pub splits_some : Token → Bool
splits_some token = splits splittings.Branches token || splits splittings.Endings token
    || splits splittings.LastPart token || splits splittings.Steps token
    || splits splittings.Tests token

abbrev pub bracketed : Bool → List SeenFragment → List SeenFragment
bracketed true fragments = in_round fragments ∷ []
bracketed false fragments = fragments

-- a literal that is written with brackets where it is an operand
abbrev pub is_signed : Option Token → Bool
is_signed None = false
is_signed (Some sign) = true

abbrev pub literal_bracketed : LiteralForm → Bool
literal_bracketed (literals.Int form) = is_signed form.minus
literal_bracketed (literals.Symbol token) = true
literal_bracketed _ = false

-- a tree that is written with brackets wherever it stands
abbrev pub splits_tree : Tree → Bool
splits_tree (name token) = splits_some token
splits_tree (member object token) = splits_some token
splits_tree _ = false

-- a tree that is written with brackets where it is an operand
abbrev pub operand_bracketed : Tree → Bool
operand_bracketed (literal form) = literal_bracketed form
operand_bracketed (name token) = splits_some token
operand_bracketed (list opener items last) = false
operand_bracketed (vector opener items) = false
operand_bracketed (begin_tree word body) = false
operand_bracketed (if_tree word test body others last) = false
operand_bracketed (guarded guard word test body) = false
operand_bracketed (case_tree word arms last) = false
operand_bracketed (select_tree word selected test arms last) = false
operand_bracketed (block_tree word exit body clauses) = false
operand_bracketed (method_tree word signature body) = false
operand_bracketed (for_tree word clauses stop body last) = false
operand_bracketed _ = true

abbrev pub is_integer_literal : LiteralForm → Bool
is_integer_literal (literals.Int form) = true
is_integer_literal _ = false

abbrev pub is_minus_role : Role → Bool
is_minus_role roles.Minus = true
is_minus_role _ = false

-- a tree that is written with brackets as the operand of a minus
abbrev pub minus_bracketed : Tree → Bool
minus_bracketed (literal form) = is_integer_literal form || literal_bracketed form
minus_bracketed tree = operand_bracketed tree

abbrev pub unary_bracketed : Bool → Tree → Bool
unary_bracketed true tree = minus_bracketed tree
unary_bracketed false tree = operand_bracketed tree

abbrev pub as_operand : Tree → List SeenFragment → List SeenFragment
as_operand tree fragments = bracketed (operand_bracketed tree) fragments

abbrev pub as_whole : Tree → List SeenFragment → List SeenFragment
as_whole tree fragments = bracketed (splits_tree tree) fragments

abbrev mutual
  pub written_constant : Constant → List SeenFragment
  written_constant (literal_item form) = written_literal form
  written_constant (list_item opener items last) =
      list_group opener (written_items items ++ written_tail last) ∷ []
  written_constant (vector_item opener items) = square_group opener (written_items items) ∷ []

  pub written_items : Constants → List SeenFragment
  written_items no_constant = []
  written_items (constant_and first rest) = written_constant first ++ rest_of_items rest

  pub rest_of_items : Constants → List SeenFragment
  rest_of_items no_constant = []
  rest_of_items (constant_and first rest) =
      comma_mark ∷ (written_constant first ++ rest_of_items rest)

  pub written_tail : Tail → List SeenFragment
  written_tail no_tail = []
  written_tail (tail item) = dot_mark ∷ written_constant item

-- arms, and behind them what is evaluated otherwise
abbrev pub joined_choices : Arms → Otherwise → List SeenFragment → List SeenFragment
    → List SeenFragment
joined_choices no_arm last before after = after
joined_choices (arm_and first rest) no_otherwise before after = before
joined_choices (arm_and first rest) (otherwise body) before after = before ++ semicolon_mark ∷ after

abbrev pub written_all : Bool → List SeenFragment
written_all false = []
written_all true = comma_mark ∷ all_keys_mark ∷ []

abbrev pub written_label : Option Token → List SeenFragment → List SeenFragment
written_label None fragments = fragments
written_label (Some token) fragments = one token ∷ fragments

-- clauses, and behind them the test that ends the loop
abbrev pub joined_clauses : ForClauses → MaybeStop → List SeenFragment → List SeenFragment
    → List SeenFragment
joined_clauses no_for_clause stop before after = after
joined_clauses (for_clause_and first rest) no_stop before after = before
joined_clauses (for_clause_and first rest) (a_stop key test) before after =
    before ++ comma_mark ∷ after

abbrev pub written_exit : Option Token → List SeenFragment
written_exit None = []
written_exit (Some token) = one token ∷ []

abbrev pub written_caught : Option Token → TypeTree → List SeenFragment
written_caught None condition = written_type condition
written_caught (Some token) condition = one token ∷ colons_mark ∷ written_type condition

-- `plain` gives a tree without brackets round it.
abbrev mutual
  pub plain : Tree → List SeenFragment
  plain (assignment place assigned) =
      as_operand place (plain place) ++ assigns_mark ∷ as_operand assigned (plain assigned)
  plain (operation precedence left operator right) =
      as_operand left (plain left) ++ one operator ∷ as_operand right (plain right)
  plain (unary operator operand) =
      one operator ∷ bracketed (unary_bracketed (is_minus_role (role_of operator)) operand)
      (plain operand)
  plain (call function arguments) =
      as_operand function (plain function) ++ in_round (written_arguments arguments) ∷ []
  plain (element object opener index) =
      as_operand object (plain object) ++ square_group opener (as_whole index (plain index)) ∷ []
  plain (member object token) = as_operand object (plain object) ++ dot_mark ∷ one token ∷ []
  plain (literal form) = written_literal form
  plain (name token) = one token ∷ []
  plain (list opener items last) = list_group opener (written_items items ++ written_tail last) ∷ []
  plain (vector opener items) = square_group opener (written_items items) ∷ []
  plain (begin_tree word body) = statement_group word (written_body body) ∷ []
  plain (if_tree word test body others last) =
      statement_group word (in_round (as_whole test (plain test))
      ∷ (written_body body ++ (written_alternatives others ++ written_otherwise last))) ∷ []
  plain (guarded guard word test body) =
      statement_group word (in_round (as_whole test (plain test)) ∷ written_body body) ∷ []
  plain (case_tree word arms last) =
      statement_group word (joined_choices arms last (written_arms arms) (written_remains last))
      ∷ []
  plain (select_tree word selected test arms last) =
      statement_group word (in_round (as_whole selected (plain selected) ++ written_test test)
      ∷ joined_choices arms last (written_arms arms) (written_remains last)) ∷ []
  plain (block_tree word exit body clauses) =
      statement_group word (in_round (written_exit exit)
      ∷ (written_body body ++ written_clauses clauses)) ∷ []
  plain (for_tree word clauses stop body last) =
      statement_group word (in_round
      (joined_clauses clauses stop (written_for clauses) (written_stop stop))
      ∷ (written_body body ++ written_finally last)) ∷ []
  plain (method_tree word signature body) =
      statement_group word (written_signature signature ++ semicolon_mark ∷ written_body body) ∷ []

  -- A semicolon stands behind the results.
  pub written_signature : Parameters → List SeenFragment
  written_signature (parameters required next rest keys results) =
      in_round (required_joined required (next_joined next (rest_joined rest (written_keys keys))))
      ∷ written_results results

  pub written_keys : MaybeKeys → List SeenFragment
  written_keys no_keys = []
  written_keys (some_keys keys takes_all) = key_mark ∷ (first_keys keys ++ written_all takes_all)

  pub first_keys : Keys → List SeenFragment
  first_keys no_key = []
  first_keys (key_and first rest) = written_key first ++ keys_behind rest

  pub keys_behind : Keys → List SeenFragment
  keys_behind no_key = []
  keys_behind (key_and first rest) = comma_mark ∷ (written_key first ++ keys_behind rest)

  pub written_key : Key → List SeenFragment
  written_key (a_key label variable default) =
      written_label label (written_variable variable ++ written_initial default)

  pub written_initial : MaybeTree → List SeenFragment
  written_initial no_tree = []
  written_initial (some_tree tree) = equals_mark ∷ as_whole tree (plain tree)

  pub written_methods : LocalMethods → List SeenFragment
  written_methods no_method = []
  written_methods (method_and first rest) = written_method first ∷ methods_behind rest

  pub methods_behind : LocalMethods → List SeenFragment
  methods_behind no_method = []
  methods_behind (method_and first rest) = comma_mark ∷ written_method first ∷ methods_behind rest

  pub written_method : LocalMethod → SeenFragment
  written_method (local_method word token signature body) =
      statement_group word (one token
      ∷ (written_signature signature ++ semicolon_mark ∷ written_body body))

  pub written_clauses : BlockClauses → List SeenFragment
  written_clauses no_clause = []
  written_clauses (clause_and first rest) = written_clause first ++ written_clauses rest

  pub written_clause : BlockClause → List SeenFragment
  written_clause (afterwards_clause body) = word_mark (codes "afterwards") ∷ written_body body
  written_clause (cleanup_clause body) = word_mark (codes "cleanup") ∷ written_body body
  written_clause (exception_clause variable condition body) =
      word_mark (codes "exception") ∷ in_round (written_caught variable condition)
      ∷ written_body body

  pub written_for : ForClauses → List SeenFragment
  written_for no_for_clause = []
  written_for (for_clause_and first rest) = written_for_clause first ++ for_behind rest

  pub for_behind : ForClauses → List SeenFragment
  for_behind no_for_clause = []
  for_behind (for_clause_and first rest) =
      comma_mark ∷ (written_for_clause first ++ for_behind rest)

  pub written_for_clause : ForClause → List SeenFragment
  written_for_clause (then_clause variable first next) =
      (written_variable variable ++ equals_mark ∷ as_whole first (plain first))
      ++ word_mark (codes "then") ∷ as_whole next (plain next)
  written_for_clause (in_clause variable collection) =
      written_variable variable ++ word_mark (codes "in") ∷ as_whole collection (plain collection)
  written_for_clause (from_clause variable start limit step) =
      written_variable variable ++ word_mark (codes "from")
      ∷ (as_whole start (plain start) ++ (written_limit limit ++ written_step step))

  pub written_limit : MaybeLimit → List SeenFragment
  written_limit no_limit = []
  written_limit (a_limit word bound) = one word ∷ as_whole bound (plain bound)

  pub written_step : MaybeTree → List SeenFragment
  written_step no_tree = []
  written_step (some_tree tree) = word_mark (codes "by") ∷ as_whole tree (plain tree)

  pub written_stop : MaybeStop → List SeenFragment
  written_stop no_stop = []
  written_stop (a_stop key test) = one key ∷ as_whole test (plain test)

  pub written_finally : Otherwise → List SeenFragment
  written_finally no_otherwise = []
  written_finally (otherwise body) = word_mark (codes "finally") ∷ written_body body

  pub written_test : MaybeTree → List SeenFragment
  written_test no_tree = []
  written_test (some_tree tree) = word_mark (codes "by") ∷ as_whole tree (plain tree)

  pub written_arms : Arms → List SeenFragment
  written_arms no_arm = []
  written_arms (arm_and first rest) = written_arm first ++ arms_behind rest

  pub arms_behind : Arms → List SeenFragment
  arms_behind no_arm = []
  arms_behind (arm_and first rest) = semicolon_mark ∷ (written_arm first ++ arms_behind rest)

  pub written_arm : Arm → List SeenFragment
  written_arm (arm tried body) = written_tests tried ++ arrow_mark ∷ written_body body

  pub written_tests : Tests → List SeenFragment
  written_tests no_test = []
  written_tests (test_and first rest) = as_whole first (plain first) ++ tests_behind rest

  pub tests_behind : Tests → List SeenFragment
  tests_behind no_test = []
  tests_behind (test_and first rest) =
      comma_mark ∷ (as_whole first (plain first) ++ tests_behind rest)

  pub written_remains : Otherwise → List SeenFragment
  written_remains no_otherwise = []
  written_remains (otherwise body) = word_mark (codes "otherwise") ∷ written_body body

  pub written_body : Body → List SeenFragment
  written_body no_item = []
  written_body (item_and first rest) = written_item first ++ items_behind rest

  pub items_behind : Body → List SeenFragment
  items_behind no_item = []
  items_behind (item_and first rest) = semicolon_mark ∷ (written_item first ++ items_behind rest)

  pub written_item : ItemTree → List SeenFragment
  written_item (let_item word target assigned) =
      one word ∷ (written_target target ++ equals_mark ∷ as_whole assigned (plain assigned))
  written_item (handler_item word condition handler) =
      one word ∷ handler_mark ∷
      (written_type condition ++ equals_mark ∷ as_whole handler (plain handler))
  written_item (local_item word methods) = one word ∷ written_methods methods
  written_item (expression_item tree) = as_whole tree (plain tree)

  pub written_alternatives : Alternatives → List SeenFragment
  written_alternatives no_alternative = []
  written_alternatives (alternative_and first rest) =
      written_alternative first ++ written_alternatives rest

  pub written_alternative : Alternative → List SeenFragment
  written_alternative (alternative test body) =
      word_mark (codes "elseif") ∷ in_round (as_whole test (plain test)) ∷ written_body body

  pub written_otherwise : Otherwise → List SeenFragment
  written_otherwise no_otherwise = []
  written_otherwise (otherwise body) = word_mark (codes "else") ∷ written_body body

  pub written_arguments : Arguments → List SeenFragment
  written_arguments no_argument = []
  written_arguments (argument_and first rest) = written_argument first ++ written_rest rest

  pub written_rest : Arguments → List SeenFragment
  written_rest no_argument = []
  written_rest (argument_and first rest) =
      comma_mark ∷ (written_argument first ++ written_rest rest)

  pub written_argument : Argument → List SeenFragment
  written_argument (keyword token tree) = one token ∷ as_whole tree (plain tree)
  written_argument (value tree) = as_whole tree (plain tree)

-- a whole expression
abbrev pub written : Tree → List SeenFragment
written tree = as_whole tree (plain tree)

-- an operand
abbrev pub written_operand : Tree → List SeenFragment
written_operand tree = as_operand tree (plain tree)
