-- Expressions, bodies and statements without where they lie in memory (DRM, appendix A).
use Rattle.std.specs.Prelude.{Bool, List, [], ◌∷◌, Option, Some, None}
use Rattle.dy_tree.specs.declared.token.Token.{Token}
use Rattle.dy_tree.specs.declared.types.LiteralForm.{LiteralForm}
use Rattle.dy_tree.specs.declared.roles.Precedence.{Precedence}
use Rattle.dy_tree.specs.declared.brackets.Guard.{Guard}
use Rattle.dy_rules.specs.ConstantTrees.{Constants, Tail}
use Rattle.dy_rules.specs.Types.{TypeTree, VariableTree, TargetTree, RequiredTree, ResultTree}

mutual
  pub data Tree : Type 0 where
    assignment : (place : Tree) (value : Tree) → Tree
    operation : (precedence : Precedence) (left : Tree) (operator : Token) (right : Tree) → Tree
    unary : (operator : Token) (operand : Tree) → Tree
    call : (function : Tree) (arguments : Arguments) → Tree
    element : (object : Tree) (opener : Token) (index : Tree) → Tree
    member : (object : Tree) (name : Token) → Tree
    literal : (value : LiteralForm) → Tree
    name : (token : Token) → Tree
    list : (opener : Token) (items : Constants) (tail : Tail) → Tree
    vector : (opener : Token) (items : Constants) → Tree
    begin_tree : (word : Token) (body : Body) → Tree
    if_tree : (word : Token) (test : Tree) (body : Body) (alternatives : Alternatives)
        (otherwise : Otherwise) → Tree
    guarded : (guard : Guard) (word : Token) (test : Tree) (body : Body) → Tree
    case_tree : (word : Token) (arms : Arms) (otherwise : Otherwise) → Tree
    select_tree : (word : Token) (value : Tree) (test : MaybeTree) (arms : Arms)
        (otherwise : Otherwise) → Tree
    block_tree : (word : Token) (exit : Option Token) (body : Body) (clauses : BlockClauses) → Tree
    for_tree : (word : Token) (clauses : ForClauses) (stop : MaybeStop) (body : Body)
        (finally : Otherwise) → Tree
    method_tree : (word : Token) (parameters : Parameters) (body : Body) → Tree

  pub data Parameters : Type 0 where
    parameters : (required : List RequiredTree) (next : Option Token) (rest : Option Token)
        (keys : MaybeKeys) (results : Option ResultTree) → Parameters

  pub data MaybeKeys : Type 0 where
    no_keys : MaybeKeys
    some_keys : (keys : Keys) (takes_all : Bool) → MaybeKeys

  pub data Keys : Type 0 where
    no_key : Keys
    key_and : (first : Key) (rest : Keys) → Keys

  pub data Key : Type 0 where
    a_key : (symbol : Option Token) (variable : VariableTree) (default : MaybeTree) → Key

  pub data LocalMethods : Type 0 where
    no_method : LocalMethods
    method_and : (first : LocalMethod) (rest : LocalMethods) → LocalMethods

  pub data LocalMethod : Type 0 where
    local_method : (word : Token) (token : Token) (parameters : Parameters) (body : Body)
        → LocalMethod

  pub data BlockClauses : Type 0 where
    no_clause : BlockClauses
    clause_and : (first : BlockClause) (rest : BlockClauses) → BlockClauses

  pub data BlockClause : Type 0 where
    afterwards_clause : (body : Body) → BlockClause
    cleanup_clause : (body : Body) → BlockClause
    exception_clause : (variable : Option Token) (condition : TypeTree) (body : Body) → BlockClause

  pub data ForClauses : Type 0 where
    no_for_clause : ForClauses
    for_clause_and : (first : ForClause) (rest : ForClauses) → ForClauses

  pub data ForClause : Type 0 where
    then_clause : (variable : VariableTree) (first : Tree) (next : Tree) → ForClause
    in_clause : (variable : VariableTree) (collection : Tree) → ForClause
    from_clause : (variable : VariableTree) (start : Tree) (limit : MaybeLimit) (step : MaybeTree)
        → ForClause

  -- `to`, `above` or `below`
  pub data MaybeLimit : Type 0 where
    no_limit : MaybeLimit
    a_limit : (word : Token) (bound : Tree) → MaybeLimit

  -- `while:` or `until:`
  pub data MaybeStop : Type 0 where
    no_stop : MaybeStop
    a_stop : (keyword : Token) (test : Tree) → MaybeStop

  pub data MaybeTree : Type 0 where
    no_tree : MaybeTree
    some_tree : (tree : Tree) → MaybeTree

  pub data Body : Type 0 where
    no_item : Body
    item_and : (first : ItemTree) (rest : Body) → Body

  pub data ItemTree : Type 0 where
    let_item : (word : Token) (target : TargetTree) (assigned : Tree) → ItemTree
    handler_item : (word : Token) (condition : TypeTree) (handler : Tree) → ItemTree
    local_item : (word : Token) (methods : LocalMethods) → ItemTree
    expression_item : (tree : Tree) → ItemTree

  pub data Alternatives : Type 0 where
    no_alternative : Alternatives
    alternative_and : (first : Alternative) (rest : Alternatives) → Alternatives

  -- `elseif`
  pub data Alternative : Type 0 where
    alternative : (test : Tree) (body : Body) → Alternative

  pub data Otherwise : Type 0 where
    no_otherwise : Otherwise
    otherwise : (body : Body) → Otherwise

  pub data Arms : Type 0 where
    no_arm : Arms
    arm_and : (first : Arm) (rest : Arms) → Arms

  -- tests, and what is evaluated where one of them holds
  pub data Arm : Type 0 where
    arm : (tests : Tests) (body : Body) → Arm

  pub data Tests : Type 0 where
    no_test : Tests
    test_and : (first : Tree) (rest : Tests) → Tests

  pub data Arguments : Type 0 where
    no_argument : Arguments
    argument_and : (first : Argument) (rest : Arguments) → Arguments

  pub data Argument : Type 0 where
    keyword : (symbol : Token) (value : Tree) → Argument
    value : (tree : Tree) → Argument

-- arguments one after the other
abbrev pub arguments_of : List Argument → Arguments
arguments_of [] = no_argument
arguments_of (first ∷ rest) = argument_and first (arguments_of rest)

abbrev pub body_of : List ItemTree → Body
body_of [] = no_item
body_of (first ∷ rest) = item_and first (body_of rest)

abbrev pub alternatives_of : List Alternative → Alternatives
alternatives_of [] = no_alternative
alternatives_of (first ∷ rest) = alternative_and first (alternatives_of rest)

abbrev pub tests_of : List Tree → Tests
tests_of [] = no_test
tests_of (first ∷ rest) = test_and first (tests_of rest)

abbrev pub arms_of : List Arm → Arms
arms_of [] = no_arm
arms_of (first ∷ rest) = arm_and first (arms_of rest)

abbrev pub maybe_of : Option Tree → MaybeTree
maybe_of None = no_tree
maybe_of (Some tree) = some_tree tree

abbrev pub block_clauses_of : List BlockClause → BlockClauses
block_clauses_of [] = no_clause
block_clauses_of (first ∷ rest) = clause_and first (block_clauses_of rest)

abbrev pub for_clauses_of : List ForClause → ForClauses
for_clauses_of [] = no_for_clause
for_clauses_of (first ∷ rest) = for_clause_and first (for_clauses_of rest)

-- the test that ends a loop
pub record StopTree : Type 0 where
  pub keyword : Token
  pub test : Tree

abbrev pub stop_of : Option StopTree → MaybeStop
stop_of None = no_stop
stop_of (Some stop) = a_stop stop.keyword stop.test

abbrev pub keys_of : List Key → Keys
keys_of [] = no_key
keys_of (first ∷ rest) = key_and first (keys_of rest)

abbrev pub methods_of : List LocalMethod → LocalMethods
methods_of [] = no_method
methods_of (first ∷ rest) = method_and first (methods_of rest)

-- the keys of a parameter list, and whether it takes all
pub record KeysTree : Type 0 where
  pub keys : List Key
  pub takes_all : Bool

abbrev pub maybe_keys : Option KeysTree → MaybeKeys
maybe_keys None = no_keys
maybe_keys (Some found) = some_keys (keys_of found.keys) found.takes_all

-- what stands between the brackets of a parameter list
pub record Listed : Type 0 where
  pub required : List RequiredTree
  pub next : Option Token
  pub rest : Option Token
  pub keys : Option KeysTree

abbrev pub parameters_of : Listed → Option ResultTree → Parameters
parameters_of found results =
    parameters found.required found.next found.rest (maybe_keys found.keys) results
