-- Drafts of terms without where they lie in memory.
use Rattle.std.specs.Prelude.{ℕ, Bool, List, [], ◌∷◌, map, Option, Some, None}
use Rattle.std.specs.Option.{option_map}
use Rattle.dy_tree.specs.declared.token.Token.{Token}
use Rattle.dy_term.specs.declared.literal.Literal.{Literal}
use Rattle.dy_term.specs.declared.term.Limit.{Limit}
use Rattle.dy_term.specs.declared.draft.Local.{Local}
use Rattle.dy_term.specs.declared.draft.DraftTerm.{DraftTerm, Lit, Name, Hidden, Set', NoPlace'}
use Rattle.dy_term.specs.declared.draft.DraftTerm.{Call', Values', Cond', And', Or', Select', Body'}
use Rattle.dy_term.specs.declared.draft.DraftTerm.{Loop', For', Method', Block', Row_of-DraftTerm}
use Rattle.dy_term.specs.declared.draft.DraftTerm.{end_of-DraftTerm, more_of-DraftTerm}
use Rattle.dy_term.specs.declared.draft.DraftTerm.{Row_of-DraftTerm-Cond-0-2}
use Rattle.dy_term.specs.declared.draft.DraftTerm.{end_of-DraftTerm-Cond-0-2}
use Rattle.dy_term.specs.declared.draft.DraftTerm.{more_of-DraftTerm-Cond-0-2}
use Rattle.dy_term.specs.declared.draft.DraftTerm.{Held-DraftTerm-Select-1}
use Rattle.dy_term.specs.declared.draft.DraftTerm.{DraftTerm-Select-1-None'}
use Rattle.dy_term.specs.declared.draft.DraftTerm.{DraftTerm-Select-1-Some', Row_of-DraftArm}
use Rattle.dy_term.specs.declared.draft.DraftTerm.{end_of-DraftArm, more_of-DraftArm}
use Rattle.dy_term.specs.declared.draft.DraftTerm.{Row_of-DraftItem, end_of-DraftItem}
use Rattle.dy_term.specs.declared.draft.DraftTerm.{more_of-DraftItem, Row_of-DraftForClause}
use Rattle.dy_term.specs.declared.draft.DraftTerm.{end_of-DraftForClause, more_of-DraftForClause}
use Rattle.dy_term.specs.declared.draft.DraftTerm.{Held-DraftFor-test, DraftFor-test-None'}
use Rattle.dy_term.specs.declared.draft.DraftTerm.{DraftFor-test-Some', Held-DraftForClause-From-4}
use Rattle.dy_term.specs.declared.draft.DraftTerm.{DraftForClause-From-4-None'}
use Rattle.dy_term.specs.declared.draft.DraftTerm.{DraftForClause-From-4-Some'}
use Rattle.dy_term.specs.declared.draft.DraftItem.{DraftItem, Run, Let, LetMethods', Handler}
use Rattle.dy_term.specs.declared.draft.DraftItem.{Row_of-DraftItem-LetMethods-0-2}
use Rattle.dy_term.specs.declared.draft.DraftItem.{end_of-DraftItem-LetMethods-0-2}
use Rattle.dy_term.specs.declared.draft.DraftItem.{more_of-DraftItem-LetMethods-0-2}
use Rattle.dy_term.specs.declared.draft.DraftForClause.{DraftForClause, Then, In, From'}
use Rattle.dy_term.specs.declared.draft.DraftForClause.{Held-DraftForClause-From-3}
use Rattle.dy_term.specs.declared.draft.DraftForClause.{DraftForClause-From-3-None'}
use Rattle.dy_term.specs.declared.draft.DraftForClause.{DraftForClause-From-3-Some'}
use Rattle.dy_term.specs.declared.draft.DraftBlock.{DraftBlock, DraftBlock'}
use Rattle.dy_term.specs.declared.draft.DraftBlock.{Row_of-DraftBlockClause}
use Rattle.dy_term.specs.declared.draft.DraftBlock.{end_of-DraftBlockClause}
use Rattle.dy_term.specs.declared.draft.DraftBlock.{more_of-DraftBlockClause}
use Rattle.dy_term.specs.declared.draft.DraftArm.{DraftArm}
use Rattle.dy_term.specs.declared.draft.DraftBlockClause.{DraftBlockClause}
use Rattle.dy_term.specs.declared.draft.DraftLambda.{DraftLambda}
use Rattle.dy_term.specs.Types.{CoreType, CoreParams, CoreResults, seen_type, seen_typed}
use Rattle.dy_term.specs.Types.{seen_params, seen_results}

mutual
  pub data Core : Type 0 where
    literal : (value : Literal) → Core
    name : (token : Token) → Core
    hidden : (number : ℕ) → Core
    set : (token : Token) (value : Core) → Core
    no_place : (token : Token) (place : Core) (value : Core) → Core
    call : (function : Core) (arguments : Cores) → Core
    values : (terms : Cores) → Core
    cond : (choice : Choice) → Core
    and : (left : Core) (right : Core) → Core
    or : (left : Core) (right : Core) → Core
    select : (value : Core) (test : MaybeCore) (arms : CoreArms) (otherwise : MaybeCore) → Core
    body : (items : CoreItems) → Core
    loop : (test : Core) (body : Core) → Core
    for : (clauses : CoreClauses) (test : CoreTest) (body : Core) (finally : MaybeCore) → Core
    method : (lambda : CoreLambda) → Core
    block : (exit : Option Token) (body : Core) (afterwards : MaybeCore) (cleanup : MaybeCore)
        (clauses : CoreCatches) → Core

  pub data Cores : Type 0 where
    no_core : Cores
    core_and : (first : Core) (rest : Cores) → Cores

  pub data MaybeCore : Type 0 where
    nothing : MaybeCore
    just : (term : Core) → MaybeCore

  -- the terms to choose from, each but the last with its test
  pub data Choice : Type 0 where
    otherwise : (term : Core) → Choice
    branch : (test : Core) (term : Core) (others : Choice) → Choice

  pub data CoreArms : Type 0 where
    no_arm : CoreArms
    arm_and : (values : Cores) (body : Core) (rest : CoreArms) → CoreArms

  pub data CoreItems : Type 0 where
    no_item : CoreItems
    item_and : (first : CoreItem) (rest : CoreItems) → CoreItems

  pub data CoreItem : Type 0 where
    run : (term : Core) → CoreItem
    let_values : (locals : List (Local × CoreType)) (rest : Option Local) (term : Core) → CoreItem
    let_methods : (methods : CoreMethods) → CoreItem
    handler : (condition : CoreType) (function : Core) → CoreItem

  pub data CoreMethods : Type 0 where
    no_method : CoreMethods
    method_and : (token : Token) (first : CoreLambda) (rest : CoreMethods) → CoreMethods

  pub data CoreLambda : Type 0 where
    lambda : (params : CoreParams) (defaults : Cores) (body : Core) (results : CoreResults)
        → CoreLambda

  pub data CoreClauses : Type 0 where
    no_clause : CoreClauses
    clause_and : (first : CoreClause) (rest : CoreClauses) → CoreClauses

  pub data CoreClause : Type 0 where
    then_clause : (variable : Token) (declared : CoreType) (first : Core) (next : Core) → CoreClause
    in_clause : (variable : Token) (declared : CoreType) (collection : Core) → CoreClause
    from_clause : (variable : Token) (declared : CoreType) (start : Core) (limit : CoreLimit)
        (step : MaybeCore) → CoreClause

  pub data CoreLimit : Type 0 where
    no_limit : CoreLimit
    a_limit : (limit : Limit) (bound : Core) → CoreLimit

  -- the test that ends a `for`, and whether it does so where it is true
  pub data CoreTest : Type 0 where
    no_test : CoreTest
    a_test : (ends : Bool) (test : Core) → CoreTest

  pub data CoreCatches : Type 0 where
    no_catch : CoreCatches
    catch_and : (variable : Option Token) (condition : CoreType) (body : Core) (rest : CoreCatches)
        → CoreCatches

-- terms one after the other
abbrev pub cores_of : List Core → Cores
cores_of [] = no_core
cores_of (first ∷ rest) = core_and first (cores_of rest)

abbrev pub maybe_of : Option Core → MaybeCore
maybe_of None = nothing
maybe_of (Some term) = just term

-- tests and terms in a list, and the last term
abbrev pub choice_of : List (Core × Core) → Core → Choice
choice_of [] last = otherwise last
choice_of (pair ∷ pairs) last = branch pair.0 pair.1 (choice_of pairs last)

-- an arm: the values that lead to it, and what is evaluated then
pub record CoreArm : Type 0 where
  pub values : List Core
  pub body : Core

abbrev pub arms_of : List CoreArm → CoreArms
arms_of [] = no_arm
arms_of (first ∷ rest) = arm_and (cores_of first.values) first.body (arms_of rest)

abbrev pub items_of : List CoreItem → CoreItems
items_of [] = no_item
items_of (first ∷ rest) = item_and first (items_of rest)

abbrev pub methods_of : List (Token × CoreLambda) → CoreMethods
methods_of [] = no_method
methods_of (first ∷ rest) = method_and first.0 first.1 (methods_of rest)

abbrev pub clauses_of : List CoreClause → CoreClauses
clauses_of [] = no_clause
clauses_of (first ∷ rest) = clause_and first (clauses_of rest)

-- an `exception` clause: the local of the condition, the type of conditions, and what runs
pub record CoreCatch : Type 0 where
  pub variable : Option Token
  pub condition : CoreType
  pub body : Core

abbrev pub catches_of : List CoreCatch → CoreCatches
catches_of [] = no_catch
catches_of (first ∷ rest) = catch_and first.variable first.condition first.body (catches_of rest)

abbrev mutual
  pub seen_term : DraftTerm → Core
  seen_term (Lit value) = literal value
  seen_term (Name token) = name token
  seen_term (Hidden number) = hidden number
  seen_term (Set' token p value) = set token (seen_term value)
  seen_term (NoPlace' token p place q value) = no_place token (seen_term place) (seen_term value)
  seen_term (Call' p function shape arguments) = call (seen_term function) (seen_terms arguments)
  seen_term (Values' shape terms) = values (seen_terms terms)
  seen_term (Cond' shape branches p last) = cond (seen_branches branches (seen_term last))
  seen_term (And' p left q right) = and (seen_term left) (seen_term right)
  seen_term (Or' p left q right) = or (seen_term left) (seen_term right)
  seen_term (Select' p value test shape arms last) =
      select (seen_term value) (seen_maybe test) (seen_arms arms) (seen_maybe last)
  seen_term (Body' shape items) = body (seen_items items)
  seen_term (Loop' p test q inner) = loop (seen_term test) (seen_term inner)
  seen_term (For' p shape clauses test inner finally) =
      for (seen_clauses clauses) (seen_test test) (seen_term inner) (seen_step finally)
  seen_term (Method' p params shape defaults inner results) =
      method (lambda (seen_params params) (seen_terms defaults) (seen_term inner)
      (seen_results results))
  seen_term (Block' p row) = seen_block row

  pub seen_block : DraftBlock → Core
  seen_block (DraftBlock' exit inner afterwards cleanup shape clauses) =
      block exit (seen_term inner) (seen_step afterwards) (seen_step cleanup) (seen_catches clauses)

  pub seen_terms : {m : _} → Row_of-DraftTerm m → Cores
  seen_terms end_of-DraftTerm = no_core
  seen_terms (more_of-DraftTerm first rest) = core_and (seen_term first) (seen_terms rest)

  pub seen_maybe : Held-DraftTerm-Select-1 → MaybeCore
  seen_maybe DraftTerm-Select-1-None' = nothing
  seen_maybe (DraftTerm-Select-1-Some' p term) = just (seen_term term)

  pub seen_step : Held-DraftForClause-From-4 → MaybeCore
  seen_step DraftForClause-From-4-None' = nothing
  seen_step (DraftForClause-From-4-Some' term) = just (seen_term term)

  pub seen_branches : {m : _} → Row_of-DraftTerm-Cond-0-2 m → Core → Choice
  seen_branches end_of-DraftTerm-Cond-0-2 last = otherwise last
  seen_branches (more_of-DraftTerm-Cond-0-2 test term branches) last =
      branch (seen_term test) (seen_term term) (seen_branches branches last)

  pub seen_arms : {m : _} → Row_of-DraftArm m → CoreArms
  seen_arms end_of-DraftArm = no_arm
  seen_arms (more_of-DraftArm shape keys inner rest) =
      arm_and (seen_terms keys) (seen_term inner) (seen_arms rest)

  pub seen_items : {m : _} → Row_of-DraftItem m → CoreItems
  seen_items end_of-DraftItem = no_item
  seen_items (more_of-DraftItem first rest) = item_and (seen_item first) (seen_items rest)

  pub seen_item : DraftItem → CoreItem
  seen_item (Run term) = run (seen_term term)
  seen_item (Let locals rest term) = let_values (map seen_typed locals.items) rest (seen_term term)
  seen_item (LetMethods' shape methods) = let_methods (seen_methods methods)
  seen_item (Handler condition function) = handler (seen_type condition) (seen_term function)

  pub seen_methods : {m : _} → Row_of-DraftItem-LetMethods-0-2 m → CoreMethods
  seen_methods end_of-DraftItem-LetMethods-0-2 = no_method
  seen_methods (more_of-DraftItem-LetMethods-0-2 token params shape defaults inner results rest) =
      method_and token (lambda (seen_params params) (seen_terms defaults) (seen_term inner)
      (seen_results results)) (seen_methods rest)

  pub seen_clauses : {m : _} → Row_of-DraftForClause m → CoreClauses
  seen_clauses end_of-DraftForClause = no_clause
  seen_clauses (more_of-DraftForClause first rest) =
      clause_and (seen_clause first) (seen_clauses rest)

  pub seen_clause : DraftForClause → CoreClause
  seen_clause (Then variable declared first next) =
      then_clause variable (seen_type declared) (seen_term first) (seen_term next)
  seen_clause (In variable declared collection) =
      in_clause variable (seen_type declared) (seen_term collection)
  seen_clause (From' variable declared start limit step) =
      from_clause variable (seen_type declared) (seen_term start) (seen_limit limit)
      (seen_step step)

  pub seen_limit : Held-DraftForClause-From-3 → CoreLimit
  seen_limit DraftForClause-From-3-None' = no_limit
  seen_limit (DraftForClause-From-3-Some' limit bound) = a_limit limit (seen_term bound)

  pub seen_test : Held-DraftFor-test → CoreTest
  seen_test DraftFor-test-None' = no_test
  seen_test (DraftFor-test-Some' ends test) = a_test ends (seen_term test)

  pub seen_catches : {m : _} → Row_of-DraftBlockClause m → CoreCatches
  seen_catches end_of-DraftBlockClause = no_catch
  seen_catches (more_of-DraftBlockClause variable condition inner rest) =
      catch_and variable (seen_type condition) (seen_term inner) (seen_catches rest)

-- a test and its term
abbrev pub seen_pair : DraftTerm × DraftTerm → Core × Core
seen_pair pair = (seen_term pair.0, seen_term pair.1)

-- a term that may be left out
abbrev pub seen_option : Option DraftTerm → MaybeCore
seen_option term = maybe_of (option_map seen_term term)

-- an arm of a `select`
abbrev pub seen_arm : DraftArm → CoreArm
seen_arm arm = record { values = map seen_term arm.values.items; body = seen_term arm.body }

-- an `exception` clause
abbrev pub seen_catch : DraftBlockClause → CoreCatch
seen_catch clause = record {
  variable = clause.variable;
  condition = seen_type clause.condition;
  body = seen_term clause.body;
}

-- a body with parameters
abbrev pub seen_lambda : DraftLambda → CoreLambda
seen_lambda found = lambda (seen_params found.params)
    (cores_of (map seen_term found.defaults.items)) (seen_term found.body)
    (seen_results found.results)

-- a local method and its name
abbrev pub seen_method : Token × DraftLambda → Token × CoreLambda
seen_method pair = (pair.0, seen_lambda pair.1)

-- where the numbers of a `for` end
abbrev pub seen_bound : Option (Limit × DraftTerm) → CoreLimit
seen_bound None = no_limit
seen_bound (Some pair) = a_limit pair.0 (seen_term pair.1)

-- the test that ends a `for`
abbrev pub seen_ending : Option (Bool × DraftTerm) → CoreTest
seen_ending None = no_test
seen_ending (Some pair) = a_test pair.0 (seen_term pair.1)
