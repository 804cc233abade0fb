-- Drafts whose tokens have other origins.
use Rattle.std.specs.Prelude.{◌≡◌, ℕ, [], map, Option, nat_eq}
use Rattle.std.specs.Option.{option_map}
use Rattle.dy_tree.specs.declared.token.Token.{Token}
use Rattle.dy_term.specs.declared.draft.Local.{Local}
use Rattle.dy_term.specs.declared.draft.Local.TheVariants.{Named, Hidden}
use Rattle.dy_term.specs.Types.{CoreType, object, integer, named, single, single_name, union, range}
use Rattle.dy_term.specs.Types.{CoreTypes, no_type, type_and, CoreKey, CoreParams, CoreResults}
use Rattle.dy_term.specs.Drafts.{Core, literal, name, hidden, set, no_place, call, values, cond}
use Rattle.dy_term.specs.Drafts.{and, or, select, body, loop, for, method, block, Cores, no_core}
use Rattle.dy_term.specs.Drafts.{core_and, MaybeCore, nothing, just, Choice, otherwise, branch}
use Rattle.dy_term.specs.Drafts.{CoreArms, no_arm, arm_and, CoreItems, no_item, item_and, CoreItem}
use Rattle.dy_term.specs.Drafts.{run, let_values, let_methods, handler, CoreMethods, no_method}
use Rattle.dy_term.specs.Drafts.{method_and, CoreLambda, lambda, CoreClauses, no_clause, clause_and}
use Rattle.dy_term.specs.Drafts.{CoreClause, then_clause, in_clause, from_clause, CoreLimit}
use Rattle.dy_term.specs.Drafts.{no_limit, a_limit, CoreTest, no_test, a_test, CoreCatches}
use Rattle.dy_term.specs.Drafts.{no_catch, catch_and}
use Rattle.dy_names.specs.declared.denotation.Denotation.{Denotation}
use Rattle.dy_names.specs.Naming.{Locals}
use Rattle.dy_names.specs.Outside.{Outside}
use Rattle.dy_binding.specs.Bound.{standing}
use Rattle.dy_binding.specs.Reads.{none}
use Rattle.dy_resolution.specs.Terms.{core_term, core_lambda}

module _ (rename : ℕ → ℕ) where
  abbrev pub token_renamed : Token → Token
  token_renamed token = record token { origin = rename token.origin }

  abbrev pub local_renamed : Local → Local
  local_renamed (Named token) = Named (token_renamed token)
  local_renamed (Hidden number) = Hidden number

  abbrev pub locals_renamed : Locals → Locals
  locals_renamed locals = map (λ l. (local_renamed l.0, l.1)) locals

  abbrev mutual
    pub type_renamed : CoreType → CoreType
    type_renamed object = object
    type_renamed integer = integer
    type_renamed (named token) = named (token_renamed token)
    type_renamed (single value) = single value
    type_renamed (single_name told token) = single_name (token_renamed told) (token_renamed token)
    type_renamed (union told types) = union (token_renamed told) (types_renamed types)
    type_renamed (range told least greatest) = range (token_renamed told) least greatest

    pub types_renamed : CoreTypes → CoreTypes
    types_renamed no_type = no_type
    types_renamed (type_and first rest) = type_and (type_renamed first) (types_renamed rest)

  abbrev pub variable_renamed : Token × CoreType → Token × CoreType
  variable_renamed pair = (token_renamed pair.0, type_renamed pair.1)

  abbrev pub typed_renamed : Local × CoreType → Local × CoreType
  typed_renamed pair = (local_renamed pair.0, type_renamed pair.1)

  abbrev pub key_renamed : CoreKey → CoreKey
  key_renamed key = record {
    keyword = token_renamed key.keyword;
    variable = token_renamed key.variable;
    declared = type_renamed key.declared;
  }

  abbrev pub params_renamed : CoreParams → CoreParams
  params_renamed params = record {
    required = map variable_renamed params.required;
    next = option_map token_renamed params.next;
    rest = option_map token_renamed params.rest;
    keys = option_map (map key_renamed) params.keys;
    all_keys = params.all_keys;
  }

  abbrev pub results_renamed : CoreResults → CoreResults
  results_renamed results = record
      { required = map type_renamed results.required; rest = option_map type_renamed results.rest }

  abbrev mutual
    pub renamed : Core → Core
    renamed (literal value) = literal value
    renamed (name token) = name (token_renamed token)
    renamed (hidden number) = hidden number
    renamed (set token value) = set (token_renamed token) (renamed value)
    renamed (no_place token place value) =
        no_place (token_renamed token) (renamed place) (renamed value)
    renamed (call function arguments) = call (renamed function) (cores_renamed arguments)
    renamed (values terms) = values (cores_renamed terms)
    renamed (cond choice) = cond (choice_renamed choice)
    renamed (and left right) = and (renamed left) (renamed right)
    renamed (or left right) = or (renamed left) (renamed right)
    renamed (select value test arms last) =
        select (renamed value) (maybe_renamed test) (arms_renamed arms) (maybe_renamed last)
    renamed (body items) = body (items_renamed items)
    renamed (loop test inner) = loop (renamed test) (renamed inner)
    renamed (for clauses test inner finally) =
        for (clauses_renamed clauses) (test_renamed test) (renamed inner) (maybe_renamed finally)
    renamed (method row) = method (lambda_renamed row)
    renamed (block exit inner afterwards cleanup clauses) =
        block (option_map token_renamed exit) (renamed inner) (maybe_renamed afterwards)
        (maybe_renamed cleanup) (catches_renamed clauses)

    pub cores_renamed : Cores → Cores
    cores_renamed no_core = no_core
    cores_renamed (core_and first rest) = core_and (renamed first) (cores_renamed rest)

    pub maybe_renamed : MaybeCore → MaybeCore
    maybe_renamed nothing = nothing
    maybe_renamed (just term) = just (renamed term)

    pub choice_renamed : Choice → Choice
    choice_renamed (otherwise term) = otherwise (renamed term)
    choice_renamed (branch test term others) =
        branch (renamed test) (renamed term) (choice_renamed others)

    pub arms_renamed : CoreArms → CoreArms
    arms_renamed no_arm = no_arm
    arms_renamed (arm_and keys inner rest) =
        arm_and (cores_renamed keys) (renamed inner) (arms_renamed rest)

    pub items_renamed : CoreItems → CoreItems
    items_renamed no_item = no_item
    items_renamed (item_and first rest) = item_and (item_renamed first) (items_renamed rest)

    pub item_renamed : CoreItem → CoreItem
    item_renamed (run term) = run (renamed term)
    item_renamed (let_values typed rest term) =
        let_values (map typed_renamed typed) (option_map local_renamed rest) (renamed term)
    item_renamed (let_methods methods) = let_methods (methods_renamed methods)
    item_renamed (handler condition function) = handler (type_renamed condition) (renamed function)

    pub methods_renamed : CoreMethods → CoreMethods
    methods_renamed no_method = no_method
    methods_renamed (method_and token first rest) =
        method_and (token_renamed token) (lambda_renamed first) (methods_renamed rest)

    pub lambda_renamed : CoreLambda → CoreLambda
    lambda_renamed (lambda params defaults inner results) =
        lambda (params_renamed params) (cores_renamed defaults) (renamed inner)
        (results_renamed results)

    pub clauses_renamed : CoreClauses → CoreClauses
    clauses_renamed no_clause = no_clause
    clauses_renamed (clause_and first rest) =
        clause_and (clause_renamed first) (clauses_renamed rest)

    pub clause_renamed : CoreClause → CoreClause
    clause_renamed (then_clause variable declared first next) =
        then_clause (token_renamed variable) (type_renamed declared) (renamed first) (renamed next)
    clause_renamed (in_clause variable declared collection) =
        in_clause (token_renamed variable) (type_renamed declared) (renamed collection)
    clause_renamed (from_clause variable declared start limit step) =
        from_clause (token_renamed variable) (type_renamed declared) (renamed start)
        (limit_renamed limit) (maybe_renamed step)

    pub limit_renamed : CoreLimit → CoreLimit
    limit_renamed no_limit = no_limit
    limit_renamed (a_limit limit bound) = a_limit limit (renamed bound)

    pub test_renamed : CoreTest → CoreTest
    test_renamed no_test = no_test
    test_renamed (a_test ends test) = a_test ends (renamed test)

    pub catches_renamed : CoreCatches → CoreCatches
    catches_renamed no_catch = no_catch
    catches_renamed (catch_and variable condition inner rest) =
        catch_and (option_map token_renamed variable) (type_renamed condition) (renamed inner)
        (catches_renamed rest)

-- origins that differ are changed to others that differ
abbrev pub KeepsApart : (ℕ → ℕ) → Type 0
KeepsApart rename = (a b : ℕ) → nat_eq (rename a) (rename b) ≡ nat_eq a b

-- outside, a name has the same owner whatever its origin is
abbrev pub HasOwners : Outside → (ℕ → ℕ) → Type 0
HasOwners out rename = (token : Token) → out.owner (token_renamed rename token) ≡ out.owner token

-- a type stands for the same where names in it and the locals in force are changed alike
abbrev pub HasTypes : Outside → (ℕ → ℕ) → Type 0
HasTypes out rename = (locals : Locals) (declared : CoreType)
    → out.type (locals_renamed rename locals) (type_renamed rename declared)
    ≡ out.type locals declared

abbrev pub TermsAlike : Outside → (ℕ → ℕ) → Type 0
TermsAlike out rename = KeepsApart rename → HasOwners out rename → HasTypes out rename
    → (draft : Core) → core_term out (renamed rename draft) [] none ≡ core_term out draft [] none

abbrev pub LambdasAlike : Outside → (ℕ → ℕ) → Type 0
LambdasAlike out rename = KeepsApart rename → HasOwners out rename → HasTypes out rename
    → (draft : CoreLambda) (next : Option Token) (denotation : Denotation)
    → core_lambda out (lambda_renamed rename draft) denotation
    (standing denotation (option_map (token_renamed rename) next) []) none
    ≡ core_lambda out draft denotation (standing denotation next []) none
