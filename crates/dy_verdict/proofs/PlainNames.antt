-- No fault of names says that a file is absent, by induction over drafts.
use Rattle.std.proofs.Common.{◌≡◌, ◌≢◌, ℕ, ◌+◌, Bool, true, false, List, [], ◌∷◌, length, map, Option, Some, None, Result, Ok, Err, refl, sym, subst, ◌∙◌}
use Rattle.std.proofs.lemmas.Bool.{cond_both}
use Rattle.std.specs.Option.{option_map}
use Rattle.dy_base.specs.declared.fault.Fault.{Fault}
use Rattle.dy_base.specs.declared.ids.BindingId.{BindingId}
use Rattle.dy_base.specs.declared.ids.What.{What}
use Rattle.dy_base.specs.declared.ids.What.TheVariants as whats
use Rattle.dy_base.specs.declared.kind.Kind.TheVariants.{NotAssignable}
use Rattle.dy_tree.specs.declared.token.Token.{Token}
use Rattle.dy_term.specs.declared.draft.Local.TheVariants.{Named, Hidden}
use Rattle.dy_term.specs.declared.types.DyType.{DyType}
use Rattle.dy_term.specs.declared.term.Term.{Term}
use Rattle.dy_term.specs.Types.{CoreType, CoreKey, CoreParams, CoreResults}
use Rattle.dy_term.specs.Drafts.{Core, literal, name, hidden, set, no_place, call, values, cond}
use Rattle.dy_term.specs.Drafts.{and, or, select, body, loop, for, method, block, Cores, no_core}
use Rattle.dy_term.specs.Drafts.{core_and, MaybeCore, nothing, just, Choice, otherwise, branch}
use Rattle.dy_term.specs.Drafts.{CoreArms, no_arm, arm_and, CoreItems, no_item, item_and, CoreItem}
use Rattle.dy_term.specs.Drafts.{run, let_values, let_methods, handler, CoreMethods, no_method}
use Rattle.dy_term.specs.Drafts.{method_and, CoreLambda, lambda, CoreClauses, no_clause, clause_and}
use Rattle.dy_term.specs.Drafts.{CoreClause, then_clause, in_clause, from_clause, CoreLimit}
use Rattle.dy_term.specs.Drafts.{no_limit, a_limit, CoreTest, no_test, a_test, CoreCatches}
use Rattle.dy_term.specs.Drafts.{no_catch, catch_and}
use Rattle.dy_names.specs.declared.denotation.Denotation.{Denotation}
use Rattle.dy_names.specs.declared.denotation.Denotation.TheVariants as stands
use Rattle.dy_names.specs.declared.denotation.Meaning.{Meaning}
use Rattle.dy_names.specs.declared.denotation.Meaning.TheVariants.{InForce, Owned, Unbound}
use Rattle.dy_names.specs.Naming.{Locals, means}
use Rattle.dy_names.specs.Outside.{Outside}
use Rattle.dy_binding.specs.declared.progress.Progress.{Progress}
use Rattle.dy_binding.specs.declared.progress.Apart.{Apart}
use Rattle.dy_binding.specs.declared.names.Head.{Head}
use Rattle.dy_binding.specs.declared.names.Head.TheVariants as heads
use Rattle.dy_binding.specs.Faults.{fault_at, first_of_two, comes_before}
use Rattle.dy_binding.specs.Reads.{Reads, none, numbered, told, told_some}
use Rattle.dy_binding.specs.Bound.{bound, bound_some, params_bound, count, methods_bound}
use Rattle.dy_binding.specs.Bound.{method_count, clause_count, variables_bound, kept_bound}
use Rattle.dy_binding.specs.Bound.{catches_numbered}
use Rattle.dy_binding.specs.Names.{unbound, not_assignable, owned, named, placed, called, head_of}
use Rattle.dy_binding.specs.Names.{is_variable}
use Rattle.dy_binding.specs.Types.{told_of, read_type, read_types, read_some, read_numbered}
use Rattle.dy_binding.specs.Types.{read_results, key_types, key_list}
use Rattle.dy_resolution.specs.Terms.{core_term, core_terms, core_maybe, core_choice, core_arms}
use Rattle.dy_resolution.specs.Terms.{core_items, core_item, core_methods, core_lambda}
use Rattle.dy_resolution.specs.Terms.{core_defaults, core_firsts, core_first, core_limit}
use Rattle.dy_resolution.specs.Terms.{core_clauses, core_clause, core_test, core_catches, fresh}
use Rattle.dy_verdict.proofs.PlainTokens.{IsPresent}

-- a fault, if there is one, that says of no absent file
abbrev pub Tells : Option Fault → Type 0
Tells None = Unit {0}
Tells (Some fault) = IsPresent fault

abbrev pub Fine : Progress → Type 0
Fine p = Tells p.first

-- a type, or such a fault
abbrev pub IsTyped : Result DyType Fault → Type 0
IsTyped (Ok type) = Unit {0}
IsTyped (Err fault) = IsPresent fault

first_tells : (first : Option Fault) (fault : Fault) → Tells first → IsPresent fault → IsPresent (first_of_two first fault)
first_tells None fault tells present = present
first_tells (Some first) fault tells present =
    cond_both (comes_before fault first) fault first IsPresent (λ t. present) (λ t. tells)

pub told_fine : (fault : Fault) (p : Progress) → IsPresent fault → Fine p → Fine (told fault p)
told_fine fault p present fine = first_tells p.first fault fine present

some_fine : (fault : Option Fault) (p : Progress) → Tells fault → Fine p → Fine (told_some fault p)
some_fine None p tells fine = fine
some_fine (Some fault) p tells fine = told_fine fault p tells fine

of_fine : (typed : Result DyType Fault) (p : Progress) → IsTyped typed → Fine p → Fine (told_of typed p)
of_fine (Ok type) p is fine = fine
of_fine (Err fault) p is fine = told_fine fault p is fine

pub unbound_fine : (token : Token) (p : Progress) → Fine p → Fine (unbound token p)
unbound_fine token p fine = told_fine _ p (λ e. cc) fine

assignable_fine : (token : Token) (p : Progress) → Fine p → Fine (not_assignable token p)
assignable_fine token p fine = told_fine _ p (λ e. cc) fine

owned_fine : (token : Token) (binding : BindingId) (what : What) (p : Progress) → Fine p → Fine (owned token binding what p).1
owned_fine token binding whats.Class p fine = fine
owned_fine token binding whats.Generic p fine = fine
owned_fine token binding whats.Variable p fine = fine
owned_fine token binding whats.Constant p fine = fine
owned_fine token binding whats.Function p fine = fine
owned_fine token binding whats.Macro p fine = unbound_fine token p fine

named_fine : (token : Token) (meaning : Meaning) (p : Progress) → Fine p → Fine (named token meaning p).1
named_fine token (InForce denotation) p fine = fine
named_fine token (Owned binding) p fine = owned_fine token binding binding.what p fine
named_fine token Unbound p fine = unbound_fine token p fine

placed_fine : (token : Token) (meaning : Meaning) (p : Progress) → Fine p → Fine (placed token meaning p)
placed_fine token (InForce (stands.Local number)) p fine = fine
placed_fine token (InForce stands.NextMethod) p fine = assignable_fine token p fine
placed_fine token (InForce stands.NoMethod) p fine = assignable_fine token p fine
placed_fine token (Owned binding) p fine =
    cond_both (is_variable binding.what) p (not_assignable token p) Fine (λ t. fine) (λ t. assignable_fine token p fine)
placed_fine token Unbound p fine = unbound_fine token p fine

-- what is read leaves it so
abbrev Keeps : {A : Type 0} → Reads A → Type 0
Keeps reads = (locals : Locals) (p : Progress) → Fine p → Fine (reads locals p).1

called_fine : (head : Head) (function : Reads Term) (arguments : Reads (List Term)) → Keeps function → Keeps arguments → Keeps (called head function arguments)
called_fine (heads.Generic generic) function arguments f a locals p fine = a locals p fine
called_fine heads.NextMethod function arguments f a locals p fine = a locals p fine
called_fine heads.Value function arguments f a locals p fine = a locals (function locals p).1 (f locals p fine)

catches_fine : (clauses : CoreCatches) (p : Progress) → Fine p → Fine (catches_numbered clauses p)
catches_fine no_catch p fine = fine
catches_fine (catch_and variable condition inner rest) p fine = catches_fine rest (numbered (count variable) p) fine

abbrev AreApart : List Apart → Type 0
AreApart [] = Unit {0}
AreApart (first ∷ rest) = Tells first.fault × AreApart rest

abbrev AreTyped : List (Token × Result DyType Fault) → Type 0
AreTyped [] = Unit {0}
AreTyped (key ∷ keys) = IsTyped key.1 × AreTyped keys

module _ (out : Outside) (types : (locals : Locals) (declared : CoreType) → IsTyped (out.type locals declared)) where
  pub type_fine : (declared : CoreType) → Keeps (read_type out declared)
  type_fine declared locals p fine = of_fine (out.type locals declared) p (types locals declared) fine

  pub types_fine : (declared : List CoreType) → Keeps (read_types out declared)
  types_fine [] locals p fine = fine
  types_fine (first ∷ rest) locals p fine = types_fine rest locals (read_type out first locals p).1 (type_fine first locals p fine)

  some_type_fine : (declared : Option CoreType) → Keeps (read_some out declared)
  some_type_fine None locals p fine = fine
  some_type_fine (Some declared) locals p fine = type_fine declared locals p fine

  numbered_fine : {A : Type 0} (typed : List (A × CoreType)) (n : ℕ) → Keeps (read_numbered out typed n)
  numbered_fine [] n locals p fine = fine
  numbered_fine (first ∷ rest) n locals p fine = numbered_fine rest (n + 1) locals (read_type out first.1 locals p).1 (type_fine first.1 locals p fine)

  pub results_fine : (results : CoreResults) → Keeps (read_results out results)
  results_fine results locals p fine =
      some_type_fine results.rest locals (read_types out results.required locals p).1 (types_fine results.required locals p fine)

  keys_typed : (locals : Locals) (keys : List CoreKey) → AreTyped (key_types out locals keys)
  keys_typed locals [] = tt
  keys_typed locals (key ∷ keys) = (types locals key.declared, keys_typed locals keys)

  mutual
    pub term_fine : (term : Core) → Keeps (core_term out term)
    term_fine (literal value) locals p fine = fine
    term_fine (name token) locals p fine = named_fine token (means out.owner locals token) p fine
    term_fine (hidden number) locals p fine = fine
    term_fine (set token value) locals p fine =
        let meaning = means out.owner locals token in
        term_fine value locals (placed token meaning p) (placed_fine token meaning p fine)
    term_fine (no_place token place value) locals p fine =
        let q = told (fault_at NotAssignable token []) p in
        term_fine value locals (core_term out place locals q).1 (term_fine place locals q (told_fine _ p (λ e. cc) fine))
    term_fine (call function arguments) locals p fine =
        called_fine (head_of out function locals) (core_term out function) (core_terms out arguments) (term_fine function) (terms_fine arguments) locals p fine
    term_fine (values terms) locals p fine = terms_fine terms locals p fine
    term_fine (cond choice) locals p fine = choice_fine choice locals p fine
    term_fine (and left right) locals p fine = term_fine right locals (core_term out left locals p).1 (term_fine left locals p fine)
    term_fine (or left right) locals p fine = term_fine right locals (core_term out left locals p).1 (term_fine left locals p fine)
    term_fine (select value test arms last) locals p fine =
        let v = (core_term out value locals p).1 in
        let t = (core_maybe out test locals v).1 in
        let a = (core_arms out arms locals t).1 in
        maybe_fine last locals a (arms_fine arms locals t (maybe_fine test locals v (term_fine value locals p fine)))
    term_fine (body items) locals p fine = items_fine items locals p fine
    term_fine (loop test inner) locals p fine = term_fine inner locals (core_term out test locals p).1 (term_fine test locals p fine)
    term_fine (for clauses test inner finally) locals p fine =
        let f = core_firsts out clauses locals (p.next + clause_count clauses) in
        let within = variables_bound clauses p.next locals in
        let q : Progress = record p { next = f.1 } in
        let c = (core_clauses out clauses f.0 p.next within q).1 in
        let t = (core_test out test within c).1 in
        let b = (core_term out inner within t).1 in
        maybe_fine finally (kept_bound clauses p.next locals) b
        (term_fine inner within t (test_fine test within c
        (clauses_fine clauses f.0 p.next (firsts_fine clauses locals (p.next + clause_count clauses)) within q fine)))
    term_fine (method row) locals p fine = lambda_fine row stands.NoMethod locals p fine
    term_fine (block exit inner afterwards cleanup clauses) locals p fine =
        let within = bound_some p.next (option_map Named exit) locals in
        let first = p.next + count exit in
        let q = catches_numbered clauses (numbered (count exit) p) in
        let b = (core_term out inner within q).1 in
        let a = (core_maybe out afterwards within b).1 in
        let c = (core_maybe out cleanup within a).1 in
        caught_fine clauses first within c (maybe_fine cleanup within a (maybe_fine afterwards within b
        (term_fine inner within q (catches_fine clauses (numbered (count exit) p) fine))))

    terms_fine : (terms : Cores) → Keeps (core_terms out terms)
    terms_fine no_core locals p fine = fine
    terms_fine (core_and first rest) locals p fine = terms_fine rest locals (core_term out first locals p).1 (term_fine first locals p fine)

    maybe_fine : (term : MaybeCore) → Keeps (core_maybe out term)
    maybe_fine nothing locals p fine = fine
    maybe_fine (just term) locals p fine = term_fine term locals p fine

    choice_fine : (choice : Choice) → Keeps (core_choice out choice)
    choice_fine (otherwise term) locals p fine = term_fine term locals p fine
    choice_fine (branch test term others) locals p fine =
        let s = (core_term out test locals p).1 in
        choice_fine others locals (core_term out term locals s).1 (term_fine term locals s (term_fine test locals p fine))

    arms_fine : (arms : CoreArms) → Keeps (core_arms out arms)
    arms_fine no_arm locals p fine = fine
    arms_fine (arm_and keys inner rest) locals p fine =
        let k = (core_terms out keys locals p).1 in
        arms_fine rest locals (core_term out inner locals k).1 (term_fine inner locals k (terms_fine keys locals p fine))

    items_fine : (items : CoreItems) → Keeps (core_items out items)
    items_fine no_item locals p fine = fine
    items_fine (item_and first rest) locals p fine =
        let f = core_item out first locals p in
        items_fine rest f.0.1 f.1 (item_fine first locals p fine)

    item_fine : (item : CoreItem) → Keeps (core_item out item)
    item_fine (run term) locals p fine = term_fine term locals p fine
    item_fine (let_values typed rest term) locals p fine =
        let q = numbered (count rest) (numbered (length typed) p) in
        term_fine term locals (read_numbered out typed p.next locals q).1 (numbered_fine typed p.next locals q fine)
    item_fine (let_methods methods) locals p fine =
        methods_fine methods p.next (methods_bound methods p.next locals) (numbered (method_count methods) p) fine
    item_fine (handler condition function) locals p fine =
        term_fine function locals (read_type out condition locals p).1 (type_fine condition locals p fine)

    methods_fine : (methods : CoreMethods) (n : ℕ) → Keeps (core_methods out methods n)
    methods_fine no_method n locals p fine = fine
    methods_fine (method_and token first rest) n locals p fine =
        methods_fine rest (n + 1) locals (core_lambda out first stands.NoMethod locals p).1 (lambda_fine first stands.NoMethod locals p fine)

    pub lambda_fine : (row : CoreLambda) (denotation : Denotation) → Keeps (core_lambda out row denotation)
    lambda_fine (lambda params defaults inner results) denotation locals p fine =
        let keys = key_types out locals (key_list params.keys) in
        let rest = p.next + length params.required in
        let own = numbered (length keys) (numbered (count params.rest) (numbered (length params.required) p)) in
        let required = map (λ (r : Token × CoreType). r.1) params.required in
        let t = (read_types out required locals own).1 in
        let r = (read_results out results locals none).1 in
        let within = params_bound params denotation p.next rest locals in
        let k = core_defaults out defaults keys (rest + count params.rest) within t in
        let k_fine = defaults_fine defaults keys (rest + count params.rest) (keys_typed locals (key_list params.keys)) within t
        (types_fine required locals own fine) in
        term_fine inner k.0.1 (told_some r.first k.1) (some_fine r.first k.1 (results_fine results locals none tt) k_fine)

    defaults_fine : (defaults : Cores) (keys : List (Token × Result DyType Fault)) (n : ℕ) → AreTyped keys → Keeps (core_defaults out defaults keys n)
    defaults_fine no_core keys n typed locals p fine = fine
    defaults_fine (core_and default rest) [] n typed locals p fine = fine
    defaults_fine (core_and default rest) (key ∷ keys) n typed locals p fine =
        let d = (core_term out default locals (told_of key.1 p)).1 in
        defaults_fine rest keys (n + 1) typed.1 ((Named key.0, stands.Local n) ∷ locals) d
        (term_fine default locals (told_of key.1 p) (of_fine key.1 p typed.0 fine))

    firsts_fine : (clauses : CoreClauses) (locals : Locals) (n : ℕ) → AreApart (core_firsts out clauses locals n).0
    firsts_fine no_clause locals n = tt
    firsts_fine (clause_and first rest) locals n =
        (first_fine first locals (fresh n) tt, firsts_fine rest locals (core_first out first locals (fresh n)).1.next)

    first_fine : (clause : CoreClause) → Keeps (core_first out clause)
    first_fine (then_clause variable declared first next) locals p fine =
        term_fine first locals (read_type out declared locals p).1 (type_fine declared locals p fine)
    first_fine (in_clause variable declared collection) locals p fine =
        term_fine collection locals (read_type out declared locals p).1 (type_fine declared locals p fine)
    first_fine (from_clause variable declared start limit step) locals p fine =
        let t = (read_type out declared locals p).1 in
        let f = (core_term out start locals t).1 in
        let l = (core_limit out limit locals f).1 in
        maybe_fine step locals l (limit_fine limit locals f (term_fine start locals t (type_fine declared locals p fine)))

    limit_fine : (limit : CoreLimit) → Keeps (core_limit out limit)
    limit_fine no_limit locals p fine = fine
    limit_fine (a_limit limit inner) locals p fine = term_fine inner locals p fine

    clauses_fine : (clauses : CoreClauses) (firsts : List Apart) (n : ℕ) → AreApart firsts → Keeps (core_clauses out clauses firsts n)
    clauses_fine no_clause firsts n apart locals p fine = fine
    clauses_fine (clause_and clause rest) [] n apart locals p fine = fine
    clauses_fine (clause_and clause rest) (first ∷ firsts) n apart locals p fine =
        clauses_fine rest firsts (n + 1) apart.1 locals (core_clause out clause first n locals p).1 (clause_fine clause first n apart.0 locals p fine)

    clause_fine : (clause : CoreClause) (first : Apart) (n : ℕ) → Tells first.fault → Keeps (core_clause out clause first n)
    clause_fine (then_clause variable declared first next) read n tells locals p fine =
        term_fine next locals (told_some read.fault p) (some_fine read.fault p tells fine)
    clause_fine (in_clause variable declared collection) read n tells locals p fine = some_fine read.fault p tells fine
    clause_fine (from_clause variable declared start limit step) read n tells locals p fine = some_fine read.fault p tells fine

    test_fine : (test : CoreTest) → Keeps (core_test out test)
    test_fine no_test locals p fine = fine
    test_fine (a_test ends test) locals p fine = term_fine test locals p fine

    caught_fine : (clauses : CoreCatches) (n : ℕ) → Keeps (core_catches out clauses n)
    caught_fine no_catch n locals p fine = fine
    caught_fine (catch_and variable condition inner rest) n locals p fine =
        let c = (read_type out condition locals p).1 in
        let within = bound_some n (option_map Named variable) locals in
        caught_fine rest (n + count variable) locals (core_term out inner within c).1
        (term_fine inner within c (type_fine condition locals p fine))
