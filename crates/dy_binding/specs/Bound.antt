-- Locals that come into force, the last one inside of the others.
use Rattle.std.specs.Prelude.{ℕ, ◌+◌, List, [], ◌∷◌, map, Option, Some, None}
use Rattle.std.specs.Option.{option_map}
use Rattle.dy_tree.specs.declared.token.Token.{Token}
use Rattle.dy_term.specs.declared.draft.Local.{Local as Name}
use Rattle.dy_term.specs.declared.draft.Local.TheVariants.{Named}
use Rattle.dy_term.specs.Types.{CoreParams}
use Rattle.dy_term.specs.Drafts.{CoreMethods, no_method, method_and, CoreClauses, no_clause}
use Rattle.dy_term.specs.Drafts.{clause_and, CoreClause, then_clause, in_clause, from_clause}
use Rattle.dy_term.specs.Drafts.{CoreCatches, no_catch, catch_and}
use Rattle.dy_names.specs.declared.denotation.Denotation.{Denotation}
use Rattle.dy_names.specs.declared.denotation.Denotation.TheVariants.{Local}
use Rattle.dy_names.specs.Naming.{Locals}
use Rattle.dy_binding.specs.declared.progress.Progress.{Progress}
use Rattle.dy_binding.specs.Reads.{numbered}

-- these names, numbered from a number on
abbrev pub bound : ℕ → List Name → Locals → Locals
bound n [] locals = locals
bound n (name ∷ names) locals = bound (n + 1) names ((name, Local n) ∷ locals)

-- a name that may be left out
abbrev pub bound_some : ℕ → Option Name → Locals → Locals
bound_some n None locals = locals
bound_some n (Some name) locals = (name, Local n) ∷ locals

-- a written name that may be left out, and what it stands for
abbrev pub standing : Denotation → Option Token → Locals → Locals
standing denotation None locals = locals
standing denotation (Some token) locals = (Named token, denotation) ∷ locals

-- The parameters that a body sees besides its keywords: the required ones, the name of the next
-- method, and the rest
abbrev pub params_bound : CoreParams → Denotation → ℕ → ℕ → Locals → Locals
params_bound params denotation first rest locals =
    bound_some rest (option_map Named params.rest)
    (standing denotation params.next
    (bound first (map (λ r. Named r.0) params.required) locals))

-- how many it is
abbrev pub count : {A : Type 0} → Option A → ℕ
count None = 0
count (Some x) = 1

-- its number
abbrev pub number_of : {A : Type 0} → Option A → ℕ → Option ℕ
number_of None n = None
number_of (Some x) n = Some n

-- the names of local methods
abbrev pub methods_bound : CoreMethods → ℕ → Locals → Locals
methods_bound no_method n locals = locals
methods_bound (method_and token first rest) n locals =
    methods_bound rest (n + 1) ((Named token, Local n) ∷ locals)

abbrev pub method_count : CoreMethods → ℕ
method_count no_method = 0
method_count (method_and token first rest) = method_count rest + 1

-- the variable of a clause of a `for`
abbrev pub variable_of : CoreClause → Token
variable_of (then_clause variable declared first next) = variable
variable_of (in_clause variable declared collection) = variable
variable_of (from_clause variable declared start limit step) = variable

abbrev pub clause_count : CoreClauses → ℕ
clause_count no_clause = 0
clause_count (clause_and first rest) = clause_count rest + 1

-- all variables of a `for`
abbrev pub variables_bound : CoreClauses → ℕ → Locals → Locals
variables_bound no_clause n locals = locals
variables_bound (clause_and first rest) n locals =
    variables_bound rest (n + 1) ((Named (variable_of first), Local n) ∷ locals)

-- the variable of one that goes on to the end: a walked value doesn't
abbrev pub kept_one : CoreClause → ℕ → Locals → Locals
kept_one (then_clause variable declared first next) n locals = (Named variable, Local n) ∷ locals
kept_one (in_clause variable declared collection) n locals = locals
kept_one (from_clause variable declared start limit step) n locals =
    (Named variable, Local n) ∷ locals

-- the variables of a `for` that its result sees
abbrev pub kept_bound : CoreClauses → ℕ → Locals → Locals
kept_bound no_clause n locals = locals
kept_bound (clause_and first rest) n locals = kept_bound rest (n + 1) (kept_one first n locals)

-- the variables of the `exception` clauses of a block are given numbers
abbrev pub catches_numbered : CoreCatches → Progress → Progress
catches_numbered no_catch p = p
catches_numbered (catch_and variable condition inner rest) p =
    catches_numbered rest (numbered (count variable) p)
