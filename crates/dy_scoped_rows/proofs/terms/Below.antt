-- Locals that are in force have numbers below the next one.
use Rattle.std.proofs.Common.{◌≡◌, ℕ, ◌+◌, ◌≤◌, List, [], ◌∷◌, length, map, Option, Some, None, cond, Bool, true, false, arith}
use Rattle.std.specs.Option.{option_map}
use Rattle.dy_base.specs.declared.ids.BindingId.{BindingId}
use Rattle.dy_tree.specs.declared.token.Token.{Token}
use Rattle.dy_term.specs.declared.draft.Local.{Local as Name}
use Rattle.dy_term.specs.declared.draft.Local.TheVariants.{Named}
use Rattle.dy_term.specs.Types.{CoreType, CoreParams}
use Rattle.dy_term.specs.Drafts.{CoreClauses, no_clause, clause_and, CoreClause, then_clause}
use Rattle.dy_term.specs.Drafts.{in_clause, from_clause}
use Rattle.dy_binding.specs.Bound.{variable_of, clause_count, variables_bound, kept_one, kept_bound}
use Rattle.dy_term.specs.Drafts.{CoreMethods, no_method, method_and}
use Rattle.dy_names.specs.declared.denotation.Denotation.{Denotation}
use Rattle.dy_names.specs.declared.denotation.Denotation.TheVariants as stands
use Rattle.dy_names.specs.declared.denotation.Meaning.{Meaning}
use Rattle.dy_names.specs.declared.denotation.Meaning.TheVariants.{InForce, Owned, Unbound}
use Rattle.dy_names.specs.Naming.{is_same, Locals, Table, innermost, in_force_or, means}
use Rattle.dy_scoped_rows.specs.terms.Scoped.{Below, AreBelow}
use Rattle.dy_binding.specs.Bound.{bound, bound_some, standing, params_bound, count, methods_bound}
use Rattle.dy_binding.specs.Bound.{method_count}

pub further : (m n : ℕ) (d : Denotation) → m ≤ n → Below m d → Below n d
further m n (stands.Local k) h b = omega (arith, h, b)
further m n stands.NextMethod h b = tt
further m n stands.NoMethod h b = tt

pub all_further : (m n : ℕ) (locals : Locals) → m ≤ n → AreBelow m locals → AreBelow n locals
all_further m n [] h b = tt
all_further m n (local ∷ locals) h b =
    (further m n local.1 h b.0, all_further m n locals h b.1)

pub bound_below : (n first : ℕ) (names : List Name) (locals : Locals)
    → first + length names ≤ n → AreBelow n locals → AreBelow n (bound first names locals)
bound_below n first [] locals h b = b
bound_below n first (name ∷ names) locals h b =
    bound_below n (first + 1) names ((name, stands.Local first) ∷ locals)
    (omega (arith, h)) (omega (arith, h), b)

pub some_below : (n first : ℕ) (name : Option Name) (locals : Locals)
    → first + count name ≤ n → AreBelow n locals → AreBelow n (bound_some first name locals)
some_below n first None locals h b = b
some_below n first (Some name) locals h b = (omega (arith, h), b)

pub named_below : (n first : ℕ) (name : Option Token) (locals : Locals)
    → first + count name ≤ n → AreBelow n locals
    → AreBelow n (bound_some first (option_map Named name) locals)
named_below n first None locals h b = b
named_below n first (Some name) locals h b = (omega (arith, h), b)

pub standing_below : (n : ℕ) (d : Denotation) (name : Option Token) (locals : Locals)
    → Below n d → AreBelow n locals → AreBelow n (standing d name locals)
standing_below n d None locals h b = b
standing_below n d (Some name) locals h b = (h, b)

names_length : (required : List (Token × CoreType))
    → length (map (λ (r : Token × CoreType). Named r.0) required) ≡ length required
names_length required = omega (arith, length_of required)
  where
    length_of : (rs : List (Token × CoreType))
        → length (map (λ (r : Token × CoreType). Named r.0) rs) ≡ length rs
    length_of [] = omega arith
    length_of (r ∷ rs) = omega (arith, length_of rs)

pub params_below : (n : ℕ) (params : CoreParams) (d : Denotation) (first rest : ℕ)
    (locals : Locals) → Below n d → first + length params.required ≤ n
    → rest + count params.rest ≤ n → AreBelow n locals
    → AreBelow n (params_bound params d first rest locals)
params_below n params d first rest locals meant own others below =
    let names = map (λ (r : Token × CoreType). Named r.0) params.required in
    let required = bound_below n first names locals
    (omega (arith, own, names_length params.required)) below in
    named_below n rest params.rest (standing d params.next (bound first names locals)) others
    (standing_below n d params.next (bound first names locals) meant required)

pub methods_below : (n first : ℕ) (methods : CoreMethods) (locals : Locals)
    → first + method_count methods ≤ n → AreBelow n locals
    → AreBelow n (methods_bound methods first locals)
methods_below n first no_method locals h b = b
methods_below n first (method_and token method rest) locals h b =
    methods_below n (first + 1) rest ((Named token, stands.Local first) ∷ locals)
    (omega (arith, h)) (omega (arith, h), b)

pub variables_below : (n first : ℕ) (clauses : CoreClauses) (locals : Locals)
    → first + clause_count clauses ≤ n → AreBelow n locals
    → AreBelow n (variables_bound clauses first locals)
variables_below n first no_clause locals h b = b
variables_below n first (clause_and clause rest) locals h b =
    variables_below n (first + 1) rest ((Named (variable_of clause), stands.Local first) ∷ locals)
    (omega (arith, h)) (omega (arith, h), b)

kept_one_below : (n first : ℕ) (clause : CoreClause) (locals : Locals) → first + 1 ≤ n
    → AreBelow n locals → AreBelow n (kept_one clause first locals)
kept_one_below n first (then_clause variable declared start next) locals h b = (omega (arith, h), b)
kept_one_below n first (in_clause variable declared collection) locals h b = b
kept_one_below n first (from_clause variable declared start limit step) locals h b =
    (omega (arith, h), b)

pub kept_below : (n first : ℕ) (clauses : CoreClauses) (locals : Locals)
    → first + clause_count clauses ≤ n → AreBelow n locals
    → AreBelow n (kept_bound clauses first locals)
kept_below n first no_clause locals h b = b
kept_below n first (clause_and clause rest) locals h b =
    kept_below n (first + 1) rest (kept_one clause first locals) (omega (arith, h))
    (kept_one_below n first clause locals (omega (arith, h)) b)

-- what a name means
abbrev pub FoundBelow : ℕ → Option Denotation → Type 0
FoundBelow n None = Unit {0}
FoundBelow n (Some d) = Below n d

pub found_below : (n : ℕ) (locals : Locals) (name : Name) → AreBelow n locals
    → FoundBelow n (innermost locals name)
unfolding innermost
found_below n [] name b = tt
found_below n (local ∷ locals) name b =
    step (is_same local.0 name) (found_below n locals name b.1)
  where
    step : (c : Bool) → FoundBelow n (innermost locals name)
        → FoundBelow n (cond c (Some local.1) (innermost locals name))
    step true outer = b.0
    step false outer = outer

abbrev pub MeantBelow : ℕ → Meaning → Type 0
MeantBelow n (InForce d) = Below n d
MeantBelow n (Owned binding) = Unit {0}
MeantBelow n Unbound = Unit {0}

pub means_below : (n : ℕ) (table : Table) (locals : Locals) (token : Token) → AreBelow n locals
    → MeantBelow n (means table locals token)
unfolding means
means_below n table locals token b =
    step (innermost locals (Named token)) (table token) (found_below n locals (Named token) b)
  where
    step : (d : Option Denotation) (o : Option BindingId) → FoundBelow n d
        → MeantBelow n (in_force_or d o)
    step (Some d) o h = h
    step None (Some o) h = tt
    step None None h = tt
