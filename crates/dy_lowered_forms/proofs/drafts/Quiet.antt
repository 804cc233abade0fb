-- Where no name but `next-method` means the next method, no other name does.
use Rattle.std.proofs.Common.{◌≡◌, ℕ, ◌+◌, Bool, true, false, ◌&&◌, cond, List, [], ◌∷◌, map, Option, Some, None, refl, sym, ap, ◌∙◌}
use Rattle.std.specs.Prelude.{codes, nat_eq, not}
use Rattle.std.specs.Option.{option_map}
use Rattle.std.specs.Str.{bytes_eq}
use Rattle.std.specs.Cmp.Lexicographic.{bytes_decides}
use Rattle.dy_base.specs.declared.ids.BindingId.{BindingId}
use Rattle.dy_tree.specs.declared.token.Token.{Token}
use Rattle.dy_term.specs.declared.draft.Local.{Local as Name}
use Rattle.dy_term.specs.declared.draft.Local.TheVariants.{Named, Hidden}
use Rattle.dy_term.specs.Types.{CoreType, CoreParams}
use Rattle.dy_term.specs.Drafts.{CoreMethods, no_method, method_and, CoreClauses, no_clause}
use Rattle.dy_term.specs.Drafts.{clause_and, CoreClause, then_clause, in_clause, from_clause}
use Rattle.dy_names.specs.declared.denotation.Denotation.{Denotation}
use Rattle.dy_names.specs.declared.denotation.Denotation.TheVariants as stands
use Rattle.dy_names.specs.declared.denotation.Meaning.{Meaning}
use Rattle.dy_names.specs.declared.denotation.Meaning.TheVariants.{InForce, Owned, Unbound}
use Rattle.dy_names.specs.Naming.{is_same, Locals, Table, innermost, in_force_or, means}
use Rattle.dy_binding.specs.Bound.{bound, bound_some, standing, params_bound, methods_bound}
use Rattle.dy_binding.specs.Bound.{variable_of, variables_bound, kept_one, kept_bound}
use Rattle.dy_scoped_rows.proofs.terms.Facts.{no_fault, untrue, both_true}
use Rattle.dy_lowered_forms.specs.drafts.Kinds.{names_next}

-- A local that stands for the next method is named so.
abbrev pub Quiet : Denotation → Name → Type 0
Quiet (stands.Local k) name = Unit {0}
Quiet stands.NoMethod name = Unit {0}
Quiet stands.NextMethod (Named token) = names_next token ≡ true
Quiet stands.NextMethod (Hidden n) = ⊥

abbrev pub AreQuiet : Locals → Type 0
AreQuiet [] = Unit {0}
AreQuiet (local ∷ locals) = Quiet local.1 local.0 × AreQuiet locals

abbrev pub IsOther : Name → Type 0
IsOther (Named token) = names_next token ≡ false
IsOther (Hidden n) = Unit {0}

abbrev pub NoNext : Option Denotation → Type 0
NoNext None = Unit {0}
NoNext (Some (stands.Local k)) = Unit {0}
NoNext (Some stands.NoMethod) = Unit {0}
NoNext (Some stands.NextMethod) = ⊥

differ : (b : Bool) → b ≡ true → b ≡ false → ⊥
differ b is isnt = untrue (sym isnt ∙ is)

same_next : (a b : Token) → bytes_eq a.text b.text ≡ true → names_next a ≡ true → names_next b ≡ true
same_next a b same is = ap (λ (text : List ℕ). bytes_eq text (codes "next-method")) (sym ((bytes_decides a.text b.text).0 same)) ∙ is

one_quiet : (d : Denotation) (own name : Name) → is_same own name ≡ true → Quiet d own → IsOther name → NoNext (Some d)
one_quiet (stands.Local k) own name same quiet other = tt
one_quiet stands.NoMethod own name same quiet other = tt
one_quiet stands.NextMethod (Named a) (Named b) same quiet other =
    differ (names_next b) (same_next a b (both_true (nat_eq a.origin b.origin) (bytes_eq a.text b.text) same).1 quiet) other
one_quiet stands.NextMethod (Named a) (Hidden n) same quiet other = untrue same
one_quiet stands.NextMethod (Hidden m) name same quiet other = absurd quiet

pub found_quiet : (locals : Locals) (name : Name) → AreQuiet locals → IsOther name → NoNext (innermost locals name)
unfolding innermost
found_quiet [] name quiet other = tt
found_quiet (local ∷ locals) name quiet other =
    step (is_same local.0 name) refl (found_quiet locals name quiet.1 other)
  where
    step : (c : Bool) → is_same local.0 name ≡ c → NoNext (innermost locals name)
        → NoNext (cond c (Some local.1) (innermost locals name))
    step true is outer = one_quiet local.1 local.0 name is quiet.0 other
    step false is outer = outer

abbrev pub MeantQuiet : Meaning → Type 0
MeantQuiet (InForce d) = NoNext (Some d)
MeantQuiet (Owned binding) = Unit {0}
MeantQuiet Unbound = Unit {0}

pub means_quiet : (table : Table) (locals : Locals) (token : Token) → AreQuiet locals → names_next token ≡ false
    → MeantQuiet (means table locals token)
unfolding means
means_quiet table locals token quiet other =
    step (innermost locals (Named token)) (table token) (found_quiet locals (Named token) quiet other)
  where
    step : (d : Option Denotation) (o : Option BindingId) → NoNext d → MeantQuiet (in_force_or d o)
    step (Some d) o h = h
    step None (Some o) h = tt
    step None None h = tt

-- what comes into force with a number
pub bound_quiet : (n : ℕ) (names : List Name) (locals : Locals) → AreQuiet locals → AreQuiet (bound n names locals)
bound_quiet n [] locals quiet = quiet
bound_quiet n (name ∷ names) locals quiet = bound_quiet (n + 1) names ((name, stands.Local n) ∷ locals) (tt, quiet)

pub some_quiet : (n : ℕ) (name : Option Name) (locals : Locals) → AreQuiet locals → AreQuiet (bound_some n name locals)
some_quiet n None locals quiet = quiet
some_quiet n (Some name) locals quiet = (tt, quiet)

pub standing_quiet : (d : Denotation) (name : Option Token) (locals : Locals) → name ≡ None → AreQuiet locals → AreQuiet (standing d name locals)
standing_quiet d None locals is quiet = quiet
standing_quiet d (Some token) locals is quiet = absurd (no_fault token is)

pub params_quiet : (params : CoreParams) (d : Denotation) (first rest : ℕ) (locals : Locals) → params.next ≡ None
    → AreQuiet locals → AreQuiet (params_bound params d first rest locals)
params_quiet params d first rest locals is quiet =
    let names = map (λ (r : Token × CoreType). Named r.0) params.required in
    some_quiet rest (option_map Named params.rest) (standing d params.next (bound first names locals))
    (standing_quiet d params.next (bound first names locals) is (bound_quiet first names locals quiet))

pub methods_quiet : (methods : CoreMethods) (n : ℕ) (locals : Locals) → AreQuiet locals → AreQuiet (methods_bound methods n locals)
methods_quiet no_method n locals quiet = quiet
methods_quiet (method_and token first rest) n locals quiet =
    methods_quiet rest (n + 1) ((Named token, stands.Local n) ∷ locals) (tt, quiet)

pub variables_quiet : (clauses : CoreClauses) (n : ℕ) (locals : Locals) → AreQuiet locals → AreQuiet (variables_bound clauses n locals)
variables_quiet no_clause n locals quiet = quiet
variables_quiet (clause_and first rest) n locals quiet =
    variables_quiet rest (n + 1) ((Named (variable_of first), stands.Local n) ∷ locals) (tt, quiet)

kept_one_quiet : (clause : CoreClause) (n : ℕ) (locals : Locals) → AreQuiet locals → AreQuiet (kept_one clause n locals)
kept_one_quiet (then_clause variable declared first next) n locals quiet = (tt, quiet)
kept_one_quiet (in_clause variable declared collection) n locals quiet = quiet
kept_one_quiet (from_clause variable declared start limit step) n locals quiet = (tt, quiet)

pub kept_quiet : (clauses : CoreClauses) (n : ℕ) (locals : Locals) → AreQuiet locals → AreQuiet (kept_bound clauses n locals)
kept_quiet no_clause n locals quiet = quiet
kept_quiet (clause_and first rest) n locals quiet =
    kept_quiet rest (n + 1) (kept_one first n locals) (kept_one_quiet first n locals quiet)
