-- Locals that come into force leave those below them as they were.
use Rattle.std.proofs.Common.{◌≡◌, ℕ, ◌+◌, ◌-◌, ◌≤◌, suc, List, [], ◌∷◌, length, drop, map, Option}
use Rattle.std.proofs.Common.{Some, None, Result, ap, ◌∙◌, arith}
use Rattle.std.specs.Option.{option_map}
use Rattle.dy_base.specs.declared.fault.Fault.{Fault}
use Rattle.dy_tree.specs.declared.token.Token.{Token}
use Rattle.dy_term.specs.declared.types.DyType.{DyType}
use Rattle.dy_term.specs.declared.draft.Local.{Local as Name}
use Rattle.dy_term.specs.declared.draft.Local.TheVariants.{Named}
use Rattle.dy_term.specs.Types.{CoreParams}
use Rattle.dy_term.specs.Drafts.{Cores, no_core, core_and, CoreMethods, no_method, method_and}
use Rattle.dy_term.specs.Drafts.{CoreClauses, no_clause, clause_and, CoreClause, then_clause}
use Rattle.dy_term.specs.Drafts.{in_clause, from_clause, CoreItem, run, let_values, let_methods}
use Rattle.dy_term.specs.Drafts.{handler}
use Rattle.dy_names.specs.declared.denotation.Denotation.{Denotation}
use Rattle.dy_names.specs.declared.denotation.Denotation.TheVariants.{Local}
use Rattle.dy_names.specs.Naming.{Locals}
use Rattle.dy_names.specs.Outside.{Outside}
use Rattle.dy_binding.specs.declared.progress.Progress.{Progress}
use Rattle.dy_binding.specs.Types.{told_of}
use Rattle.dy_binding.specs.Bound.{bound, bound_some, standing, methods_bound, variables_bound}
use Rattle.dy_binding.specs.Bound.{kept_bound, kept_one, variable_of, params_bound}
use Rattle.dy_resolution.specs.Terms.{core_term, core_item, core_defaults}

-- the innermost above a number of locals are taken away, and these are left
abbrev pub Keeps : ℕ → Locals → Locals → Type 0
Keeps m base inner = (m ≤ length inner) × (drop (length inner - m) inner ≡ base)

pub keeps_itself : (m : ℕ) (locals : Locals) → m ≡ length locals → Keeps m locals locals
keeps_itself m locals e =
    let z : length locals - m ≡ 0 = omega (arith, e) in
    (omega (arith, e), ap (λ k. drop k locals) z)

pub keeps_one : (m : ℕ) (base inner : Locals) (x : Name × Denotation) → Keeps m base inner
    → Keeps m base (x ∷ inner)
keeps_one m base inner x k =
    let l = k.0 in
    let e : length (x ∷ inner) - m ≡ suc (length inner - m) = omega (arith, l) in
    (omega (arith, l), ap (λ n. drop n (x ∷ inner)) e ∙ k.1)

pub keeps_bound : (m : ℕ) (base inner : Locals) (names : List Name) (n : ℕ) → Keeps m base inner
    → Keeps m base (bound n names inner)
keeps_bound m base inner [] n k = k
keeps_bound m base inner (name ∷ names) n k =
    keeps_bound m base ((name, Local n) ∷ inner) names (n + 1)
    (keeps_one m base inner (name, Local n) k)

pub keeps_some : (m : ℕ) (base inner : Locals) (name : Option Name) (n : ℕ) → Keeps m base inner
    → Keeps m base (bound_some n name inner)
keeps_some m base inner None n k = k
keeps_some m base inner (Some name) n k = keeps_one m base inner (name, Local n) k

pub keeps_standing : (m : ℕ) (base inner : Locals) (name : Option Token) (d : Denotation)
    → Keeps m base inner → Keeps m base (standing d name inner)
keeps_standing m base inner None d k = k
keeps_standing m base inner (Some name) d k = keeps_one m base inner (Named name, d) k

pub keeps_params : (m : ℕ) (base inner : Locals) (params : CoreParams) (d : Denotation)
    (first rest : ℕ) → Keeps m base inner → Keeps m base (params_bound params d first rest inner)
keeps_params m base inner params d first rest k =
    keeps_some m base _ (option_map Named params.rest) rest
    (keeps_standing m base _ params.next d
    (keeps_bound m base inner (map (λ r. Named r.0) params.required) first k))

pub keeps_methods : (m : ℕ) (base inner : Locals) (methods : CoreMethods) (n : ℕ)
    → Keeps m base inner → Keeps m base (methods_bound methods n inner)
keeps_methods m base inner no_method n k = k
keeps_methods m base inner (method_and token first rest) n k =
    keeps_methods m base ((Named token, Local n) ∷ inner) rest (n + 1)
    (keeps_one m base inner (Named token, Local n) k)

pub keeps_variables : (m : ℕ) (base inner : Locals) (clauses : CoreClauses) (n : ℕ)
    → Keeps m base inner → Keeps m base (variables_bound clauses n inner)
keeps_variables m base inner no_clause n k = k
keeps_variables m base inner (clause_and first rest) n k =
    keeps_variables m base ((Named (variable_of first), Local n) ∷ inner) rest (n + 1)
    (keeps_one m base inner (Named (variable_of first), Local n) k)

keeps_kept_one : (m : ℕ) (base inner : Locals) (clause : CoreClause) (n : ℕ) → Keeps m base inner
    → Keeps m base (kept_one clause n inner)
keeps_kept_one m base inner (then_clause variable declared first next) n k =
    keeps_one m base inner (Named variable, Local n) k
keeps_kept_one m base inner (in_clause variable declared collection) n k = k
keeps_kept_one m base inner (from_clause variable declared start limit step) n k =
    keeps_one m base inner (Named variable, Local n) k

pub keeps_kept : (m : ℕ) (base inner : Locals) (clauses : CoreClauses) (n : ℕ) → Keeps m base inner
    → Keeps m base (kept_bound clauses n inner)
keeps_kept m base inner no_clause n k = k
keeps_kept m base inner (clause_and first rest) n k =
    keeps_kept m base (kept_one first n inner) rest (n + 1) (keeps_kept_one m base inner first n k)

module _ (out : Outside) where
  pub keeps_item : (item : CoreItem) (m : ℕ) (base inner : Locals) (p : Progress)
      → Keeps m base inner → Keeps m base (core_item out item inner p).0.1
  keeps_item (run term) m base inner p k = k
  keeps_item (let_values typed rest term) m base inner p k =
      keeps_some m base _ rest (p.next + length typed)
      (keeps_bound m base inner (map (λ t. t.0) typed) p.next k)
  keeps_item (let_methods methods) m base inner p k = keeps_methods m base inner methods p.next k
  keeps_item (handler condition function) m base inner p k = k

  pub keeps_defaults : (defaults : Cores) (keys : List (Token × Result DyType Fault)) (n m : ℕ)
      (base inner : Locals) (p : Progress) → Keeps m base inner
      → Keeps m base (core_defaults out defaults keys n inner p).0.1
  keeps_defaults no_core keys n m base inner p k = k
  keeps_defaults (core_and default rest) [] n m base inner p k = k
  keeps_defaults (core_and default rest) (key ∷ keys) n m base inner p k =
      let d = core_term out default inner (told_of key.1 p) in
      keeps_defaults rest keys (n + 1) m base ((Named key.0, Local n) ∷ inner) d.1
      (keeps_one m base inner (Named key.0, Local n) k)

-- what is left of the locals in force once those that came into force are taken away
module _ (m : ℕ) (old : Locals) (e : m ≡ length old) where
  pub left_some : (name : Option Name) (n : ℕ) (now after : Locals) → now ≡ bound_some n name old
      → after ≡ drop (length now - m) now → after ≡ old
  left_some name n now after b a =
      a ∙ ap (λ (s : Locals). drop (length s - m) s) b ∙
      (keeps_some m old old name n (keeps_itself m old e)).1

  pub left_variables : (clauses : CoreClauses) (n : ℕ) (now after : Locals)
      → now ≡ variables_bound clauses n old → after ≡ drop (length now - m) now → after ≡ old
  left_variables clauses n now after b a =
      a ∙ ap (λ (s : Locals). drop (length s - m) s) b ∙
      (keeps_variables m old old clauses n (keeps_itself m old e)).1

  pub left_kept : (clauses : CoreClauses) (n : ℕ) (now after : Locals)
      → now ≡ kept_bound clauses n old → after ≡ drop (length now - m) now → after ≡ old
  left_kept clauses n now after b a =
      a ∙ ap (λ (s : Locals). drop (length s - m) s) b ∙
      (keeps_kept m old old clauses n (keeps_itself m old e)).1

  pub left_defaults : (out : Outside) (params : CoreParams) (d : Denotation) (first rest : ℕ)
      (ds : Cores) (keys : List (Token × Result DyType Fault)) (n : ℕ) (q : Progress)
      (inner now after : Locals)
      → inner ≡ params_bound params d first rest old
      → now ≡ (core_defaults out ds keys n inner q).0.1 → after ≡ drop (length now - m) now
      → after ≡ old
  left_defaults out params d first rest ds keys n q inner now after b k a =
      a ∙ ap (λ (s : Locals). drop (length s - m) s)
      (k ∙ ap (λ (s : Locals). (core_defaults out ds keys n s q).0.1) b)
      ∙ (keeps_defaults out ds keys n m old (params_bound params d first rest old) q
      (keeps_params m old old params d first rest (keeps_itself m old e))).1
