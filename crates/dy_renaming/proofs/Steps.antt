-- Names, types and locals that come into force, where all origins are changed.
use Rattle.std.proofs.Common.{◌≡◌, ℕ, suc, ◌+◌, cond, List, [], ◌∷◌, length, map, Option, Some}
use Rattle.std.proofs.Common.{None}
use Rattle.std.proofs.Common.{Result, ◌&&◌, refl, ap, ◌∙◌}
use Rattle.std.specs.Option.{option_map, is_some}
use Rattle.std.specs.Str.{bytes_eq}
use Rattle.dy_base.specs.Folding.{folded}
use Rattle.dy_base.specs.declared.fault.Fault.{Fault}
use Rattle.dy_base.specs.declared.ids.BindingId.{BindingId}
use Rattle.dy_base.specs.declared.ids.What.{What}
use Rattle.dy_base.specs.declared.ids.What.TheVariants as whats
use Rattle.dy_tree.specs.declared.token.Token.{Token}
use Rattle.dy_term.specs.declared.types.DyType.{DyType}
use Rattle.dy_term.specs.declared.types.Results.{Results}
use Rattle.dy_term.specs.declared.draft.Local.{Local}
use Rattle.dy_term.specs.declared.draft.Local.TheVariants.{Named, Hidden}
use Rattle.dy_term.specs.Types.{CoreType, CoreKey, CoreParams, CoreResults}
use Rattle.dy_term.specs.Drafts.{Core, name, literal, hidden, set, no_place, call, values}
use Rattle.dy_term.specs.Drafts.{cond as choose}
use Rattle.dy_term.specs.Drafts.{and, or, select, body, loop, for, method, block}
use Rattle.dy_term.specs.Drafts.{CoreMethods, no_method, method_and, CoreClauses, no_clause}
use Rattle.dy_term.specs.Drafts.{clause_and, CoreClause, then_clause, in_clause, from_clause}
use Rattle.dy_term.specs.Drafts.{CoreCatches, no_catch, catch_and}
use Rattle.dy_term.specs.declared.term.Term.{Term, Site, Next, Call}
use Rattle.dy_names.specs.declared.denotation.Denotation.{Denotation}
use Rattle.dy_names.specs.declared.denotation.Denotation.TheVariants as stands
use Rattle.dy_names.specs.declared.denotation.Meaning.{Meaning}
use Rattle.dy_names.specs.declared.denotation.Meaning.TheVariants.{InForce, Owned, Unbound}
use Rattle.dy_names.specs.Naming.{is_same, Locals, innermost, in_force_or, means}
use Rattle.dy_names.specs.Outside.{Outside}
use Rattle.dy_binding.specs.declared.progress.Progress.{Progress}
use Rattle.dy_binding.specs.declared.names.Head.{Head}
use Rattle.dy_binding.specs.declared.names.Head.TheVariants as heads
use Rattle.dy_binding.specs.Reads.{Reads, numbered}
use Rattle.dy_binding.specs.Bound.{bound, bound_some, standing, params_bound, count, number_of}
use Rattle.dy_binding.specs.Bound.{methods_bound, method_count, variable_of, clause_count}
use Rattle.dy_binding.specs.Bound.{variables_bound, kept_one, kept_bound, catches_numbered}
use Rattle.dy_binding.specs.Names.{owned, named, placed, head_meant, head_of, called}
use Rattle.dy_binding.specs.Types.{type_or, told_of, read_type, read_types, read_some}
use Rattle.dy_binding.specs.Types.{read_numbered, read_results, key_types, key_list, shape_of}
use Rattle.dy_renaming.specs.Renaming.{token_renamed, local_renamed, locals_renamed}
use Rattle.dy_renaming.specs.Renaming.{type_renamed, variable_renamed, typed_renamed}
use Rattle.dy_renaming.specs.Renaming.{key_renamed, params_renamed, results_renamed, renamed}
use Rattle.dy_renaming.specs.Renaming.{methods_renamed, clauses_renamed, clause_renamed}
use Rattle.dy_renaming.specs.Renaming.{catches_renamed, KeepsApart, HasOwners, HasTypes}

-- locals that come into force
module _ (rename : ℕ → ℕ) where
  abbrev pub other : Locals → Locals
  other = locals_renamed rename

  pub bound_alike : (names : List Local) (n : ℕ) (locals : Locals)
      → bound n (map (local_renamed rename) names) (other locals) ≡ other (bound n names locals)
  bound_alike [] n locals = refl
  bound_alike (x ∷ names) n locals = bound_alike names (n + 1) ((x, stands.Local n) ∷ locals)

  pub some_alike : (x : Option Local) (n : ℕ) (locals : Locals)
      → bound_some n (option_map (local_renamed rename) x) (other locals)
      ≡ other (bound_some n x locals)
  some_alike None n locals = refl
  some_alike (Some x) n locals = refl

  pub named_some_alike : (x : Option Token) (n : ℕ) (locals : Locals)
      → bound_some n (option_map Named (option_map (token_renamed rename) x)) (other locals)
      ≡ other (bound_some n (option_map Named x) locals)
  named_some_alike None n locals = refl
  named_some_alike (Some x) n locals = refl

  pub standing_alike : (d : Denotation) (x : Option Token) (locals : Locals)
      → standing d (option_map (token_renamed rename) x) (other locals)
      ≡ other (standing d x locals)
  standing_alike d None locals = refl
  standing_alike d (Some x) locals = refl

  names_alike : (required : List (Token × CoreType))
      → map (λ (r : Token × CoreType). Named r.0) (map (variable_renamed rename) required)
      ≡ map (local_renamed rename) (map (λ (r : Token × CoreType). Named r.0) required)
  names_alike [] = refl
  names_alike (r ∷ rs) = ap (λ ns. Named (token_renamed rename r.0) ∷ ns) (names_alike rs)

  pub params_alike : (params : CoreParams) (d : Denotation) (first rest : ℕ) (locals : Locals)
      → params_bound (params_renamed rename params) d first rest (other locals)
      ≡ other (params_bound params d first rest locals)
  params_alike params d first rest locals =
      let required = map (λ (r : Token × CoreType). Named r.0) params.required in
      let next = option_map (token_renamed rename) params.next in
      let last = option_map Named (option_map (token_renamed rename) params.rest) in
      (λ i. bound_some rest last (standing d next
      (bound first (names_alike params.required i) (other locals))))
      ∙ (λ i. bound_some rest last (standing d next (bound_alike required first locals i)))
      ∙ (λ i. bound_some rest last (standing_alike d params.next (bound first required locals) i))
      ∙ named_some_alike params.rest rest (standing d params.next (bound first required locals))

  pub methods_bound_alike : (ms : CoreMethods) (n : ℕ) (locals : Locals)
      → methods_bound (methods_renamed rename ms) n (other locals)
      ≡ other (methods_bound ms n locals)
  methods_bound_alike no_method n locals = refl
  methods_bound_alike (method_and token first rest) n locals =
      methods_bound_alike rest (n + 1) ((Named token, stands.Local n) ∷ locals)

  pub method_count_alike : (ms : CoreMethods)
      → method_count (methods_renamed rename ms) ≡ method_count ms
  method_count_alike no_method = refl
  method_count_alike (method_and token first rest) = ap (λ k. k + 1) (method_count_alike rest)

  pub clause_count_alike : (cs : CoreClauses)
      → clause_count (clauses_renamed rename cs) ≡ clause_count cs
  clause_count_alike no_clause = refl
  clause_count_alike (clause_and first rest) = ap (λ k. k + 1) (clause_count_alike rest)

  variable_alike : (c : CoreClause)
      → variable_of (clause_renamed rename c) ≡ token_renamed rename (variable_of c)
  variable_alike (then_clause variable declared first next) = refl
  variable_alike (in_clause variable declared collection) = refl
  variable_alike (from_clause variable declared start limit step) = refl

  pub variables_alike : (cs : CoreClauses) (n : ℕ) (locals : Locals)
      → variables_bound (clauses_renamed rename cs) n (other locals)
      ≡ other (variables_bound cs n locals)
  variables_alike no_clause n locals = refl
  variables_alike (clause_and first rest) n locals =
      (λ i. variables_bound (clauses_renamed rename rest) (n + 1)
      ((Named (variable_alike first i), stands.Local n) ∷ other locals))
      ∙ variables_alike rest (n + 1) ((Named (variable_of first), stands.Local n) ∷ locals)

  kept_one_alike : (c : CoreClause) (n : ℕ) (locals : Locals)
      → kept_one (clause_renamed rename c) n (other locals) ≡ other (kept_one c n locals)
  kept_one_alike (then_clause variable declared first next) n locals = refl
  kept_one_alike (in_clause variable declared collection) n locals = refl
  kept_one_alike (from_clause variable declared start limit step) n locals = refl

  pub kept_alike : (cs : CoreClauses) (n : ℕ) (locals : Locals)
      → kept_bound (clauses_renamed rename cs) n (other locals) ≡ other (kept_bound cs n locals)
  kept_alike no_clause n locals = refl
  kept_alike (clause_and first rest) n locals =
      (λ i. kept_bound (clauses_renamed rename rest) (n + 1) (kept_one_alike first n locals i))
      ∙ kept_alike rest (n + 1) (kept_one first n locals)

-- how many locals there are
pub count_alike : {A B : Type 0} (f : A → B) (x : Option A) → count (option_map f x) ≡ count x
count_alike f None = refl
count_alike f (Some x) = refl

pub number_alike : {A B : Type 0} (f : A → B) (x : Option A) (n : ℕ)
    → number_of (option_map f x) n ≡ number_of x n
number_alike f None n = refl
number_alike f (Some x) n = refl

pub catches_numbered_alike : (rename : ℕ → ℕ) (cs : CoreCatches) (p : Progress)
    → catches_numbered (catches_renamed rename cs) p ≡ catches_numbered cs p
catches_numbered_alike rename no_catch p = refl
catches_numbered_alike rename (catch_and variable condition inner rest) p =
    (λ i. catches_numbered (catches_renamed rename rest)
    (numbered (count_alike (token_renamed rename) variable i) p))
    ∙ catches_numbered_alike rename rest (numbered (count variable) p)

-- names
module _ (out : Outside) (rename : ℕ → ℕ) (apart : KeepsApart rename)
    (owners : HasOwners out rename) where
  same_alike : (a b : Local)
      → is_same (local_renamed rename a) (local_renamed rename b) ≡ is_same a b
  same_alike (Named a) (Named b) = λ i. apart a.origin b.origin i && bytes_eq a.text b.text
  same_alike (Named a) (Hidden n) = refl
  same_alike (Hidden m) (Named b) = refl
  same_alike (Hidden m) (Hidden n) = refl

  pub found_alike : (locals : Locals) (x : Local)
      → innermost (other rename locals) (local_renamed rename x) ≡ innermost locals x
  unfolding innermost
  found_alike [] x = refl
  found_alike (l ∷ outer) x = λ i. cond (same_alike l.0 x i) (Some l.1) (found_alike outer x i)

  pub means_alike : (locals : Locals) (token : Token)
      → means out.owner (other rename locals) (token_renamed rename token)
      ≡ means out.owner locals token
  unfolding means
  means_alike locals token = λ i. in_force_or (found_alike locals (Named token) i) (owners token i)

  owned_alike : (token : Token) (b : BindingId) (w : What) (p : Progress)
      → owned (token_renamed rename token) b w p ≡ owned token b w p
  owned_alike token b whats.Class p = refl
  owned_alike token b whats.Generic p = refl
  owned_alike token b whats.Variable p = refl
  owned_alike token b whats.Constant p = refl
  owned_alike token b whats.Function p = refl
  owned_alike token b whats.Macro p = refl

  pub named_alike : (token : Token) (m : Meaning) (p : Progress)
      → named (token_renamed rename token) m p ≡ named token m p
  named_alike token (InForce d) p = refl
  named_alike token (Owned b) p = owned_alike token b b.what p
  named_alike token Unbound p = refl

  pub placed_alike : (token : Token) (m : Meaning) (p : Progress)
      → placed (token_renamed rename token) m p ≡ placed token m p
  placed_alike token (InForce (stands.Local k)) p = refl
  placed_alike token (InForce stands.NextMethod) p = refl
  placed_alike token (InForce stands.NoMethod) p = refl
  placed_alike token (Owned b) p = refl
  placed_alike token Unbound p = refl

  pub head_alike : (d : Core) (locals : Locals)
      → head_of out (renamed rename d) (other rename locals) ≡ head_of out d locals
  head_alike (literal value) locals = refl
  head_alike (name token) locals = ap head_meant (means_alike locals token)
  head_alike (hidden number) locals = refl
  head_alike (set token value) locals = refl
  head_alike (no_place token place value) locals = refl
  head_alike (call function arguments) locals = refl
  head_alike (values terms) locals = refl
  head_alike (choose choice) locals = refl
  head_alike (and left right) locals = refl
  head_alike (or left right) locals = refl
  head_alike (select value test arms last) locals = refl
  head_alike (body items) locals = refl
  head_alike (loop test inner) locals = refl
  head_alike (for clauses test inner finally) locals = refl
  head_alike (method row) locals = refl
  head_alike (block exit inner afterwards cleanup clauses) locals = refl

-- parts that are read alike
abbrev pub Alike : {T : Type 0} → (ℕ → ℕ) → Reads T → Reads T → Type 0
Alike rename after before = (locals : Locals) (p : Progress)
    → after (other rename locals) p ≡ before locals p

pub called_alike : (rename : ℕ → ℕ) (h : Head) (f g : Reads Term) (a b : Reads (List Term))
    → Alike rename f g → Alike rename a b → Alike rename (called h f a) (called h g b)
called_alike rename (heads.Generic generic) f g a b fg ab locals p =
    λ i. let x = ab locals p i in (Site generic x.0, x.1)
called_alike rename heads.NextMethod f g a b fg ab locals p =
    λ i. let x = ab locals p i in (Next (Some x.0), x.1)
called_alike rename heads.Value f g a b fg ab locals p =
    (λ i. let y = fg locals p i in let x = a (other rename locals) y.1 in (Call y.0 x.0, x.1))
    ∙ (λ i. let y = g locals p in let x = ab locals y.1 i in (Call y.0 x.0, x.1))

-- types
module _ (out : Outside) (rename : ℕ → ℕ) (types : HasTypes out rename) where
  pub type_alike : (t : CoreType)
      → Alike rename (read_type out (type_renamed rename t)) (read_type out t)
  type_alike t locals p = λ i. (type_or (types locals t i), told_of (types locals t i) p)

  pub types_alike : (ts : List CoreType)
      → Alike rename (read_types out (map (type_renamed rename) ts)) (read_types out ts)
  types_alike [] locals p = refl
  types_alike (t ∷ ts) locals p =
      (λ i. let f = type_alike t locals p i in
      let r = read_types out (map (type_renamed rename) ts) (other rename locals) f.1 in
      (f.0 ∷ r.0, r.1))
      ∙ (λ i. let f = read_type out t locals p in
      let r = types_alike ts locals f.1 i in (f.0 ∷ r.0, r.1))

  some_type_alike : (t : Option CoreType)
      → Alike rename (read_some out (option_map (type_renamed rename) t)) (read_some out t)
  some_type_alike None locals p = refl
  some_type_alike (Some t) locals p = λ i. let f = type_alike t locals p i in (Some f.0, f.1)

  pub numbered_alike : (ts : List (Local × CoreType)) (n : ℕ)
      → Alike rename (read_numbered out (map (typed_renamed rename) ts) n) (read_numbered out ts n)
  numbered_alike [] n locals p = refl
  numbered_alike (t ∷ ts) n locals p =
      (λ i. let f = type_alike t.1 locals p i in
      let r = read_numbered out (map (typed_renamed rename) ts) (n + 1) (other rename locals) f.1 in
      ((n, f.0) ∷ r.0, r.1))
      ∙ (λ i. let f = read_type out t.1 locals p in
      let r = numbered_alike ts (n + 1) locals f.1 i in ((n, f.0) ∷ r.0, r.1))

  pub results_alike : (rs : CoreResults)
      → Alike rename (read_results out (results_renamed rename rs)) (read_results out rs)
  results_alike rs locals p =
      (λ i. let r = types_alike rs.required locals p i in
      let f = read_some out (option_map (type_renamed rename) rs.rest) (other rename locals) r.1 in
      let x : Results = record { required = r.0; rest = f.0 } in (x, f.1))
      ∙ (λ i. let r = read_types out rs.required locals p in
      let f = some_type_alike rs.rest locals r.1 i in
      let x : Results = record { required = r.0; rest = f.0 } in (x, f.1))

  -- a keyword parameter whose type was read
  abbrev pub key_other : Token × Result DyType Fault → Token × Result DyType Fault
  key_other key = (token_renamed rename key.0, key.1)

  keys_alike : (keys : List CoreKey) (locals : Locals)
      → key_types out (other rename locals) (map (key_renamed rename) keys)
      ≡ map key_other (key_types out locals keys)
  keys_alike [] locals = refl
  keys_alike (k ∷ ks) locals =
      λ i. (token_renamed rename k.variable, types locals k.declared i) ∷ keys_alike ks locals i

  pub some_keys_alike : (keys : Option (List CoreKey)) (locals : Locals)
      → key_types out (other rename locals)
      (key_list (option_map (map (key_renamed rename)) keys))
      ≡ map key_other (key_types out locals (key_list keys))
  some_keys_alike None locals = refl
  some_keys_alike (Some keys) locals = keys_alike keys locals

-- shapes
pub required_alike : (rename : ℕ → ℕ) (ts : List (Token × CoreType))
    → map (λ (r : Token × CoreType). r.1) (map (variable_renamed rename) ts)
    ≡ map (type_renamed rename) (map (λ (r : Token × CoreType). r.1) ts)
required_alike rename [] = refl
required_alike rename (t ∷ ts) =
    ap (λ xs. type_renamed rename t.1 ∷ xs) (required_alike rename ts)

keywords_alike : (rename : ℕ → ℕ) (keys : List CoreKey)
    → map (λ (k : CoreKey). folded k.keyword.text) (map (key_renamed rename) keys)
    ≡ map (λ (k : CoreKey). folded k.keyword.text) keys
keywords_alike rename [] = refl
keywords_alike rename (k ∷ ks) = ap (λ xs. folded k.keyword.text ∷ xs) (keywords_alike rename ks)

abbrev keywords : Option (List CoreKey) → Option (List (List ℕ))
keywords keys = option_map (λ keys. map (λ (k : CoreKey). folded k.keyword.text) keys) keys

some_keywords_alike : (rename : ℕ → ℕ) (keys : Option (List CoreKey))
    → keywords (option_map (map (key_renamed rename)) keys) ≡ keywords keys
some_keywords_alike rename None = refl
some_keywords_alike rename (Some keys) = ap Some (keywords_alike rename keys)

has_alike : (rename : ℕ → ℕ) (x : Option Token)
    → is_some (option_map (token_renamed rename) x) ≡ is_some x
has_alike rename None = refl
has_alike rename (Some x) = refl

pub shape_alike : (rename : ℕ → ℕ) (params : CoreParams) (ts : List DyType)
    → shape_of (params_renamed rename params) ts ≡ shape_of params ts
shape_alike rename params ts = λ i. record {
  required = ts;
  rest = has_alike rename params.rest i;
  keys = some_keywords_alike rename params.keys i;
  all_keys = params.all_keys;
}

pub length_alike : {A B : Type 0} (f : A → B) (xs : List A) → length (map f xs) ≡ length xs
length_alike f [] = refl
length_alike f (x ∷ xs) = ap suc (length_alike f xs)

pub typed_names_alike : (rename : ℕ → ℕ) (ts : List (Local × CoreType))
    → map (λ (t : Local × CoreType). t.0) (map (typed_renamed rename) ts)
    ≡ map (local_renamed rename) (map (λ (t : Local × CoreType). t.0) ts)
typed_names_alike rename [] = refl
typed_names_alike rename (t ∷ ts) =
    ap (λ xs. local_renamed rename t.0 ∷ xs) (typed_names_alike rename ts)
