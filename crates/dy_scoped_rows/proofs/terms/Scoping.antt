-- What is read of a draft is in scope, by induction over drafts.
use Rattle.std.proofs.Common.{◌≡◌, ℕ, suc, ◌+◌, ◌≤◌, Bool, true, false, not, ◌&&◌, List, [], ◌∷◌, ◌++◌, length, map, Option, Some, None, Result, Ok, Err, refl, sym, ap, ◌∙◌, subst, arith}
use Rattle.std.specs.Prelude.{max, nat_lt, nat_le, if◌then◌else◌}
use Rattle.std.specs.Option.{option_map, is_some}
use Rattle.std.specs.List.{list_all}
use Rattle.std.proofs.lemmas.List.{length-map}
use Rattle.dy_base.specs.Folding.{folded}
use Rattle.dy_base.specs.declared.fault.Fault.{Fault}
use Rattle.dy_base.specs.declared.kind.Kind.TheVariants.{NotAssignable}
use Rattle.dy_base.specs.declared.ids.BindingId.{BindingId}
use Rattle.dy_base.specs.declared.ids.What.{What}
use Rattle.dy_base.specs.declared.ids.What.TheVariants as whats
use Rattle.dy_tree.specs.declared.token.Token.{Token}
use Rattle.dy_term.specs.declared.types.DyType.{DyType}
use Rattle.dy_term.specs.declared.types.Params.{Params}
use Rattle.dy_term.specs.declared.types.Results.{Results}
use Rattle.dy_term.specs.declared.draft.Local.{Local as Name}
use Rattle.dy_term.specs.declared.draft.Local.TheVariants.{Hidden}
use Rattle.dy_term.specs.declared.term.Term.{Term, Lit, Global, SetGlobal}
use Rattle.dy_term.specs.declared.term.Lambda.{Lambda, Lambda-F, roll-Lambda}
use Rattle.dy_term.specs.Types.{CoreType, CoreKey}
use Rattle.dy_term.specs.Drafts.{Core, literal, name, hidden, set, no_place, call, values, cond}
use Rattle.dy_term.specs.Drafts.{and, or, select, body, loop, for, method, block, Cores, no_core}
use Rattle.dy_term.specs.Drafts.{core_and, MaybeCore, nothing as no_maybe, just, Choice, otherwise}
use Rattle.dy_term.specs.Drafts.{branch, CoreArms, no_arm, arm_and, CoreItems, no_item, item_and}
use Rattle.dy_term.specs.Drafts.{CoreItem, run, let_values, let_methods, handler, CoreMethods}
use Rattle.dy_term.specs.Drafts.{no_method, method_and, CoreLambda, lambda}
use Rattle.dy_names.specs.declared.denotation.Denotation.{Denotation}
use Rattle.dy_names.specs.declared.denotation.Denotation.TheVariants as stands
use Rattle.dy_names.specs.declared.denotation.Meaning.{Meaning}
use Rattle.dy_names.specs.declared.denotation.Meaning.TheVariants.{InForce, Owned, Unbound}
use Rattle.dy_names.specs.Naming.{Locals, innermost, means}
use Rattle.dy_names.specs.Outside.{Outside}
use Rattle.dy_binding.specs.declared.progress.Progress.{Progress}
use Rattle.dy_binding.specs.declared.names.Head.{Head}
use Rattle.dy_binding.specs.declared.names.Head.TheVariants as heads
use Rattle.dy_binding.specs.Faults.{fault_at}
use Rattle.dy_binding.specs.Reads.{Reads, none, numbered, told, told_some}
use Rattle.dy_binding.specs.Bound.{bound, bound_some, params_bound, count, number_of, methods_bound}
use Rattle.dy_binding.specs.Bound.{method_count}
use Rattle.dy_binding.specs.Names.{denoted, owned, named, placed, assigned, is_variable}
use Rattle.dy_binding.specs.Names.{not_assignable, hidden_term, head_of, called, is_next}
use Rattle.dy_binding.specs.Types.{told_of, read_type, read_types, read_numbered, read_results}
use Rattle.dy_binding.specs.Types.{key_types, key_list, shape_of}
use Rattle.dy_resolution.specs.Terms.{core_term, core_terms, core_maybe, core_choice, core_arms}
use Rattle.dy_resolution.specs.Terms.{core_items, core_item, core_methods, core_lambda}
use Rattle.dy_resolution.specs.Terms.{core_defaults}
use Rattle.dy_code.specs.Fetching.{locals_of, rest_locals, keyword_locals}
use Rattle.dy_meaning.specs.Globals.{is_variable as is_global}
use Rattle.dy_meaning.specs.Numbers.{greatest, behind, numbers_in, numbers_in_item}
use Rattle.dy_meaning.specs.Numbers.{numbers_in_lambda}
use Rattle.dy_lowered.specs.Readiness.{is_own, is_set, with_rest, all_ready, are_distinct}
use Rattle.dy_lowering_law.specs.Ready.{has_no_keywords, is_empty}
use Rattle.dy_lowering_whole.specs.valid.Scoped.{Scoping, all_scoped, are_own, is_item_scoped, is_scoped}
use Rattle.dy_lowering_whole.specs.valid.Scoped.{is_lambda_scoped}
use Rattle.dy_lowering_whole.specs.Lowered.{is_lowered, is_item_lowered, is_lambda_lowered}
use Rattle.dy_term.specs.declared.term.Term.{For}
use Rattle.dy_term.specs.declared.term.ForRow.{roll-ForRow}
use Rattle.dy_term.specs.Drafts.{CoreClauses, no_clause, clause_and, CoreClause, then_clause}
use Rattle.dy_term.specs.Drafts.{in_clause, from_clause, CoreLimit, no_limit, a_limit, CoreTest}
use Rattle.dy_term.specs.Drafts.{no_test, a_test}
use Rattle.dy_binding.specs.declared.progress.Apart.{Apart}
use Rattle.dy_binding.specs.Bound.{clause_count, variables_bound, kept_bound}
use Rattle.dy_resolution.specs.Terms.{core_firsts, core_first, core_limit, core_clauses, core_clause}
use Rattle.dy_resolution.specs.Terms.{core_test, fresh}
use Rattle.dy_meaning.specs.Numbers.{numbers_in_clause}
use Rattle.dy_lowering_whole.specs.valid.Scoped.{is_clause_scoped}
use Rattle.dy_scoped_rows.proofs.terms.Folds.{is_clause_lowered, behind_lowered, behind_scoped}
use Rattle.dy_scoped_rows.proofs.terms.Folds.{behind_numbers}
use Rattle.dy_scoped_rows.proofs.terms.Below.{variables_below, kept_below}
use Rattle.dy_scoped_rows.proofs.terms.Folds as folds
use Rattle.dy_scoped_rows.proofs.terms.Folds.{branches_lowered, branches_scoped, branches_numbers}
use Rattle.dy_scoped_rows.proofs.terms.Folds.{arms_lowered, arms_in_scope, arms_numbers, maybe_lowered}
use Rattle.dy_scoped_rows.proofs.terms.Folds.{maybe_scoped, maybe_numbers, local_methods_lowered}
use Rattle.dy_scoped_rows.proofs.terms.Folds.{local_methods_scoped, local_methods_numbers}
use Rattle.dy_scoped_rows.proofs.terms.Facts.{behind_one, Facts, Within, nothing, both, by_same}
use Rattle.dy_scoped_rows.proofs.terms.Facts.{told_clean, told_next, no_fault, untrue, both_true}
use Rattle.dy_scoped_rows.proofs.terms.Facts.{and_true, and_assoc, lt_true, le_true}
use Rattle.dy_scoped_rows.specs.terms.Scoped.{Below, AreBelow, TermsInScope, LambdasInScope}
use Rattle.dy_scoped_rows.proofs.terms.Below.{further, all_further, bound_below}
use Rattle.dy_scoped_rows.proofs.terms.Below.{some_below}
use Rattle.dy_scoped_rows.proofs.terms.Below.{params_below, methods_below, FoundBelow, found_below}
use Rattle.dy_scoped_rows.proofs.terms.Below.{MeantBelow, means_below}

-- types take no numbers, and forget no fault
pub type_next : (t : Result DyType Fault) (p : Progress) → (told_of t p).next ≡ p.next
type_next (Ok t) p = refl
type_next (Err f) p = refl

pub type_clean : (t : Result DyType Fault) (p : Progress) → (told_of t p).first ≡ None
    → p.first ≡ None
type_clean (Ok t) p e = e
type_clean (Err f) p e = absurd (no_fault _ e)

module _ (out : Outside) where
  types_next : (ts : List CoreType) (locals : Locals) (p : Progress)
      → (read_types out ts locals p).1.next ≡ p.next
  types_next [] locals p = refl
  types_next (t ∷ ts) locals p =
      types_next ts locals (read_type out t locals p).1 ∙ type_next (out.type locals t) p

  types_clean : (ts : List CoreType) (locals : Locals) (p : Progress)
      → (read_types out ts locals p).1.first ≡ None → p.first ≡ None
  types_clean [] locals p e = e
  types_clean (t ∷ ts) locals p e =
      type_clean (out.type locals t) p
      (types_clean ts locals (read_type out t locals p).1 e)

  types_length : (ts : List CoreType) (locals : Locals) (p : Progress)
      → length (read_types out ts locals p).0 ≡ length ts
  types_length [] locals p = refl
  types_length (t ∷ ts) locals p = ap suc (types_length ts locals (read_type out t locals p).1)

  numbered_next : {A : Type 0} (ts : List (A × CoreType)) (n : ℕ) (locals : Locals) (p : Progress)
      → (read_numbered out ts n locals p).1.next ≡ p.next
  numbered_next [] n locals p = refl
  numbered_next (t ∷ ts) n locals p =
      numbered_next ts (n + 1) locals (read_type out t.1 locals p).1 ∙ type_next
      (out.type locals t.1) p

  numbered_clean : {A : Type 0} (ts : List (A × CoreType)) (n : ℕ) (locals : Locals) (p : Progress)
      → (read_numbered out ts n locals p).1.first ≡ None → p.first ≡ None
  numbered_clean [] n locals p e = e
  numbered_clean (t ∷ ts) n locals p e =
      type_clean (out.type locals t.1) p
      (numbered_clean ts (n + 1) locals (read_type out t.1 locals p).1 e)

  -- numbered locals are those of the body, and are counted
  abbrev numbers : {A : Type 0} (ts : List (A × CoreType)) (n : ℕ) (locals : Locals) (p : Progress)
      → List ℕ
  numbers ts n locals p =
      map (λ (t : ℕ × DyType). t.0) (read_numbered out ts n locals p).0

  own_numbered : {A : Type 0} (ts : List (A × CoreType)) (n : ℕ) (locals : Locals) (p : Progress)
      (first last : ℕ) → first ≤ n → n + length ts ≤ last
      → list_all (is_own first last) (numbers ts n locals p) ≡ true
  own_numbered [] n locals p first last low high = refl
  own_numbered (t ∷ ts) n locals p first last low high =
      and_true (is_own first last n) _
      (and_true (nat_le first n) (nat_lt n last) (le_true first n low)
      (lt_true n last (omega (arith, high))))
      (own_numbered ts (n + 1) locals (read_type out t.1 locals p).1 first last
      (omega (arith, low)) (omega (arith, high)))

  numbered_counted : {A : Type 0} (ts : List (A × CoreType)) (n : ℕ) (locals : Locals)
      (p : Progress) → n + length ts
      ≤ max n (greatest (map (λ (t : ℕ × DyType). t.0 + 1) (read_numbered out ts n locals p).0))
  numbered_counted [] n locals p = omega arith
  numbered_counted (t ∷ ts) n locals p =
      omega (arith, numbered_counted ts (n + 1) locals (read_type out t.1 locals p).1)

own_behind : (xs : List ℕ) (first last x : ℕ) → list_all (is_own first last) xs ≡ true
    → is_own first last x ≡ true → list_all (is_own first last) (xs ++ x ∷ []) ≡ true
own_behind [] first last x h g = and_true (is_own first last x) true g refl
own_behind (y ∷ ys) first last x h g =
    let h2 = both_true (is_own first last y) (list_all (is_own first last) ys) h in
    and_true (is_own first last y) _ h2.0 (own_behind ys first last x h2.1 g)

own_rest : {A : Type 0} (xs : List ℕ) (rest : Option A) (n first last : ℕ) → first ≤ n
    → n + count rest ≤ last → list_all (is_own first last) xs ≡ true
    → are_own (with_rest xs (number_of rest n)) first last ≡ true
own_rest xs None n first last low high h = h
own_rest xs (Some rest) n first last low high h =
    own_behind xs first last n h (and_true (nat_le first n) (nat_lt n last) (le_true first n low)
    (lt_true n last (omega (arith, high))))

rest_counted : {A : Type 0} (rest : Option A) (n : ℕ)
    → n + count rest ≤ max n (behind (number_of rest n))
rest_counted None n = omega arith
rest_counted (Some rest) n = omega arith

-- a part that takes no number, and is in scope wherever nothing is wrong
at_once : (p q : Progress) (l : Bool) (s : Scoping) (m : ℕ) → q.next ≡ p.next
    → (q.first ≡ None → p.first ≡ None)
    → (q.first ≡ None → (first last : ℕ) → p.next ≤ last → s first last ≡ true)
    → Within p.next p q l s m
at_once p q l s m same clean scoped e = record {
  grows = omega (arith, same);
  clean = clean;
  scoped = λ w first last low high. scoped w first last (omega (arith, same, high));
  counted = omega (arith, same);
}

-- names
abbrev pub TermWithin : Progress → Term × Progress → Type 0
TermWithin p r = Within p.next p r.1 (is_lowered r.0) (is_scoped r.0) (numbers_in r.0)

abbrev TermsWithin : Progress → List Term × Progress → Type 0
TermsWithin p r = Within p.next p r.1 (all_ready (map is_lowered r.0))
    (all_scoped (map is_scoped r.0)) (greatest (map numbers_in r.0))

lit_within : (p q : Progress) (v : _) → q.next ≡ p.next → (q.first ≡ None → p.first ≡ None)
    → TermWithin p (Lit v, q)
lit_within p q v same clean = at_once p q _ _ _ same clean
    (λ w first last high. (λ i. folds.scoped_lit v i first last))

denoted_within : (d : Denotation) (p : Progress) → Below p.next d
    → TermWithin p (denoted d, p)
denoted_within (stands.Local k) p b = at_once p p _ _ _ refl (λ w. w)
    (λ w first last high. (λ i. folds.scoped_local k i first last)
    ∙ lt_true k last (omega (arith, b, high)))
denoted_within stands.NextMethod p b = λ e. untrue (sym (folds.lowered_next None) ∙ e)
denoted_within stands.NoMethod p b = lit_within p p _ refl (λ w. w)

global_within : (b : BindingId) (p : Progress) → is_global b.what ≡ true
    → TermWithin p (Global b, p)
global_within b p g = at_once p p _ _ _ refl (λ w. w)
    (λ w first last high. (λ i. folds.scoped_global b i first last) ∙ g)

owned_within : (token : Token) (b : BindingId) (w : What) (p : Progress) → b.what ≡ w
    → TermWithin p (owned token b w p)
owned_within token b whats.Class p e = at_once p p _ _ _ refl (λ w. w)
    (λ w first last high. (λ i. folds.scoped_class (record { 0 = b.at }) i first last))
owned_within token b whats.Generic p e = at_once p p _ _ _ refl (λ w. w)
    (λ w first last high. (λ i. folds.scoped_generic (record { 0 = b.at }) i first last))
owned_within token b whats.Variable p e = global_within b p (ap is_global e)
owned_within token b whats.Constant p e = global_within b p (ap is_global e)
owned_within token b whats.Function p e = global_within b p (ap is_global e)
owned_within token b whats.Macro p e = lit_within p _ _ refl (λ w. absurd (no_fault _ w))

named_within : (token : Token) (m : Meaning) (p : Progress) → MeantBelow p.next m
    → TermWithin p (named token m p)
named_within token (InForce d) p b = denoted_within d p b
named_within token (Owned b) p below = owned_within token b b.what p refl
named_within token Unbound p b = lit_within p _ _ refl (λ w. absurd (no_fault _ w))

hidden_within : (d : Option Denotation) (p : Progress) → FoundBelow p.next d
    → TermWithin p (hidden_term d, p)
hidden_within None p b = lit_within p p _ refl (λ w. w)
hidden_within (Some d) p b = denoted_within d p b

-- an assignment
placed_owned_next : (token : Token) (c : Bool) (p : Progress)
    → (if c then p else not_assignable token p).next ≡ p.next
placed_owned_next token true p = refl
placed_owned_next token false p = refl

placed_next : (token : Token) (m : Meaning) (p : Progress) → (placed token m p).next ≡ p.next
placed_next token (InForce (stands.Local k)) p = refl
placed_next token (InForce stands.NextMethod) p = refl
placed_next token (InForce stands.NoMethod) p = refl
placed_next token (Owned b) p = placed_owned_next token (is_variable b.what) p
placed_next token Unbound p = refl

set_of : (w : What) → is_variable w ≡ true → is_set w ≡ true
set_of whats.Variable e = refl
set_of whats.Class e = untrue e
set_of whats.Generic e = untrue e
set_of whats.Constant e = untrue e
set_of whats.Function e = untrue e
set_of whats.Macro e = untrue e

-- a fault that was told is not forgotten, so nothing is said of what follows
after_fault : (p q r : Progress) (f : Fault) (s t : Scoping) (m : ℕ) → q.next ≡ p.next
    → q.first ≡ Some f → Facts q.next q r s m → Facts p.next p r t m
after_fault p q r f s t m same told x = record {
  grows = omega (arith, x.grows, same);
  clean = λ w. absurd (no_fault f (sym told ∙ x.clean w));
  scoped = λ w first last low high. absurd (no_fault f (sym told ∙ x.clean w));
  counted = omega (arith, x.counted, same);
}

owned_set : (token : Token) (b : BindingId) (v : Term) (p r : Progress) (c : Bool)
    → is_variable b.what ≡ c
    → TermWithin (if c then p else not_assignable token p) (v, r)
    → TermWithin p (SetGlobal b v, r)
owned_set token b v p r true e f = by_same p.next p r _ _ _ _ _ _ (folds.lowered_set_global b v)
    (folds.scoped_set_global b v) (folds.numbers_set_global b v)
    (λ l. let x = f l in record {
      grows = x.grows;
      clean = x.clean;
      scoped = λ w first last low high. and_true (is_set b.what) (is_scoped v first last)
          (set_of b.what e) (x.scoped w first last low high);
      counted = x.counted;
    })
owned_set token b v p r false e f = by_same p.next p r _ _ _ _ _ _ (folds.lowered_set_global b v)
    (folds.scoped_set_global b v) (folds.numbers_set_global b v)
    (λ l. after_fault p (not_assignable token p) r _ _ _ _ refl refl (f l))

set_within : (token : Token) (m : Meaning) (v : Term) (p r : Progress) → MeantBelow p.next m
    → TermWithin (placed token m p) (v, r) → TermWithin p (assigned m v, r)
set_within token (InForce (stands.Local k)) v p r b f =
    by_same p.next p r _ _ _ _ _ _ (folds.lowered_set_local k v)
    (folds.scoped_set_local k v) (folds.numbers_set_local k v)
    (λ l. let x = f l in record {
      grows = x.grows;
      clean = x.clean;
      scoped = λ w first last low high. and_true (nat_lt k last) (is_scoped v first last)
          (lt_true k last (omega (arith, b, x.grows, high))) (x.scoped w first last low high);
      counted = x.counted;
    })
set_within token (InForce stands.NextMethod) v p r b f =
    λ l. after_fault p (not_assignable token p) r _ _ _ _ refl refl (f l)
set_within token (InForce stands.NoMethod) v p r b f =
    λ l. after_fault p (not_assignable token p) r _ _ _ _ refl refl (f l)
set_within token (Owned b) v p r below f = owned_set token b v p r (is_variable b.what) refl f
set_within token Unbound v p r b f = λ l. after_fault p _ r _ _ _ _ refl refl (f l)

-- what is read where locals are below the next number
abbrev Good : Reads Term → Type 0
Good reads = (locals : Locals) (p : Progress) → AreBelow p.next locals
    → TermWithin p (reads locals p)

abbrev GoodList : Reads (List Term) → Type 0
GoodList reads = (locals : Locals) (p : Progress) → AreBelow p.next locals
    → TermsWithin p (reads locals p)

called_within : (h : Head) (f : Reads Term) (a : Reads (List Term)) → Good f → GoodList a
    → Good (called h f a)
called_within (heads.Generic g) f a fg ag locals p below =
    let r = a locals p in
    by_same p.next p r.1 _ _ _ _ _ _ (folds.lowered_site g r.0) (folds.scoped_site g r.0)
    (folds.numbers_site g r.0) (ag locals p below)
called_within heads.NextMethod f a fg ag locals p below =
    λ e. untrue (sym (folds.lowered_next (Some (a locals p).0)) ∙ e)
called_within heads.Value f a fg ag locals p below =
    let h = f locals p in
    let r = a locals h.1 in
    by_same p.next p r.1 _ _ _ _ _ _ (folds.lowered_call h.0 r.0) (folds.scoped_call h.0 r.0)
    (folds.numbers_call h.0 r.0)
    (both p h.1 r.1 _ _ _ _ _ _ (fg locals p below)
    (λ l grows. ag locals h.1 (all_further p.next h.1.next locals grows below)))

-- the first expressions of a clause: whether they are lowered yet, their scope and their numbers
abbrev apart_lowered : Apart → Bool
apart_lowered a = is_lowered a.first && (behind_lowered a.limit && maybe_lowered a.step)

abbrev apart_scoped : Apart → Scoping
apart_scoped a first last =
    is_scoped a.first first last && (behind_scoped a.limit first last && maybe_scoped a.step first last)

abbrev apart_numbers : Apart → ℕ
apart_numbers a = max (numbers_in a.first) (max (behind_numbers a.limit) (maybe_numbers a.step))

-- a clause with one first expression alone has no limit and no step
abbrev Fits : CoreClause → Apart → Type 0
Fits (then_clause variable declared first next) a = (a.limit ≡ None) × (a.step ≡ None)
Fits (in_clause variable declared collection) a = (a.limit ≡ None) × (a.step ≡ None)
Fits (from_clause variable declared start limit step) a = Unit {0}

abbrev AllFit : CoreClauses → List Apart → Type 0
AllFit no_clause [] = Unit {0}
AllFit no_clause (a ∷ others) = ⊥
AllFit (clause_and clause rest) [] = ⊥
AllFit (clause_and clause rest) (a ∷ others) = Fits clause a × AllFit rest others

alone_lowered : (a : Apart) → a.limit ≡ None → a.step ≡ None → is_lowered a.first ≡ true
    → apart_lowered a ≡ true
alone_lowered a l s e =
    and_true (is_lowered a.first) (behind_lowered a.limit && maybe_lowered a.step) e
    (λ i. behind_lowered (l i) && maybe_lowered (s i))

alone_numbers : (a : Apart) → a.limit ≡ None → a.step ≡ None
    → apart_numbers a ≡ max (numbers_in a.first) (max 0 0)
alone_numbers a l s =
    λ i. max (numbers_in a.first) (max (behind_numbers (l i)) (maybe_numbers (s i)))

-- First expressions in which nothing is wrong are in scope of a body that begins at or below one
-- number and reaches another.
abbrev Holds : ℕ → ℕ → Apart → Type 0
Holds low high a = a.fault ≡ None → apart_lowered a ≡ true → (first last : ℕ) → first ≤ low
    → high ≤ last → apart_scoped a first last ≡ true

abbrev AllHold : ℕ → ℕ → List Apart → Type 0
AllHold low high [] = Unit {0}
AllHold low high (a ∷ others) = Holds low high a × AllHold low high others

wider : (low below high : ℕ) (fs : List Apart) → below ≤ low → AllHold low high fs
    → AllHold below high fs
wider low below high [] h holds = tt
wider low below high (a ∷ others) h holds = (
  λ w l first last under over. holds.0 w l first last (omega (arith, under, h)) over,
  wider low below high others h holds.1,
)

record Firsts (low high : ℕ) (fs : List Apart) : Type 0 where
  grows : low ≤ high
  holds : AllHold low high fs
  counted : high ≤ max low (greatest (map apart_numbers fs))

-- a lambda whose keywords were read
abbrev Keywords : Type 0
Keywords = (List (DyType × Term) × Locals) × Progress

module _ (out : Outside) where
  abbrev lambda_from : (inner : Core) (params : Params) (d : Denotation) (first : ℕ)
      (r : Results × Progress) (k : Keywords) → Lambda × Progress
  lambda_from inner params d first r k =
      let b = core_term out inner k.0.1 (told_some r.1.first k.1) in (
        roll-Lambda (record {
          params = params;
          keywords = k.0.0;
          next = is_next d;
          first = first;
          locals = b.1.next;
          body = b.0;
          results = r.0;
        }),
        b.1,
      )

  no_defaults : (defaults : Cores) (n : ℕ) (locals : Locals) (p : Progress)
      → core_defaults out defaults [] n locals p ≡ (([], locals), p)
  no_defaults no_core n locals p = refl
  no_defaults (core_and first rest) n locals p = refl

  -- A lambda is in scope wherever its first number is none behind the locals around it.
  abbrev pub LambdaFacts : Progress → Lambda × Progress → Type 0
  LambdaFacts p r = Facts p.next p r.1 (is_lambda_scoped r.0) (numbers_in_lambda r.0)
      × (r.1.first ≡ None → (first last : ℕ) → p.next ≤ last
      → is_lambda_scoped r.0 first last ≡ true)

  abbrev pub LambdaWithin : Progress → Lambda × Progress → Type 0
  LambdaWithin p r = is_lambda_lowered r.0 ≡ true → LambdaFacts p r

  -- where there are no keywords, from a body that is in scope
  bare_lambda : (inner : Core) (params : Params) (d : Denotation) (p q : Progress)
      (r : Results × Progress) (within : Locals)
      → p.next + locals_of params ≤ q.next → p.next ≤ q.next
      → (q.first ≡ None → p.first ≡ None) → Good (core_term out inner) → AreBelow q.next within
      → is_lowered (core_term out inner within (told_some r.1.first q)).0 ≡ true
      → LambdaFacts p (lambda_from inner params d p.next r (([], within), q))
  bare_lambda inner params d p q r within room above clean good below lowered =
      let u = told_some r.1.first q in
      let same : u.next ≡ q.next = told_next r.1.first q in
      let b = core_term out inner within u in
      let x = good within u (subst (λ n. AreBelow n within) (sym same) below) lowered in
      let row : Lambda-F _ _ _ _ _ _ = record {
        params = params;
        keywords = [];
        next = is_next d;
        first = p.next;
        locals = b.1.next;
        body = b.0;
        results = r.0;
      } in
      let anywhere : b.1.first ≡ None → (first last : ℕ) → p.next ≤ last
      → is_lambda_scoped (roll-Lambda row) first last ≡ true = λ w first last high.
      (λ i. folds.lambda_scoped_is row i first last)
      ∙ and_true (nat_le p.next last) _ (le_true p.next last high)
      (and_true (nat_le (p.next + locals_of params) b.1.next) _
      (le_true (p.next + locals_of params) b.1.next (omega (arith, room, same, x.grows)))
      (x.scoped w p.next b.1.next (omega (arith, above, same)) (omega arith))) in (
        record {
          grows = omega (arith, above, same, x.grows);
          clean = λ w. clean (told_clean r.1.first q (x.clean w)).1;
          scoped = λ w first last low high.
              anywhere w first last (omega (arith, above, same, x.grows, high));
          counted = omega (arith, folds.lambda_numbers_is row);
        },
        anywhere,
      )

  keys_gone : (keys : Option (List CoreKey)) (all_keys : Bool)
      → not (is_some (option_map (λ (ks : List CoreKey). map (λ k. folded k.keyword.text) ks) keys))
      && not all_keys ≡ true
      → keys ≡ None
  keys_gone None all_keys e = refl
  keys_gone (Some keys) all_keys e = untrue e

  keyless : (keys : Option (List CoreKey)) (all_keys : Bool)
      → not (is_some (option_map (λ (ks : List CoreKey). map (λ k. folded k.keyword.text) ks) keys))
      && not all_keys ≡ true
      → keyword_locals
      (option_map (λ (ks : List CoreKey). map (λ k. folded k.keyword.text) ks) keys) ≡ 0
  keyless None all_keys e = refl
  keyless (Some keys) all_keys e = untrue e

  rest_same : (o : Option Token) → rest_locals (is_some o) ≡ count o
  rest_same None = refl
  rest_same (Some t) = refl

  first_fits : (c : CoreClause) (locals : Locals) (p : Progress) (fault : Option Fault)
      → Fits c (record (core_first out c locals p).0 { fault = fault })
  first_fits (then_clause variable declared first next) locals p fault = (refl, refl)
  first_fits (in_clause variable declared collection) locals p fault = (refl, refl)
  first_fits (from_clause variable declared start limit step) locals p fault = tt

  firsts_fit : (cs : CoreClauses) (locals : Locals) (n : ℕ) → AllFit cs (core_firsts out cs locals n).0
  firsts_fit no_clause locals n = tt
  firsts_fit (clause_and first rest) locals n = (
    first_fits first locals (fresh n) (core_first out first locals (fresh n)).1.first,
    firsts_fit rest locals (core_first out first locals (fresh n)).1.next,
  )

  -- the first expressions of clauses that are lowered yet are too
  first_lowered : (c : CoreClause) (a : Apart) → Fits c a → (n : ℕ) (locals : Locals) (p : Progress)
      → is_clause_lowered (core_clause out c a n locals p).0 ≡ true → apart_lowered a ≡ true
  first_lowered (then_clause variable declared first next) a fit n locals p e =
      let t = core_term out next locals (told_some a.fault p) in
      alone_lowered a fit.0 fit.1 (both_true (is_lowered a.first) (is_lowered t.0)
      (sym (folds.lowered_then n a.declared a.first t.0) ∙ e)).0
  first_lowered (in_clause variable declared collection) a fit n locals p e =
      untrue (sym (folds.lowered_in n a.declared a.first) ∙ e)
  first_lowered (from_clause variable declared start limit step) a fit n locals p e =
      sym (folds.lowered_from n a.declared a.first a.limit a.step) ∙ e

  firsts_lowered : (cs : CoreClauses) (fs : List Apart) → AllFit cs fs → (n : ℕ) (locals : Locals)
      (p : Progress) → all_ready (map is_clause_lowered (core_clauses out cs fs n locals p).0) ≡ true
      → all_ready (map apart_lowered fs) ≡ true
  firsts_lowered no_clause [] fit n locals p e = refl
  firsts_lowered no_clause (f ∷ fs) fit n locals p e = absurd fit
  firsts_lowered (clause_and first rest) [] fit n locals p e = absurd fit
  firsts_lowered (clause_and first rest) (f ∷ fs) fit n locals p e =
      let c = core_clause out first f n locals p in
      let r = core_clauses out rest fs (n + 1) locals c.1 in
      let h = both_true (is_clause_lowered c.0) (all_ready (map is_clause_lowered r.0)) e in
      and_true (apart_lowered f) (all_ready (map apart_lowered fs))
      (first_lowered first f fit.0 n locals p h.0) (firsts_lowered rest fs fit.1 (n + 1) locals c.1 h.1)

  -- a clause with one first expression alone
  first_alone : (declared : CoreType) (d : Core) → Good (core_term out d) → (locals : Locals) (p : Progress)
      → AreBelow p.next locals →
      let t = read_type out declared locals p in
      let f = core_term out d locals t.1 in
      Within p.next p f.1 (is_lowered f.0 && (true && true))
      (λ first last. is_scoped f.0 first last && (true && true))
      (max (numbers_in f.0) (max 0 0))
  first_alone declared d good locals p below e =
      let t = read_type out declared locals p in
      let same = type_next (out.type locals declared) p in
      let f = core_term out d locals t.1 in
      let x = good locals t.1 (subst (λ n. AreBelow n locals) (sym same) below)
      (both_true (is_lowered f.0) (true && true) e).0 in
      behind_one p t.1 f.1 _ _ same (type_clean (out.type locals declared) p) (record {
        grows = x.grows;
        clean = x.clean;
        scoped = λ w bottom top low high. and_true (is_scoped f.0 bottom top) (true && true)
            (x.scoped w bottom top low high) refl;
        counted = omega (arith, x.counted);
      })

  mutual
    pub term_within : (d : Core) (locals : Locals) (p : Progress) → AreBelow p.next locals
        → TermWithin p (core_term out d locals p)
    term_within (literal value) locals p below = lit_within p p value refl (λ w. w)
    term_within (name token) locals p below =
        named_within token (means out.owner locals token) p
        (means_below p.next out.owner locals token below)
    term_within (hidden number) locals p below =
        hidden_within (innermost locals (Hidden number)) p
        (found_below p.next locals (Hidden number) below)
    term_within (set token value) locals p below =
        let m = means out.owner locals token in
        let q = placed token m p in
        let v = core_term out value locals q in
        set_within token m v.0 p v.1 (means_below p.next out.owner locals token below)
        (term_within value locals q
        (subst (λ n. AreBelow n locals) (sym (placed_next token m p)) below))
    term_within (no_place token place value) locals p below =
        let q = told (fault_at NotAssignable token []) p in
        let l = core_term out place locals q in
        let v = core_term out value locals l.1 in
        by_same p.next p v.1 _ _ _ _ _ _ (folds.lowered_and l.0 v.0) (folds.scoped_and l.0 v.0)
        (folds.numbers_and l.0 v.0)
        (λ e. after_fault p q v.1 _ _ _ _ refl refl
        (both q l.1 v.1 _ _ _ _ _ _ (term_within place locals q below)
        (λ c grows. term_within value locals l.1 (all_further q.next l.1.next locals grows below))
        e))
    term_within (call function arguments) locals p below =
        called_within (head_of out function locals) (core_term out function)
        (core_terms out arguments) (λ ls q b. term_within function ls q b)
        (λ ls q b. terms_within arguments ls q b) locals p below
    term_within (values terms) locals p below =
        let t = core_terms out terms locals p in
        by_same p.next p t.1 _ _ _ _ _ _ (folds.lowered_op _ t.0) (folds.scoped_op _ t.0)
        (folds.numbers_op _ t.0) (terms_within terms locals p below)
    term_within (cond choice) locals p below =
        let c = core_choice out choice locals p in
        by_same p.next p c.1 _ _ _ _ _ _ (folds.lowered_cond c.0.0 c.0.1)
        (folds.scoped_cond c.0.0 c.0.1) (folds.numbers_cond c.0.0 c.0.1)
        (choice_within choice locals p below)
    term_within (and left right) locals p below =
        let l = core_term out left locals p in
        let r = core_term out right locals l.1 in
        by_same p.next p r.1 _ _ _ _ _ _ (folds.lowered_and l.0 r.0) (folds.scoped_and l.0 r.0)
        (folds.numbers_and l.0 r.0)
        (both p l.1 r.1 _ _ _ _ _ _ (term_within left locals p below)
        (λ e grows. term_within right locals l.1 (all_further p.next l.1.next locals grows below)))
    term_within (or left right) locals p below =
        let l = core_term out left locals p in
        let r = core_term out right locals l.1 in
        by_same p.next p r.1 _ _ _ _ _ _ (folds.lowered_or l.0 r.0) (folds.scoped_or l.0 r.0)
        (folds.numbers_or l.0 r.0)
        (both p l.1 r.1 _ _ _ _ _ _ (term_within left locals p below)
        (λ e grows. term_within right locals l.1 (all_further p.next l.1.next locals grows below)))
    term_within (select value test arms last) locals p below =
        let v = core_term out value locals p in
        let t = core_maybe out test locals v.1 in
        let a = core_arms out arms locals t.1 in
        let l = core_maybe out last locals a.1 in
        by_same p.next p l.1 _ _ _ _ _ _ (folds.lowered_select v.0 t.0 a.0 l.0)
        (folds.scoped_select v.0 t.0 a.0 l.0) (folds.numbers_select v.0 t.0 a.0 l.0)
        (both p v.1 l.1 _ _ _ _ _ _ (term_within value locals p below)
        (λ e f. let bv = all_further p.next v.1.next locals f below in
        both v.1 t.1 l.1 _ _ _ _ _ _ (maybe_within test locals v.1 bv)
        (λ e g. let bt = all_further v.1.next t.1.next locals g bv in
        both t.1 a.1 l.1 _ _ _ _ _ _ (arms_within arms locals t.1 bt)
        (λ e h. maybe_within last locals a.1 (all_further t.1.next a.1.next locals h bt)))))
    term_within (body items) locals p below =
        let i = core_items out items locals p in
        by_same p.next p i.1 _ _ _ _ _ _ (folds.lowered_body i.0) (folds.scoped_body i.0)
        (folds.numbers_body i.0) (items_within items locals p below)
    term_within (loop test inner) locals p below =
        let l = core_term out test locals p in
        let r = core_term out inner locals l.1 in
        by_same p.next p r.1 _ _ _ _ _ _ (folds.lowered_loop l.0 r.0) (folds.scoped_loop l.0 r.0)
        (folds.numbers_loop l.0 r.0)
        (both p l.1 r.1 _ _ _ _ _ _ (term_within test locals p below)
        (λ e grows. term_within inner locals l.1 (all_further p.next l.1.next locals grows below)))
    term_within (for clauses test inner finally) locals p below = λ e.
        let start = p.next + clause_count clauses in
        let f = core_firsts out clauses locals start in
        let within = variables_bound clauses p.next locals in
        let kept = kept_bound clauses p.next locals in
        let q : Progress = record p { next = f.1 } in
        let c = core_clauses out clauses f.0 p.next within q in
        let t = core_test out test within c.1 in
        let b = core_term out inner within t.1 in
        let l = core_maybe out finally kept b.1 in
        let row = For (roll-ForRow
        (record { clauses = c.0; test = t.0; body = b.0; finally = l.0 })) in
        let h = both_true (all_ready (map is_clause_lowered c.0))
        (behind_lowered t.0 && (is_lowered b.0 && maybe_lowered l.0))
        (sym (folds.lowered_for _ ∙ folds.row_lowered c.0 t.0 b.0 l.0) ∙ e) in
        let g = both_true (behind_lowered t.0) (is_lowered b.0 && maybe_lowered l.0) h.1 in
        let k = both_true (is_lowered b.0) (maybe_lowered l.0) g.1 in
        let fit = firsts_fit clauses locals start in
        let beyond : AreBelow start locals =
        all_further p.next start locals (omega arith) below in
        let first = firsts_within clauses locals start beyond
        (firsts_lowered clauses f.0 fit p.next within q h.0) in
        let bound : AreBelow f.1 within = variables_below f.1 p.next clauses locals
        (omega (arith, first.grows)) (all_further start f.1 locals first.grows beyond) in
        let found = clauses_within clauses f.0 fit start f.1 first.holds p.next p.next within q
        (omega arith) (omega (arith, first.grows)) (omega arith) (omega arith) bound h.0 in
        let x = found.0 in
        let y = test_within test within c.1 (all_further f.1 c.1.next within x.grows bound) g.0 in
        let bt : AreBelow t.1.next within =
        all_further f.1 t.1.next within (omega (arith, x.grows, y.grows)) bound in
        let z = term_within inner within t.1 bt k.0 in
        let last : AreBelow b.1.next kept = kept_below b.1.next p.next clauses locals
        (omega (arith, first.grows, x.grows, y.grows, z.grows))
        (all_further start b.1.next locals
        (omega (arith, first.grows, x.grows, y.grows, z.grows)) beyond) in
        let w = maybe_within finally kept b.1 last k.1 in
        record {
          grows = omega (arith, first.grows, x.grows, y.grows, z.grows, w.grows);
          clean = λ n. x.clean (y.clean (z.clean (w.clean n)));
          scoped = λ n bottom top low high.
              (λ i. (folds.scoped_for _ ∙ folds.row_scoped c.0 t.0 b.0 l.0) i bottom top)
              ∙ and_true (all_scoped (map is_clause_scoped c.0) bottom top) _
              (x.scoped (y.clean (z.clean (w.clean n))) bottom top low
              (omega (arith, y.grows, z.grows, w.grows, high)))
              (and_true (behind_scoped t.0 bottom top) _
              (y.scoped (z.clean (w.clean n)) bottom top
              (omega (arith, low, first.grows, x.grows)) (omega (arith, z.grows, w.grows, high)))
              (and_true (is_scoped b.0 bottom top) (maybe_scoped l.0 bottom top)
              (z.scoped (w.clean n) bottom top (omega (arith, low, first.grows, x.grows, y.grows))
              (omega (arith, w.grows, high)))
              (w.scoped n bottom top (omega (arith, low, first.grows, x.grows, y.grows, z.grows))
              high)));
          counted = omega (
            arith,
            first.counted,
            found.1,
            found.2,
            x.counted,
            y.counted,
            z.counted,
            w.counted,
            folds.numbers_for _ ∙ folds.row_numbers c.0 t.0 b.0 l.0,
          );
        }
    term_within (method row) locals p below =
        let l = core_lambda out row stands.NoMethod locals p in
        by_same p.next p l.1 _ _ _ _ _ _ (folds.lowered_method l.0) (folds.scoped_method l.0)
        (folds.numbers_method l.0)
        (λ e. (lambda_within row stands.NoMethod locals p tt below e).0)
    term_within (block exit inner afterwards cleanup clauses) locals p below =
        λ e. untrue (sym (folds.lowered_block _) ∙ e)

    -- the first expressions of clauses
    firsts_within : (cs : CoreClauses) (locals : Locals) (n : ℕ) → AreBelow n locals
        → let r = core_firsts out cs locals n in
        all_ready (map apart_lowered r.0) ≡ true → Firsts n r.1 r.0
    firsts_within no_clause locals n below e =
        record { grows = omega arith; holds = tt; counted = omega arith }
    firsts_within (clause_and first rest) locals n below e =
        let f = core_first out first locals (fresh n) in
        let r = core_firsts out rest locals f.1.next in
        let h = both_true (apart_lowered f.0) (all_ready (map apart_lowered r.0)) e in
        let x = first_within first locals (fresh n) below h.0 in
        let y = firsts_within rest locals f.1.next (all_further n f.1.next locals x.grows below)
        h.1 in
        record {
          grows = omega (arith, x.grows, y.grows);
          holds = (
            λ w l bottom top low high. x.scoped w bottom top low (omega (arith, y.grows, high)),
            wider f.1.next n r.1 r.0 x.grows y.holds,
          );
          counted = omega (arith, x.counted, y.counted);
        }

    first_within : (c : CoreClause) (locals : Locals) (p : Progress) → AreBelow p.next locals
        → let r = core_first out c locals p in
        Within p.next p r.1 (apart_lowered r.0) (apart_scoped r.0) (apart_numbers r.0)
    first_within (then_clause variable declared first next) locals p below =
        first_alone declared first (λ ls q b. term_within first ls q b) locals p below
    first_within (in_clause variable declared collection) locals p below =
        first_alone declared collection (λ ls q b. term_within collection ls q b) locals p below
    first_within (from_clause variable declared start limit step) locals p below = λ e.
        let t = read_type out declared locals p in
        let same = type_next (out.type locals declared) p in
        let f = core_term out start locals t.1 in
        let l = core_limit out limit locals f.1 in
        let s = core_maybe out step locals l.1 in
        let bt : AreBelow t.1.next locals =
        subst (λ n. AreBelow n locals) (sym same) below in
        behind_one p t.1 s.1 _ _ same (type_clean (out.type locals declared) p)
        (both t.1 f.1 s.1 _ _ _ _ _ _ (term_within start locals t.1 bt)
        (λ a g. let bf = all_further t.1.next f.1.next locals g bt in
        both f.1 l.1 s.1 _ _ _ _ _ _ (limit_within limit locals f.1 bf)
        (λ a h. maybe_within step locals l.1 (all_further f.1.next l.1.next locals h bf))) e)

    limit_within : (l : CoreLimit) (locals : Locals) (p : Progress) → AreBelow p.next locals
        → let r = core_limit out l locals p in
        Within p.next p r.1 (behind_lowered r.0) (behind_scoped r.0) (behind_numbers r.0)
    limit_within no_limit locals p below = nothing p.next p true
    limit_within (a_limit limit inner) locals p below = term_within inner locals p below

    test_within : (t : CoreTest) (locals : Locals) (p : Progress) → AreBelow p.next locals
        → let r = core_test out t locals p in
        Within p.next p r.1 (behind_lowered r.0) (behind_scoped r.0) (behind_numbers r.0)
    test_within no_test locals p below = nothing p.next p true
    test_within (a_test ends test) locals p below = term_within test locals p below

    -- Clauses whose first expressions hold from one number to another. Their variables have the
    -- numbers from one on.
    clauses_within : (cs : CoreClauses) (fs : List Apart) → AllFit cs fs → (low high : ℕ)
        → AllHold low high fs → (bottom n : ℕ) (locals : Locals) (p : Progress)
        → bottom ≤ n → n + clause_count cs ≤ p.next → bottom ≤ low → high ≤ p.next
        → AreBelow p.next locals
        → let r = core_clauses out cs fs n locals p in
        all_ready (map is_clause_lowered r.0) ≡ true
        → Facts bottom p r.1 (all_scoped (map is_clause_scoped r.0))
        (greatest (map numbers_in_clause r.0))
        × (n + clause_count cs ≤ max n (greatest (map numbers_in_clause r.0)))
        × (greatest (map apart_numbers fs) ≤ greatest (map numbers_in_clause r.0))
    clauses_within no_clause [] fit low high holds bottom n locals p under room from to below e =
        (nothing bottom p true refl, omega arith, omega arith)
    clauses_within no_clause (f ∷ fs) fit low high holds bottom n locals p under room from to below e =
        absurd fit
    clauses_within (clause_and first rest) [] fit low high holds bottom n locals p under room from to
        below e = absurd fit
    clauses_within (clause_and first rest) (f ∷ fs) fit low high holds bottom n locals p under room
        from to below e =
        let c = core_clause out first f n locals p in
        let r = core_clauses out rest fs (n + 1) locals c.1 in
        let h = both_true (is_clause_lowered c.0) (all_ready (map is_clause_lowered r.0)) e in
        let one = clause_within first f fit.0 low high holds.0 bottom n locals p under
        (omega (arith, room)) from to below h.0 in
        let x = one.0 in
        let more = clauses_within rest fs fit.1 low high holds.1 bottom (n + 1) locals c.1
        (omega (arith, under)) (omega (arith, room, x.grows)) from (omega (arith, to, x.grows))
        (all_further p.next c.1.next locals x.grows below) h.1 in
        let y = more.0 in (
          record {
            grows = omega (arith, x.grows, y.grows);
            clean = λ w. x.clean (y.clean w);
            scoped = λ w first last under over.
                and_true (is_clause_scoped c.0 first last) _
                (x.scoped (y.clean w) first last under (omega (arith, y.grows, over)))
                (y.scoped w first last under over);
            counted = omega (arith, x.counted, y.counted);
          },
          omega (arith, one.1, more.1),
          omega (arith, one.2, more.2),
        )

    clause_within : (c : CoreClause) (a : Apart) → Fits c a → (low high : ℕ) → Holds low high a
        → (bottom n : ℕ) (locals : Locals) (p : Progress) → bottom ≤ n → n + 1 ≤ p.next
        → bottom ≤ low → high ≤ p.next → AreBelow p.next locals
        → let r = core_clause out c a n locals p in
        is_clause_lowered r.0 ≡ true
        → Facts bottom p r.1 (is_clause_scoped r.0) (numbers_in_clause r.0)
        × (n + 1 ≤ numbers_in_clause r.0) × (apart_numbers a ≤ numbers_in_clause r.0)
    clause_within (then_clause variable declared first next) a fit low high holds bottom n locals p
        under room from to below e =
        let q = told_some a.fault p in
        let same = told_next a.fault p in
        let t = core_term out next locals q in
        let h = both_true (is_lowered a.first) (is_lowered t.0)
        (sym (folds.lowered_then n a.declared a.first t.0) ∙ e) in
        let x = term_within next locals q (subst (λ n. AreBelow n locals) (sym same) below) h.1 in
        let numbers = folds.numbers_then n a.declared a.first t.0 in (
          record {
            grows = omega (arith, same, x.grows);
            clean = λ w. (told_clean a.fault p (x.clean w)).1;
            scoped = λ w first last low' high'.
                (λ i. folds.scoped_then n a.declared a.first t.0 i first last)
                ∙ and_true (is_own first last n) _
                (and_true (nat_le first n) (nat_lt n last)
                (le_true first n (omega (arith, low', under)))
                (lt_true n last (omega (arith, room, same, x.grows, high'))))
                (and_true (is_scoped a.first first last) (is_scoped t.0 first last)
                (both_true (is_scoped a.first first last) _
                (holds (told_clean a.fault p (x.clean w)).0 (alone_lowered a fit.0 fit.1 h.0)
                first last (omega (arith, low', from))
                (omega (arith, to, same, x.grows, high')))).0
                (x.scoped w first last (omega (arith, low', under, room, same)) high'));
            counted = omega (arith, same, x.counted, numbers);
          },
          omega (arith, numbers),
          omega (arith, numbers, alone_numbers a fit.0 fit.1),
        )
    clause_within (in_clause variable declared collection) a fit low high holds bottom n locals p
        under room from to below e = untrue (sym (folds.lowered_in n a.declared a.first) ∙ e)
    clause_within (from_clause variable declared start limit step) a fit low high holds bottom n
        locals p under room from to below e =
        let q = told_some a.fault p in
        let same = told_next a.fault p in
        let h = sym (folds.lowered_from n a.declared a.first a.limit a.step) ∙ e in
        let numbers = folds.numbers_from n a.declared a.first a.limit a.step in (
          record {
            grows = omega (arith, same);
            clean = λ w. (told_clean a.fault p w).1;
            scoped = λ w first last low' high'.
                (λ i. folds.scoped_from n a.declared a.first a.limit a.step i first last)
                ∙ and_true (is_own first last n) _
                (and_true (nat_le first n) (nat_lt n last)
                (le_true first n (omega (arith, low', under)))
                (lt_true n last (omega (arith, room, same, high'))))
                (holds (told_clean a.fault p w).0 h first last (omega (arith, low', from))
                (omega (arith, to, same, high')));
            counted = omega (arith, same);
          },
          omega (arith, numbers),
          omega (arith, numbers),
        )

    terms_within : (ds : Cores) (locals : Locals) (p : Progress) → AreBelow p.next locals
        → TermsWithin p (core_terms out ds locals p)
    terms_within no_core locals p below = nothing p.next p true
    terms_within (core_and first rest) locals p below =
        let f = core_term out first locals p in
        both p f.1 (core_terms out rest locals f.1).1 _ _ _ _ _ _ (term_within first locals p below)
        (λ e grows. terms_within rest locals f.1 (all_further p.next f.1.next locals grows below))

    maybe_within : (d : MaybeCore) (locals : Locals) (p : Progress) → AreBelow p.next locals
        → let r = core_maybe out d locals p in
        Within p.next p r.1 (maybe_lowered r.0) (maybe_scoped r.0) (maybe_numbers r.0)
    maybe_within no_maybe locals p below = nothing p.next p true
    maybe_within (just term) locals p below = term_within term locals p below

    choice_within : (c : Choice) (locals : Locals) (p : Progress) → AreBelow p.next locals
        → let r = core_choice out c locals p in
        Within p.next p r.1 (branches_lowered r.0.0 && is_lowered r.0.1)
        (λ first last. branches_scoped r.0.0 first last && is_scoped r.0.1 first last)
        (max (branches_numbers r.0.0) (numbers_in r.0.1))
    choice_within (otherwise term) locals p below =
        let t = core_term out term locals p in
        by_same p.next p t.1 _ _ _ _ _ _ refl refl (omega arith) (term_within term locals p below)
    choice_within (branch test term others) locals p below =
        let s = core_term out test locals p in
        let t = core_term out term locals s.1 in
        let r = core_choice out others locals t.1 in
        by_same p.next p r.1 _ _ _ _ _ _
        (and_assoc (is_lowered s.0 && is_lowered t.0) (branches_lowered r.0.0) (is_lowered r.0.1)
        ∙ and_assoc (is_lowered s.0) (is_lowered t.0)
        (branches_lowered r.0.0 && is_lowered r.0.1))
        (λ i first last.
        (and_assoc (is_scoped s.0 first last && is_scoped t.0 first last)
        (branches_scoped r.0.0 first last) (is_scoped r.0.1 first last)
        ∙ and_assoc (is_scoped s.0 first last) (is_scoped t.0 first last)
        (branches_scoped r.0.0 first last && is_scoped r.0.1 first last)) i)
        (omega arith)
        (both p s.1 r.1 _ _ _ _ _ _ (term_within test locals p below)
        (λ e f. let bs = all_further p.next s.1.next locals f below in
        both s.1 t.1 r.1 _ _ _ _ _ _ (term_within term locals s.1 bs)
        (λ e g. choice_within others locals t.1 (all_further s.1.next t.1.next locals g bs))))

    arms_within : (arms : CoreArms) (locals : Locals) (p : Progress) → AreBelow p.next locals
        → let r = core_arms out arms locals p in
        Within p.next p r.1 (arms_lowered r.0) (arms_in_scope r.0) (arms_numbers r.0)
    arms_within no_arm locals p below = nothing p.next p true
    arms_within (arm_and keys inner rest) locals p below =
        let k = core_terms out keys locals p in
        let b = core_term out inner locals k.1 in
        let r = core_arms out rest locals b.1 in
        by_same p.next p r.1 _ _ _ _ _ _
        (and_assoc (all_ready (map is_lowered k.0)) (is_lowered b.0) (arms_lowered r.0))
        (λ i first last. and_assoc (all_scoped (map is_scoped k.0) first last)
        (is_scoped b.0 first last) (arms_in_scope r.0 first last) i)
        (omega arith)
        (both p k.1 r.1 _ _ _ _ _ _ (terms_within keys locals p below)
        (λ e f. let bk = all_further p.next k.1.next locals f below in
        both k.1 b.1 r.1 _ _ _ _ _ _ (term_within inner locals k.1 bk)
        (λ e g. arms_within rest locals b.1 (all_further k.1.next b.1.next locals g bk))))

    items_within : (is : CoreItems) (locals : Locals) (p : Progress) → AreBelow p.next locals
        → let r = core_items out is locals p in
        Within p.next p r.1 (all_ready (map is_item_lowered r.0))
        (all_scoped (map is_item_scoped r.0)) (greatest (map numbers_in_item r.0))
    items_within no_item locals p below = nothing p.next p true
    items_within (item_and first rest) locals p below =
        let f = core_item out first locals p in
        both p f.1 (core_items out rest f.0.1 f.1).1 _ _ _ _ _ _
        (λ e. (item_within first locals p below e).0)
        (λ e grows. items_within rest f.0.1 f.1 (item_within first locals p below e).1)

    -- an item, and the locals behind it
    item_within : (i : CoreItem) (locals : Locals) (p : Progress) → AreBelow p.next locals
        → let r = core_item out i locals p in
        is_item_lowered r.0.0 ≡ true
        → Facts p.next p r.1 (is_item_scoped r.0.0) (numbers_in_item r.0.0)
        × AreBelow r.1.next r.0.1
    item_within (run term) locals p below e =
        let t = core_term out term locals p in
        let x = by_same p.next p t.1 _ _ _ _ _ _ (folds.lowered_run t.0) (folds.scoped_run t.0)
        (folds.numbers_run t.0) (term_within term locals p below) e in
        (x, all_further p.next t.1.next locals x.grows below)
    item_within (let_values typed rest term) locals p below e =
        let last = p.next + length typed in
        let q = numbered (count rest) (numbered (length typed) p) in
        let t = read_numbered out typed p.next locals q in
        let v = core_term out term locals t.1 in
        let names = map (λ (t : Name × CoreType). t.0) typed in
        let group = bound_some last rest (bound p.next names locals) in
        let same : t.1.next ≡ q.next = numbered_next out typed p.next locals q in
        let f = both_true (are_distinct
        (with_rest (map (λ (n : ℕ × DyType). n.0) t.0) (number_of rest last))) (is_lowered v.0)
        (sym (folds.lowered_let t.0 (number_of rest last) v.0) ∙ e) in
        let far : AreBelow t.1.next locals =
        all_further p.next t.1.next locals (omega (arith, same)) below in
        let x = term_within term locals t.1 far f.1 in
        let own = greatest (map (λ (n : ℕ × DyType). n.0 + 1) t.0) in
        let many : length names ≡ length typed = length-map typed (λ (t : Name × CoreType). t.0) in
        let there : last ≤ v.1.next = omega (arith, same, x.grows) in
        let rest_there : last + count rest ≤ v.1.next = omega (arith, same, x.grows) in (
          record {
            grows = omega (arith, same, x.grows);
            clean = λ w. numbered_clean out typed p.next locals q (x.clean w);
            scoped = λ w first bound low high.
                (λ i. folds.scoped_let t.0 (number_of rest last) v.0 i first bound)
                ∙ and_true _ (is_scoped v.0 first bound)
                (own_rest (numbers out typed p.next locals q) rest last first bound
                (omega (arith, low)) (omega (arith, rest_there, high))
                (own_numbered out typed p.next locals q first bound low
                (omega (arith, there, high))))
                (x.scoped w first bound (omega (arith, low, same)) high);
            counted = omega (
              arith,
              x.counted,
              same,
              rest_counted rest last,
              numbered_counted out typed p.next locals q,
              folds.numbers_let t.0 (number_of rest last) v.0,
            );
          },
          some_below v.1.next last rest (bound p.next names locals) rest_there
              (bound_below v.1.next p.next names locals (omega (arith, many, there))
              (all_further p.next v.1.next locals (omega (arith, there)) below)),
        )
    item_within (let_methods methods) locals p below e =
        let group = methods_bound methods p.next locals in
        let q = numbered (method_count methods) p in
        let m = core_methods out methods p.next group q in
        let around : AreBelow q.next group =
        methods_below q.next p.next methods locals (omega arith)
        (all_further p.next q.next locals (omega arith) below) in
        let found = methods_within methods p.next group q (omega arith) around
        (sym (folds.lowered_methods m.0) ∙ e) in
        let x = found.0 in (
          record {
            grows = omega (arith, x.grows);
            clean = x.clean;
            scoped = λ w first last low high. (λ i. folds.scoped_methods m.0 i first last)
                ∙ x.scoped w first last low high;
            counted = omega (arith, x.counted, found.1, folds.numbers_methods m.0);
          },
          all_further q.next m.1.next group x.grows around,
        )
    item_within (handler condition function) locals p below e =
        untrue (sym (folds.lowered_handler _ _) ∙ e)

    methods_within : (ms : CoreMethods) (n : ℕ) (locals : Locals) (p : Progress)
        → n + method_count ms ≤ p.next → AreBelow p.next locals
        → let r = core_methods out ms n locals p in
        local_methods_lowered r.0 ≡ true
        → Facts n p r.1 (local_methods_scoped r.0) (local_methods_numbers r.0)
        × (n + method_count ms ≤ max n (local_methods_numbers r.0))
    methods_within no_method n locals p room below e =
        (nothing n p true refl, omega arith)
    methods_within (method_and token first rest) n locals p room below e =
        let f = core_lambda out first stands.NoMethod locals p in
        let r = core_methods out rest (n + 1) locals f.1 in
        let h = both_true (is_lambda_lowered f.0) (local_methods_lowered r.0) e in
        let x = (lambda_within first stands.NoMethod locals p tt below h.0).0 in
        let more = methods_within rest (n + 1) locals f.1 (omega (arith, room, x.grows))
        (all_further p.next f.1.next locals x.grows below) h.1 in
        let y = more.0 in (
          record {
            grows = omega (arith, x.grows, y.grows);
            clean = λ w. x.clean (y.clean w);
            scoped = λ w bottom last low high.
                and_true (is_own bottom last n && is_lambda_scoped f.0 bottom last) _
                (and_true (is_own bottom last n) (is_lambda_scoped f.0 bottom last)
                (and_true (nat_le bottom n) (nat_lt n last) (le_true bottom n low)
                (lt_true n last (omega (arith, room, x.grows, y.grows, high))))
                (x.scoped (y.clean w) bottom last (omega (arith, low, room))
                (omega (arith, y.grows, high))))
                (y.scoped w bottom last (omega (arith, low)) high);
            counted = omega (arith, x.counted, y.counted);
          },
          omega (arith, more.1),
        )

    pub lambda_within : (l : CoreLambda) (d : Denotation) (locals : Locals) (p : Progress)
        → Below p.next d → AreBelow p.next locals
        → LambdaWithin p (core_lambda out l d locals p)
    lambda_within (lambda params defaults inner results) d locals p meant below e =
        let keys = key_types out locals (key_list params.keys) in
        let rest = p.next + length params.required in
        let own = numbered (length keys)
        (numbered (count params.rest) (numbered (length params.required) p)) in
        let required = map (λ (r : Token × CoreType). r.1) params.required in
        let t = read_types out required locals own in
        let shape = shape_of params t.0 in
        let r = read_results out results locals none in
        let within = params_bound params d p.next rest locals in
        let k = core_defaults out defaults keys (rest + count params.rest) within t.1 in
        let l = lambda_from inner shape d p.next r k in
        let u = core_term out inner k.0.1 (told_some r.1.first k.1) in
        let kept = is_empty {A = DyType × Bool}
        (map (λ (k : DyType × Term). (k.0, is_lowered k.1)) k.0.0) in
        let lowered : has_no_keywords shape && (kept && is_lowered u.0) ≡ true =
        sym (folds.lambda_lowered_is _) ∙ e in
        let h = both_true (has_no_keywords shape) (kept && is_lowered u.0) lowered in
        let g = both_true kept (is_lowered u.0) h.1 in
        let gone : params.keys ≡ None = keys_gone params.keys params.all_keys h.0 in
        let none_left : keys ≡ [] = ap (λ ks. key_types out locals (key_list ks)) gone in
        let path : k ≡ (([], within), t.1) =
        ap (λ ks. core_defaults out defaults ks (rest + count params.rest) within t.1) none_left
        ∙ no_defaults defaults (rest + count params.rest) within t.1 in
        let same : t.1.next ≡ own.next = types_next out required locals own in
        let many : length t.0 ≡ length params.required =
        types_length out required locals own ∙ length-map params.required (λ r. r.1) in
        let fewer : length keys ≡ 0 = ap length none_left in
        let room : p.next + locals_of shape ≤ t.1.next = omega (
          arith,
          many,
          same,
          rest_same params.rest,
          keyless params.keys params.all_keys h.0,
        ) in
        let body_lowered =
        subst (λ k. is_lowered (core_term out inner k.0.1 (told_some r.1.first k.1)).0 ≡ true)
        path g.1 in
        subst (λ k. LambdaFacts p (lambda_from inner shape d p.next r k)) (sym path)
        (bare_lambda inner shape d p t.1 r within room (omega (arith, same))
        (λ w. types_clean out required locals own w) (λ ls q b. term_within inner ls q b)
        (params_below t.1.next params d p.next rest locals (further p.next t.1.next d (omega (arith, same)) meant)
        (omega (arith, same)) (omega (arith, same))
        (all_further p.next t.1.next locals (omega (arith, same)) below)) body_lowered)

pub terms_in_scope : (out : Outside) → TermsInScope out
terms_in_scope out draft p e w l =
    let read = core_term out draft [] p in
    let x = term_within out draft [] p tt l in
    x.scoped w 0 (numbers_in read.0) (omega arith) (omega (arith, e, x.counted))

pub lambdas_in_scope : (out : Outside) → LambdasInScope out
lambdas_in_scope out draft next locals p e meant below w l =
    let x = lambda_within out draft next locals p (further 0 p.next next (omega arith) meant)
    (all_further 0 p.next locals (omega arith) below) l in
    x.1 w 0 0 (omega (arith, e))
