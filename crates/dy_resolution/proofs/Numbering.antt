-- The locals of a draft have the numbers from one on, each one, in order.
use Rattle.std.proofs.Common.{◌≡◌, ℕ, suc, ◌+◌, Bool, true, false, List, [], ◌∷◌, length, map}
use Rattle.std.proofs.Common.{Option, Some, None, Result, Ok, Err, refl, sym, ap, ◌∙◌, subst, arith}
use Rattle.std.specs.Prelude.{if◌then◌else◌}
use Rattle.std.specs.Option.{option_map, is_some}
use Rattle.std.proofs.lemmas.List.{length-map}
use Rattle.dy_base.specs.Folding.{folded}
use Rattle.dy_base.specs.declared.fault.Fault.{Fault}
use Rattle.dy_base.specs.declared.kind.Kind.TheVariants.{NotAssignable}
use Rattle.dy_base.specs.declared.ids.BindingId.{BindingId}
use Rattle.dy_base.specs.declared.ids.What.{What}
use Rattle.dy_base.specs.declared.ids.What.TheVariants as whats
use Rattle.dy_tree.specs.declared.token.Token.{Token}
use Rattle.dy_term.specs.declared.types.DyType.{DyType}
use Rattle.dy_term.specs.declared.draft.Local.TheVariants.{Named, Hidden}
use Rattle.dy_term.specs.declared.term.Term.{Term}
use Rattle.dy_term.specs.declared.term.Lambda.{Lambda}
use Rattle.dy_term.specs.declared.term.Limit.{Limit}
use Rattle.dy_term.specs.Types.{CoreType, CoreKey}
use Rattle.dy_term.specs.Drafts.{Core, literal, name, hidden, set, no_place, call, values, cond}
use Rattle.dy_term.specs.Drafts.{and, or, select, body, loop, for, method, block, Cores, no_core}
use Rattle.dy_term.specs.Drafts.{core_and, MaybeCore, nothing, just, Choice, otherwise, branch}
use Rattle.dy_term.specs.Drafts.{CoreArms, no_arm, arm_and, CoreItems, no_item, item_and, CoreItem}
use Rattle.dy_term.specs.Drafts.{run, let_values, let_methods, handler, CoreMethods, no_method}
use Rattle.dy_term.specs.Drafts.{method_and, CoreLambda, lambda, CoreClauses, no_clause, clause_and}
use Rattle.dy_term.specs.Drafts.{CoreClause, then_clause, in_clause, from_clause, CoreLimit}
use Rattle.dy_term.specs.Drafts.{no_limit, a_limit, CoreTest, no_test, a_test, CoreCatches}
use Rattle.dy_term.specs.Drafts.{no_catch, catch_and}
use Rattle.dy_names.specs.declared.denotation.Denotation.{Denotation}
use Rattle.dy_names.specs.declared.denotation.Denotation.TheVariants as stands
use Rattle.dy_names.specs.declared.denotation.Meaning.{Meaning}
use Rattle.dy_names.specs.declared.denotation.Meaning.TheVariants.{InForce, Owned, Unbound}
use Rattle.dy_names.specs.Naming.{Locals, innermost, means}
use Rattle.dy_names.specs.Outside.{Outside}
use Rattle.dy_binding.specs.declared.progress.Progress.{Progress}
use Rattle.dy_binding.specs.declared.progress.Apart.{Apart}
use Rattle.dy_binding.specs.declared.names.Head.{Head}
use Rattle.dy_binding.specs.declared.names.Head.TheVariants as heads
use Rattle.dy_binding.specs.Faults.{fault_at}
use Rattle.dy_binding.specs.Reads.{Reads, none, numbered, told, told_some}
use Rattle.dy_binding.specs.Bound.{bound_some, params_bound, count, methods_bound, method_count}
use Rattle.dy_binding.specs.Bound.{clause_count, variables_bound, kept_bound, catches_numbered}
use Rattle.dy_binding.specs.Names.{denoted, owned, named, placed, assigned, is_variable}
use Rattle.dy_binding.specs.Names.{hidden_term, head_of, called}
use Rattle.dy_binding.specs.Types.{told_of, read_type, read_types, read_numbered, read_results}
use Rattle.dy_binding.specs.Types.{key_types, key_list, shape_of}
use Rattle.dy_resolution.specs.Terms.{core_term, core_terms, core_maybe, core_choice, core_arms}
use Rattle.dy_resolution.specs.Terms.{core_items, core_item, core_methods, core_lambda}
use Rattle.dy_resolution.specs.Terms.{core_defaults, core_firsts, core_first, core_limit}
use Rattle.dy_resolution.specs.Terms.{core_clauses, core_clause, core_test, core_catches, fresh}
use Rattle.dy_resolution.specs.Numbers.{Uses, ClauseUses, no_uses, both, all, some_uses}
use Rattle.dy_resolution.specs.Numbers.{all_branches, all_arms, all_behind, some_behind}
use Rattle.dy_resolution.specs.Numbers.{all_catches, catch_numbers, width, rest_count, key_count}
use Rattle.dy_resolution.specs.Numbers.{uses_of_term, uses_of_item, uses_of_clause, uses_of_lambda}
use Rattle.dy_resolution.specs.Numbers.{IsRun, AreNumbered, IsNumberedLambda}
use Rattle.dy_resolution.proofs.Counted.{Counted, run_append, counted_none, counted_both}
use Rattle.dy_resolution.proofs.Counted.{counted_binds, counted_framed, counted_from, counted_to}
use Rattle.dy_resolution.proofs.Counted.{counted_same, both_assoc, both_none, rest_run, from_run}
use Rattle.dy_resolution.proofs.Uses.{block_row_used, for_row_used, lambda_used, uses_lit}
use Rattle.dy_resolution.proofs.Uses.{uses_local, uses_global, uses_class, uses_generic}
use Rattle.dy_resolution.proofs.Uses.{uses_set_local, uses_set_global, uses_call, uses_site}
use Rattle.dy_resolution.proofs.Uses.{uses_cond, uses_and, uses_or, uses_select, uses_body}
use Rattle.dy_resolution.proofs.Uses.{uses_loop, uses_for, uses_method, uses_block, uses_op}
use Rattle.dy_resolution.proofs.Uses.{uses_next, uses_run, uses_let, uses_methods, uses_handler}
use Rattle.dy_resolution.proofs.Uses.{uses_then, uses_in, uses_from}

-- types and faults take no numbers
pub told_next : (f : Option Fault) (p : Progress) → (told_some f p).next ≡ p.next
told_next None p = refl
told_next (Some f) p = refl

pub type_next : (t : Result DyType Fault) (p : Progress) → (told_of t p).next ≡ p.next
type_next (Ok t) p = refl
type_next (Err f) p = refl

module _ (out : Outside) where
  types_next : (ts : List CoreType) (locals : Locals) (p : Progress)
      → (read_types out ts locals p).1.next ≡ p.next
  types_next [] locals p = refl
  types_next (t ∷ ts) locals p =
      types_next ts locals (read_type out t locals p).1 ∙ type_next (out.type locals t) p

  types_length : (ts : List CoreType) (locals : Locals) (p : Progress)
      → length (read_types out ts locals p).0 ≡ length ts
  types_length [] locals p = refl
  types_length (t ∷ ts) locals p = ap suc (types_length ts locals (read_type out t locals p).1)

  numbered_next : {A : Type 0} (ts : List (A × CoreType)) (n : ℕ) (locals : Locals) (p : Progress)
      → (read_numbered out ts n locals p).1.next ≡ p.next
  numbered_next [] n locals p = refl
  numbered_next (t ∷ ts) n locals p =
      numbered_next ts (n + 1) locals (read_type out t.1 locals p).1 ∙ type_next
      (out.type locals t.1) p

  numbered_run : {A : Type 0} (ts : List (A × CoreType)) (n : ℕ) (locals : Locals) (p : Progress)
      → IsRun n (n + length ts) (map (λ (t : ℕ × DyType). t.0) (read_numbered out ts n locals p).0)
  numbered_run [] n locals p = omega arith
  numbered_run (t ∷ ts) n locals p = (
    refl,
    subst (λ m. IsRun (n + 1) m
        (map (λ (t : ℕ × DyType). t.0)
        (read_numbered out ts (n + 1) locals (read_type out t.1 locals p).1).0)) (omega arith)
        (numbered_run ts (n + 1) locals (read_type out t.1 locals p).1),
  )

-- names bind nothing
denoted_none : (d : Denotation) → uses_of_term (denoted d) ≡ no_uses
denoted_none (stands.Local k) = uses_local k
denoted_none stands.NextMethod = uses_next None
denoted_none stands.NoMethod = uses_lit _

owned_good : (token : Token) (b : BindingId) (w : What) (p : Progress)
    → Counted p.next (owned token b w p).1.next (uses_of_term (owned token b w p).0)
owned_good token b whats.Class p = rw uses_class (counted_none p.next)
owned_good token b whats.Generic p = rw uses_generic (counted_none p.next)
owned_good token b whats.Variable p = rw uses_global (counted_none p.next)
owned_good token b whats.Constant p = rw uses_global (counted_none p.next)
owned_good token b whats.Function p = rw uses_global (counted_none p.next)
owned_good token b whats.Macro p = rw uses_lit (counted_none p.next)

named_good : (token : Token) (m : Meaning) (p : Progress)
    → Counted p.next (named token m p).1.next (uses_of_term (named token m p).0)
named_good token (InForce d) p =
    counted_same p.next p.next no_uses _ (denoted_none d) (counted_none p.next)
named_good token (Owned b) p = owned_good token b b.what p
named_good token Unbound p = rw uses_lit (counted_none p.next)

hidden_good : (d : Option Denotation) (p : Progress)
    → Counted p.next p.next (uses_of_term (hidden_term d))
hidden_good None p = rw uses_lit (counted_none p.next)
hidden_good (Some d) p = counted_same p.next p.next no_uses _ (denoted_none d) (counted_none p.next)

-- an assignment binds what its value does
assigned_same : (m : Meaning) (t : Term) → uses_of_term (assigned m t) ≡ uses_of_term t
assigned_same (InForce (stands.Local k)) t = uses_set_local k t
assigned_same (InForce stands.NextMethod) t = refl
assigned_same (InForce stands.NoMethod) t = refl
assigned_same (Owned b) t = uses_set_global b t
assigned_same Unbound t = refl

placed_owned : (token : Token) (b : BindingId) (v : Bool) (p : Progress)
    → (if v then p else told (fault_at NotAssignable token (token.text ∷ [])) p).next ≡ p.next
placed_owned token b true p = refl
placed_owned token b false p = refl

placed_next : (token : Token) (m : Meaning) (p : Progress) → (placed token m p).next ≡ p.next
placed_next token (InForce (stands.Local k)) p = refl
placed_next token (InForce stands.NextMethod) p = refl
placed_next token (InForce stands.NoMethod) p = refl
placed_next token (Owned b) p = placed_owned token b (is_variable b.what) p
placed_next token Unbound p = refl

-- what is read, from any number on
abbrev Good : Reads Term → Type 0
Good reads = (locals : Locals) (p : Progress)
    → Counted p.next (reads locals p).1.next (uses_of_term (reads locals p).0)

abbrev GoodList : Reads (List Term) → Type 0
GoodList reads = (locals : Locals) (p : Progress)
    → Counted p.next (reads locals p).1.next (all (map uses_of_term (reads locals p).0))

called_good : (h : Head) (f : Reads Term) (a : Reads (List Term)) → Good f → GoodList a
    → Good (called h f a)
called_good (heads.Generic g) f a fg ag locals p = rw uses_site (ag locals p)
called_good heads.NextMethod f a fg ag locals p = rw uses_next (ag locals p)
called_good heads.Value f a fg ag locals p =
    rw uses_call (counted_both p.next (f locals p).1.next _ _ _ (fg locals p)
    (ag locals (f locals p).1))

-- the uses of the first expressions of a clause
abbrev apart_uses : Apart → Uses
apart_uses a = both (uses_of_term a.first)
    (both (some_behind (option_map {U = Limit × Uses}
    (λ (x : Limit × Term). (x.0, uses_of_term x.1)) a.limit))
    (some_uses (option_map uses_of_term a.step)))

-- they are those of a clause of this kind
abbrev Fits : CoreClause → Apart → Type 0
Fits (then_clause variable declared first next) a = (a.limit ≡ None) × (a.step ≡ None)
Fits (in_clause variable declared collection) a = (a.limit ≡ None) × (a.step ≡ None)
Fits (from_clause variable declared start limit step) a = Unit {0}

abbrev AllFit : CoreClauses → List Apart → Type 0
AllFit no_clause [] = Unit {0}
AllFit no_clause (a ∷ others) = ⊥
AllFit (clause_and clause rest) [] = ⊥
AllFit (clause_and clause rest) (a ∷ others) = Fits clause a × AllFit rest others

-- without a limit and a step
alone : (a : Apart) → a.limit ≡ None → a.step ≡ None → uses_of_term a.first ≡ apart_uses a
alone a l s =
    sym ((λ i. both (uses_of_term a.first)
    (both (some_behind (option_map {U = Limit × Uses}
    (λ (x : Limit × Term). (x.0, uses_of_term x.1)) (l i)))
    (some_uses (option_map uses_of_term (s i))))) ∙ both_none (uses_of_term a.first))

rest_same : (o : Option Token) → rest_count (is_some o) ≡ count o
rest_same None = refl
rest_same (Some t) = refl

keys_same : (out : Outside) (f : CoreKey → List ℕ) (keys : Option (List CoreKey)) (locals : Locals)
    → key_count (option_map (λ ks. map f ks) keys) ≡ length (key_types out locals (key_list keys))
keys_same out f None locals = refl
keys_same out f (Some keys) locals =
    length-map keys f ∙ sym (length-map keys (λ k. (k.variable, out.type locals k.declared)))

module _ (out : Outside) where
  mutual
    term_good : (d : Core) (locals : Locals) (p : Progress)
        → Counted p.next (core_term out d locals p).1.next
        (uses_of_term (core_term out d locals p).0)
    term_good (literal value) locals p = rw uses_lit (counted_none p.next)
    term_good (name token) locals p = named_good token (means out.owner locals token) p
    term_good (hidden number) locals p = hidden_good (innermost locals (Hidden number)) p
    term_good (set token value) locals p =
        let meaning = means out.owner locals token in
        let q = placed token meaning p in
        counted_same p.next _ _ _ (assigned_same meaning (core_term out value locals q).0)
        (counted_from p.next q.next _ _ (placed_next token meaning p)
        (term_good value locals q))
    term_good (no_place token place value) locals p =
        let q = told (fault_at NotAssignable token []) p in
        rw uses_and (counted_both p.next (core_term out place locals q).1.next _ _ _
        (term_good place locals q) (term_good value locals (core_term out place locals q).1))
    term_good (call function arguments) locals p =
        called_good (head_of out function locals) (core_term out function)
        (core_terms out arguments) (λ ls q. term_good function ls q)
        (λ ls q. terms_good arguments ls q) locals p
    term_good (values terms) locals p = rw uses_op (terms_good terms locals p)
    term_good (cond choice) locals p = rw uses_cond (choice_good choice locals p)
    term_good (and left right) locals p =
        rw uses_and (counted_both p.next (core_term out left locals p).1.next _ _ _
        (term_good left locals p) (term_good right locals (core_term out left locals p).1))
    term_good (or left right) locals p =
        rw uses_or (counted_both p.next (core_term out left locals p).1.next _ _ _
        (term_good left locals p) (term_good right locals (core_term out left locals p).1))
    term_good (select value test arms last) locals p =
        let v = core_term out value locals p in
        let t = core_maybe out test locals v.1 in
        let a = core_arms out arms locals t.1 in
        rw uses_select (counted_both p.next v.1.next _ _ _ (term_good value locals p)
        (counted_both v.1.next t.1.next _ _ _ (maybe_good test locals v.1)
        (counted_both t.1.next a.1.next _ _ _ (arms_good arms locals t.1)
        (maybe_good last locals a.1))))
    term_good (body items) locals p = rw uses_body (items_good items locals p)
    term_good (loop test inner) locals p =
        rw uses_loop (counted_both p.next (core_term out test locals p).1.next _ _ _
        (term_good test locals p) (term_good inner locals (core_term out test locals p).1))
    term_good (for clauses test inner finally) locals p =
        let start = p.next + clause_count clauses in
        let f = core_firsts out clauses locals start in
        let within = variables_bound clauses p.next locals in
        let q : Progress = record p { next = f.1 } in
        let c = core_clauses out clauses f.0 p.next within q in
        let t = core_test out test within c.1 in
        let b = core_term out inner within t.1 in
        let fg = firsts_good clauses locals start in
        let cg = clauses_good clauses f.0 (firsts_fit clauses locals start) p.next within q in
        rw (uses_for, for_row_used) (rw cg.2
        (counted_both p.next start _ _ _ (counted_binds _ _ _ cg.1)
        (counted_both start f.1 _ _ _ fg (counted_both f.1 c.1.next _ _ _ cg.0
        (counted_both c.1.next t.1.next _ _ _ (test_good test within c.1)
        (counted_both t.1.next b.1.next _ _ _ (term_good inner within t.1)
        (maybe_good finally (kept_bound clauses p.next locals) b.1)))))))
    term_good (method row) locals p = rw uses_method (lambda_good row stands.NoMethod locals p)
    term_good (block exit inner afterwards cleanup clauses) locals p =
        let within = bound_some p.next (option_map Named exit) locals in
        let first = p.next + count exit in
        let q = numbered (count exit) p in
        let r = catches_numbered clauses q in
        let b = core_term out inner within r in
        let a = core_maybe out afterwards within b.1 in
        let c = core_maybe out cleanup within a.1 in
        let eg = catches_good clauses first within c.1 in
        rw (uses_block, block_row_used)
        (counted_both p.next r.next _ _ _
        (counted_binds _ _ _ (run_append p.next first r.next _ _ (rest_run exit p.next)
        (eg.1 q refl)))
        (counted_both r.next b.1.next _ _ _ (term_good inner within r)
        (counted_both b.1.next a.1.next _ _ _ (maybe_good afterwards within b.1)
        (counted_both a.1.next c.1.next _ _ _ (maybe_good cleanup within a.1) eg.0))))

    terms_good : (ds : Cores) (locals : Locals) (p : Progress)
        → Counted p.next (core_terms out ds locals p).1.next
        (all (map uses_of_term (core_terms out ds locals p).0))
    terms_good no_core locals p = counted_none p.next
    terms_good (core_and first rest) locals p =
        counted_both p.next (core_term out first locals p).1.next _ _ _ (term_good first locals p)
        (terms_good rest locals (core_term out first locals p).1)

    maybe_good : (d : MaybeCore) (locals : Locals) (p : Progress)
        → Counted p.next (core_maybe out d locals p).1.next
        (some_uses (option_map uses_of_term (core_maybe out d locals p).0))
    maybe_good nothing locals p = counted_none p.next
    maybe_good (just term) locals p = term_good term locals p

    choice_good : (c : Choice) (locals : Locals) (p : Progress) →
        (let r = core_choice out c locals p in Counted p.next r.1.next
        (both (all_branches (map {B = Uses × Uses}
        (λ (b : Term × Term). (uses_of_term b.0, uses_of_term b.1)) r.0.0))
        (uses_of_term r.0.1)))
    choice_good (otherwise term) locals p = term_good term locals p
    choice_good (branch test term others) locals p =
        let s = core_term out test locals p in
        let t = core_term out term locals s.1 in
        let r = core_choice out others locals t.1 in
        let bs = all_branches (map {B = Uses × Uses}
        (λ (b : Term × Term). (uses_of_term b.0, uses_of_term b.1)) r.0.0) in
        counted_same p.next r.1.next _ _
        (both_assoc (uses_of_term s.0) (both (uses_of_term t.0) bs) (uses_of_term r.0.1) ∙ ap
        (both (uses_of_term s.0)) (both_assoc (uses_of_term t.0) bs (uses_of_term r.0.1)))
        (counted_both p.next s.1.next _ _ _ (term_good test locals p)
        (counted_both s.1.next t.1.next _ _ _ (term_good term locals s.1)
        (choice_good others locals t.1)))

    arms_good : (as1 : CoreArms) (locals : Locals) (p : Progress) →
        (let r = core_arms out as1 locals p in Counted p.next r.1.next
        (all_arms (map {B = List Uses × Uses}
        (λ (a : List Term × Term). (map uses_of_term a.0, uses_of_term a.1)) r.0)))
    arms_good no_arm locals p = counted_none p.next
    arms_good (arm_and keys inner rest) locals p =
        let k = core_terms out keys locals p in
        let b = core_term out inner locals k.1 in
        counted_both p.next k.1.next _ _ _ (terms_good keys locals p)
        (counted_both k.1.next b.1.next _ _ _ (term_good inner locals k.1)
        (arms_good rest locals b.1))

    items_good : (is : CoreItems) (locals : Locals) (p : Progress)
        → Counted p.next (core_items out is locals p).1.next
        (all (map uses_of_item (core_items out is locals p).0))
    items_good no_item locals p = counted_none p.next
    items_good (item_and first rest) locals p =
        let f = core_item out first locals p in
        counted_both p.next f.1.next _ _ _ (item_good first locals p) (items_good rest f.0.1 f.1)

    item_good : (i : CoreItem) (locals : Locals) (p : Progress)
        → Counted p.next (core_item out i locals p).1.next
        (uses_of_item (core_item out i locals p).0.0)
    item_good (run term) locals p = rw uses_run (term_good term locals p)
    item_good (let_values typed rest term) locals p =
        let last = p.next + length typed in
        let q = numbered (count rest) (numbered (length typed) p) in
        let t = read_numbered out typed p.next locals q in
        rw uses_let (counted_both p.next q.next _ _ _
        (counted_binds _ _ _ (run_append p.next last q.next _ _
        (numbered_run out typed p.next locals q) (rest_run rest last)))
        (counted_from q.next t.1.next _ _ (numbered_next out typed p.next locals q)
        (term_good term locals t.1)))
    item_good (let_methods methods) locals p =
        let group = methods_bound methods p.next locals in
        let q = numbered (method_count methods) p in
        let g = methods_good methods p.next group q in
        rw uses_methods (counted_both p.next q.next _ _ _ (counted_binds _ _ _ g.1) g.0)
    item_good (handler condition function) locals p =
        let c = read_type out condition locals p in
        rw uses_handler (counted_from p.next c.1.next _ _ (type_next (out.type locals condition) p)
        (term_good function locals c.1))

    methods_good : (ms : CoreMethods) (n : ℕ) (locals : Locals) (p : Progress) →
        (let r = core_methods out ms n locals p in let us =
        map {B = ℕ × Uses} (λ (m : ℕ × Lambda). (m.0, uses_of_lambda m.1)) r.0 in Counted p.next
        r.1.next (all_behind us) × IsRun n (n + method_count ms)
        (map (λ (m : ℕ × Uses). m.0) us))
    methods_good no_method n locals p = (counted_none p.next, omega arith)
    methods_good (method_and token first rest) n locals p =
        let f = core_lambda out first stands.NoMethod locals p in
        let more = methods_good rest (n + 1) locals f.1 in
        let us = map {B = ℕ × Uses} (λ (m : ℕ × Lambda). (m.0, uses_of_lambda m.1))
        (core_methods out rest (n + 1) locals f.1).0 in (
          counted_both p.next f.1.next _ _ _ (lambda_good first stands.NoMethod locals p) more.0,
          (
            refl,
            subst (λ m. IsRun (n + 1) m (map (λ (m : ℕ × Uses). m.0) us))
                (omega arith) more.1,
          ),
        )

    lambda_good : (l : CoreLambda) (d : Denotation) (locals : Locals) (p : Progress)
        → Counted p.next (core_lambda out l d locals p).1.next
        (uses_of_lambda (core_lambda out l d locals p).0)
    lambda_good (lambda params defaults inner results) d locals p =
        let keys = key_types out locals (key_list params.keys) in
        let rest = p.next + length params.required in
        let own = numbered (length keys)
        (numbered (count params.rest) (numbered (length params.required) p)) in
        let t = read_types out (map (λ r. r.1) params.required) locals own in
        let r = read_results out results locals none in
        let k = core_defaults out defaults keys (rest + count params.rest)
        (params_bound params d p.next rest locals) t.1 in
        let q = told_some r.1.first k.1 in
        let b = core_term out inner k.0.1 q in
        let many : length t.0 ≡ length params.required =
        types_length out (map (λ r. r.1) params.required) locals own ∙ length-map
        params.required (λ r. r.1) in
        let wide : p.next + width (shape_of params t.0) ≡ own.next =
        omega (
          arith,
          many,
          rest_same params.rest,
          keys_same out
              (λ k. folded k.keyword.text) params.keys locals,
        ) in
        rw lambda_used (counted_framed p.next b.1.next _ (counted_both p.next own.next _ _ _
        (counted_to p.next (p.next + width (shape_of params t.0)) own.next _ wide
        (counted_binds _ _ _ (from_run p.next (width (shape_of params t.0)))))
        (counted_both own.next k.1.next _ _ _
        (counted_from own.next t.1.next _ _
        (types_next out (map (λ r. r.1) params.required) locals own)
        (defaults_good defaults keys (rest + count params.rest)
        (params_bound params d p.next rest locals) t.1))
        (counted_from k.1.next q.next _ _ (told_next r.1.first k.1) (term_good inner k.0.1 q)))))

    defaults_good : (ds : Cores) (keys : List (Token × Result DyType Fault)) (n : ℕ)
        (locals : Locals) (p : Progress) →
        (let r = core_defaults out ds keys n locals p in Counted p.next r.1.next
        (all_behind (map {B = DyType × Uses}
        (λ (k : DyType × Term). (k.0, uses_of_term k.1)) r.0.0)))
    defaults_good no_core keys n locals p = counted_none p.next
    defaults_good (core_and default rest) [] n locals p = counted_none p.next
    defaults_good (core_and default rest) (key ∷ keys) n locals p =
        let q = told_of key.1 p in
        let d = core_term out default locals q in
        counted_both p.next d.1.next _ _ _
        (counted_from p.next q.next _ _ (type_next key.1 p) (term_good default locals q))
        (defaults_good rest keys (n + 1) ((Named key.0, stands.Local n) ∷ locals) d.1)

    firsts_good : (cs : CoreClauses) (locals : Locals) (n : ℕ)
        → (let r = core_firsts out cs locals n in Counted n r.1 (all (map apart_uses r.0)))
    firsts_good no_clause locals n = counted_none n
    firsts_good (clause_and first rest) locals n =
        let f = core_first out first locals (fresh n) in
        counted_both n f.1.next _ _ _ (first_good first locals (fresh n))
        (firsts_good rest locals f.1.next)

    first_good : (c : CoreClause) (locals : Locals) (p : Progress)
        → (let r = core_first out c locals p in Counted p.next r.1.next (apart_uses r.0))
    first_good (then_clause variable declared first next) locals p =
        let t = read_type out declared locals p in
        counted_same p.next _ _ _ (both_none (uses_of_term (core_term out first locals t.1).0))
        (counted_from p.next t.1.next _ _ (type_next (out.type locals declared) p)
        (term_good first locals t.1))
    first_good (in_clause variable declared collection) locals p =
        let t = read_type out declared locals p in
        counted_same p.next _ _ _ (both_none (uses_of_term (core_term out collection locals t.1).0))
        (counted_from p.next t.1.next _ _ (type_next (out.type locals declared) p)
        (term_good collection locals t.1))
    first_good (from_clause variable declared start limit step) locals p =
        let t = read_type out declared locals p in
        let f = core_term out start locals t.1 in
        let l = core_limit out limit locals f.1 in
        counted_from p.next t.1.next _ _ (type_next (out.type locals declared) p)
        (counted_both t.1.next f.1.next _ _ _ (term_good start locals t.1)
        (counted_both f.1.next l.1.next _ _ _ (limit_good limit locals f.1)
        (maybe_good step locals l.1)))

    limit_good : (l : CoreLimit) (locals : Locals) (p : Progress) →
        (let r = core_limit out l locals p in Counted p.next r.1.next
        (some_behind (option_map {U = Limit × Uses}
        (λ (x : Limit × Term). (x.0, uses_of_term x.1)) r.0)))
    limit_good no_limit locals p = counted_none p.next
    limit_good (a_limit limit inner) locals p = term_good inner locals p

    clauses_good : (cs : CoreClauses) (fs : List Apart) → AllFit cs fs
        → (n : ℕ) (locals : Locals) (p : Progress) →
        (let r = core_clauses out cs fs n locals p in let us = map uses_of_clause r.0 in
        Counted p.next r.1.next (all (map (λ (c : ClauseUses). c.2) us))
        × IsRun n (n + clause_count cs) (map (λ (c : ClauseUses). c.0) us)
        × (map (λ (c : ClauseUses). c.1) us ≡ map apart_uses fs))
    clauses_good no_clause [] fit n locals p = (counted_none p.next, omega arith, refl)
    clauses_good no_clause (f ∷ fs) fit n locals p = absurd fit
    clauses_good (clause_and first rest) [] fit n locals p = absurd fit
    clauses_good (clause_and first rest) (f ∷ fs) fit n locals p =
        let g = clause_good first f fit.0 n locals p in
        let c = core_clause out first f n locals p in
        let more = clauses_good rest fs fit.1 (n + 1) locals c.1 in
        let us = map uses_of_clause (core_clauses out rest fs (n + 1) locals c.1).0 in (
          counted_both p.next c.1.next _ _ _ g.0 more.0,
          (
            g.1,
            subst (λ m. IsRun (n + 1) m (map (λ (c : ClauseUses). c.0) us))
                (omega arith) more.1,
          ),
          λ i. g.2 i ∷ more.2 i,
        )

    clause_good : (c : CoreClause) (a : Apart) → Fits c a
        → (n : ℕ) (locals : Locals) (p : Progress) →
        (let r = core_clause out c a n locals p in let u =
        uses_of_clause r.0 in Counted p.next r.1.next u.2 × (u.0 ≡ n) × (u.1 ≡ apart_uses a))
    clause_good (then_clause variable declared first next) a fit n locals p =
        let q = told_some a.fault p in
        rw uses_then (
          counted_from p.next q.next _ _ (told_next a.fault p)
              (term_good next locals q),
          refl,
          alone a fit.0 fit.1,
        )
    clause_good (in_clause variable declared collection) a fit n locals p =
        let q = told_some a.fault p in
        rw uses_in (
          counted_from p.next q.next _ _ (told_next a.fault p)
              (counted_none q.next),
          refl,
          alone a fit.0 fit.1,
        )
    clause_good (from_clause variable declared start limit step) a fit n locals p =
        let q = told_some a.fault p in
        rw uses_from (
          counted_from p.next q.next _ _ (told_next a.fault p)
              (counted_none q.next),
          refl,
          refl,
        )

    test_good : (t : CoreTest) (locals : Locals) (p : Progress) →
        (let r = core_test out t locals p in Counted p.next r.1.next
        (some_behind (option_map {U = Bool × Uses}
        (λ (x : Bool × Term). (x.0, uses_of_term x.1)) r.0)))
    test_good no_test locals p = counted_none p.next
    test_good (a_test ends test) locals p = term_good test locals p

    catches_good : (cs : CoreCatches) (n : ℕ) (locals : Locals) (p : Progress) →
        (let r = core_catches out cs n locals p in let us =
        map {B = Option ℕ × DyType × Uses}
        (λ (c : Option ℕ × DyType × Term). (c.0, c.1, uses_of_term c.2)) r.0 in
        Counted p.next r.1.next (all_catches us)
        × ((q : Progress) → q.next ≡ n
        → IsRun n (catches_numbered cs q).next (catch_numbers us)))
    catches_good no_catch n locals p = (counted_none p.next, λ q e. sym e)
    catches_good (catch_and variable condition inner rest) n locals p =
        let c = read_type out condition locals p in
        let b = core_term out inner (bound_some n (option_map Named variable) locals) c.1 in
        let more = catches_good rest (n + count variable) locals b.1 in (
          counted_both p.next b.1.next _ _ _
              (counted_from p.next c.1.next _ _ (type_next (out.type locals condition) p)
              (term_good inner (bound_some n (option_map Named variable) locals) c.1)) more.0,
          λ q e. run_append n (n + count variable) _ _ _ (rest_run variable n)
              (more.1 (numbered (count variable) q) (ap (λ k. k + count variable) e)),
        )

    firsts_fit : (cs : CoreClauses) (locals : Locals) (n : ℕ)
        → AllFit cs (core_firsts out cs locals n).0
    firsts_fit no_clause locals n = tt
    firsts_fit (clause_and first rest) locals n = (
      first_fits first locals (fresh n)
          (core_first out first locals (fresh n)).1.first,
      firsts_fit rest locals
          (core_first out first locals (fresh n)).1.next,
    )

    first_fits : (c : CoreClause) (locals : Locals) (p : Progress) (fault : Option Fault)
        → Fits c (record (core_first out c locals p).0 { fault = fault })
    first_fits (then_clause variable declared first next) locals p fault = (refl, refl)
    first_fits (in_clause variable declared collection) locals p fault = (refl, refl)
    first_fits (from_clause variable declared start limit step) locals p fault = tt

pub numbered_term : (out : Outside) (draft : Core) → AreNumbered out draft
numbered_term out draft = let c = term_good out draft [] none in (c.run, c.frames)

pub numbered_lambda : (out : Outside) (draft : CoreLambda) (denotation : Denotation)
    (locals : Locals) → IsNumberedLambda out draft denotation locals
numbered_lambda out draft denotation locals = let c =
    lambda_good out draft denotation locals none in (c.run, c.frames)
