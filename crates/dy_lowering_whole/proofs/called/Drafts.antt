-- What is read of a draft calls generic functions that are there, where each name of one is of one
-- that is there: by induction over drafts.
use Rattle.std.proofs.Common.{◌≡◌, ℕ, ◌+◌, Bool, List, [], ◌∷◌, length, map, Option, Some, None, Result, refl, sym, ap, ◌∙◌, subst}
use Rattle.std.specs.Prelude.{IsSome}
use Rattle.std.specs.Option.{option_map}
use Rattle.dy_base.specs.declared.fault.Fault.{Fault}
use Rattle.dy_base.specs.declared.kind.Kind.TheVariants.{NotAssignable}
use Rattle.dy_base.specs.declared.ids.BindingId.{BindingId}
use Rattle.dy_base.specs.declared.ids.What.{What}
use Rattle.dy_base.specs.declared.ids.What.TheVariants as whats
use Rattle.dy_tree.specs.declared.token.Token.{Token}
use Rattle.dy_term.specs.declared.types.DyType.{DyType}
use Rattle.dy_term.specs.declared.draft.Local.{Local as Name}
use Rattle.dy_term.specs.declared.draft.Local.TheVariants.{Named, Hidden}
use Rattle.dy_term.specs.declared.term.ForClause.{ForClause}
use Rattle.dy_term.specs.declared.term.Item.{Item}
use Rattle.dy_term.specs.declared.term.Term.{Term}
use Rattle.dy_term.specs.declared.term.BlockRow.{BlockRow}
use Rattle.dy_term.specs.declared.term.ForRow.{ForRow}
use Rattle.dy_term.specs.declared.term.Lambda.{Lambda, Lambda-F}
use Rattle.dy_term.specs.Types.{CoreType}
use Rattle.dy_term.specs.Drafts.{Core, literal, name, hidden, set, no_place, call, values, cond}
use Rattle.dy_term.specs.Drafts.{and, or, select, body, loop, for, method, block, Cores, no_core}
use Rattle.dy_term.specs.Drafts.{core_and, MaybeCore, nothing, just, Choice, otherwise, branch}
use Rattle.dy_term.specs.Drafts.{CoreArms, no_arm, arm_and, CoreItems, no_item, item_and, CoreItem}
use Rattle.dy_term.specs.Drafts.{run, let_values, let_methods, handler, CoreMethods, no_method}
use Rattle.dy_term.specs.Drafts.{method_and, CoreLambda, lambda, CoreClauses, no_clause, clause_and}
use Rattle.dy_term.specs.Drafts.{CoreClause, then_clause, in_clause, from_clause, CoreLimit}
use Rattle.dy_term.specs.Drafts.{no_limit, a_limit, CoreTest, no_test, a_test, CoreCatches}
use Rattle.dy_term.specs.Drafts.{no_catch, catch_and}
use Rattle.dy_names.specs.declared.denotation.Denotation.{Denotation}
use Rattle.dy_names.specs.declared.denotation.Denotation.TheVariants as stands
use Rattle.dy_names.specs.declared.denotation.Meaning.{Meaning}
use Rattle.dy_names.specs.declared.denotation.Meaning.TheVariants.{InForce, Owned, Unbound}
use Rattle.dy_names.specs.Naming.{Locals, innermost, in_force_or, means}
use Rattle.dy_names.specs.Outside.{Outside}
use Rattle.dy_binding.specs.declared.progress.Progress.{Progress}
use Rattle.dy_binding.specs.declared.progress.Apart.{Apart}
use Rattle.dy_binding.specs.declared.names.Head.{Head}
use Rattle.dy_binding.specs.declared.names.Head.TheVariants as heads
use Rattle.dy_binding.specs.Faults.{fault_at}
use Rattle.dy_binding.specs.Reads.{Reads, none, numbered, told, told_some}
use Rattle.dy_binding.specs.Bound.{bound_some, params_bound, count, number_of, methods_bound}
use Rattle.dy_binding.specs.Bound.{method_count, clause_count, variables_bound, kept_bound}
use Rattle.dy_binding.specs.Bound.{catches_numbered}
use Rattle.dy_binding.specs.Names.{denoted, owned, named, placed, assigned, hidden_term, head_owned}
use Rattle.dy_binding.specs.Names.{head_meant, head_of, called, is_next}
use Rattle.dy_binding.specs.Types.{type_or, told_of, read_type, read_types, read_numbered}
use Rattle.dy_binding.specs.Types.{read_results, key_types, key_list, shape_of}
use Rattle.dy_resolution.specs.Terms.{core_term, core_terms, core_maybe, core_choice, core_arms}
use Rattle.dy_resolution.specs.Terms.{core_items, core_item, core_methods, core_lambda}
use Rattle.dy_resolution.specs.Terms.{core_defaults, core_firsts, core_first, core_limit}
use Rattle.dy_resolution.specs.Terms.{core_clauses, core_clause, core_test, core_catches, fresh}
use Rattle.dy_code.specs.declared.unit.Linked.{Linked}
use Rattle.dy_code.specs.Programs.{generic_row}
use Rattle.dy_code.specs.Validity.{Every}
use Rattle.dy_lowering_whole.specs.called.Called.{TermKnown, LambdaKnown, NamesKnown, TermsCallKnown, LambdasCallKnown}
use Rattle.dy_lowering_whole.proofs.called.Terms.{ItemKnown, ClauseKnown, TermsKnown, PairsKnown, ArmsKnown, HeldKnown, SecondKnown, MethodsKnown, CatchesKnown, KeywordsKnown}
use Rattle.dy_lowering_whole.proofs.called.Terms as kinds

module _ (linked : Linked) where
  denoted_known : (d : Denotation) → TermKnown linked (denoted d)
  denoted_known (stands.Local k) = kinds.known_local linked k
  denoted_known stands.NextMethod = kinds.known_next linked None tt
  denoted_known stands.NoMethod = kinds.known_lit linked _

  owned_known : (token : Token) (b : BindingId) (w : What) (p : Progress) → TermKnown linked (owned token b w p).0
  owned_known token b whats.Class p = kinds.known_class linked _
  owned_known token b whats.Generic p = kinds.known_generic linked _
  owned_known token b whats.Variable p = kinds.known_global linked b
  owned_known token b whats.Constant p = kinds.known_global linked b
  owned_known token b whats.Function p = kinds.known_global linked b
  owned_known token b whats.Macro p = kinds.known_lit linked _

  named_known : (token : Token) (m : Meaning) (p : Progress) → TermKnown linked (named token m p).0
  named_known token (InForce d) p = denoted_known d
  named_known token (Owned b) p = owned_known token b b.what p
  named_known token Unbound p = kinds.known_lit linked _

  hidden_known : (d : Option Denotation) → TermKnown linked (hidden_term d)
  hidden_known None = kinds.known_lit linked _
  hidden_known (Some d) = denoted_known d

  assigned_known : (m : Meaning) (v : Term) → TermKnown linked v → TermKnown linked (assigned m v)
  assigned_known (InForce (stands.Local k)) v h = kinds.known_set_local linked k v h
  assigned_known (InForce stands.NextMethod) v h = h
  assigned_known (InForce stands.NoMethod) v h = h
  assigned_known (Owned b) v h = kinds.known_set_global linked b v h
  assigned_known Unbound v h = h

  -- what is called, where it is a generic function
  abbrev HeadKnown : Head → Type 0
  HeadKnown (heads.Generic g) = IsSome (generic_row linked g)
  HeadKnown heads.NextMethod = Unit {0}
  HeadKnown heads.Value = Unit {0}

  called_known : (h : Head) (f : Reads Term) (a : Reads (List Term)) (locals : Locals) (p : Progress) → HeadKnown h
      → ((ls : Locals) (q : Progress) → TermKnown linked (f ls q).0) → ((ls : Locals) (q : Progress) → TermsKnown linked (a ls q).0)
      → TermKnown linked (called h f a locals p).0
  called_known (heads.Generic g) f a locals p there first all = kinds.known_site linked g (a locals p).0 there (all locals p)
  called_known heads.NextMethod f a locals p there first all = kinds.known_next linked (Some (a locals p).0) (all locals p)
  called_known heads.Value f a locals p there first all =
      let q = (f locals p).1 in
      kinds.known_call linked (f locals p).0 (a locals q).0 (first locals p) (all locals q)

  owned_head : (b : BindingId) (w : What) → (w ≡ whats.Generic → IsSome (generic_row linked (record { 0 = b.at }))) → HeadKnown (head_owned b w)
  owned_head b whats.Generic there = there refl
  owned_head b whats.Class there = tt
  owned_head b whats.Variable there = tt
  owned_head b whats.Constant there = tt
  owned_head b whats.Function there = tt
  owned_head b whats.Macro there = tt

  -- the first expressions of a clause
  abbrev FirstsKnown : Apart → Type 0
  FirstsKnown a = TermKnown linked a.first × SecondKnown linked a.limit × HeldKnown linked a.step

  module _ (out : Outside) (known : NamesKnown linked out) where
    meant_head : (d : Option Denotation) (o : Option BindingId) → ((b : BindingId) → o ≡ Some b → b.what ≡ whats.Generic → IsSome (generic_row linked (record { 0 = b.at }))) → HeadKnown (head_meant (in_force_or d o))
    meant_head (Some (stands.Local k)) o there = tt
    meant_head (Some stands.NextMethod) o there = tt
    meant_head (Some stands.NoMethod) o there = tt
    meant_head None (Some b) there = owned_head b b.what (there b refl)
    meant_head None None there = tt

    token_head : (token : Token) (locals : Locals) → HeadKnown (head_meant (means out.owner locals token))
    unfolding means
    token_head token locals = meant_head (innermost locals (Named token)) (out.owner token) (λ b e. known token b e)

    head_known : (d : Core) (locals : Locals) → HeadKnown (head_of out d locals)
    head_known (name token) locals = token_head token locals
    head_known _ locals = tt

    mutual
      pub term_known : (d : Core) (locals : Locals) (p : Progress) → TermKnown linked (core_term out d locals p).0
      term_known (literal value) locals p = kinds.known_lit linked value
      term_known (name token) locals p = named_known token (means out.owner locals token) p
      term_known (hidden number) locals p = hidden_known (innermost locals (Hidden number))
      term_known (set token value) locals p =
          let m = means out.owner locals token in
          let q = placed token m p in
          assigned_known m (core_term out value locals q).0 (term_known value locals q)
      term_known (no_place token place value) locals p =
          let q = told (fault_at NotAssignable token []) p in
          let l = core_term out place locals q in
          kinds.known_and linked l.0 (core_term out value locals l.1).0 (term_known place locals q) (term_known value locals l.1)
      term_known (call function arguments) locals p =
          called_known (head_of out function locals) (core_term out function) (core_terms out arguments) locals p (head_known function locals)
          (λ ls q. term_known function ls q) (λ ls q. terms_known arguments ls q)
      term_known (values terms) locals p = kinds.known_op linked _ (core_terms out terms locals p).0 (terms_known terms locals p)
      term_known (cond choice) locals p =
          let c = core_choice out choice locals p in
          let h = choice_known choice locals p in
          kinds.known_cond linked c.0.0 c.0.1 h.0 h.1
      term_known (and left right) locals p =
          let l = core_term out left locals p in
          kinds.known_and linked l.0 (core_term out right locals l.1).0 (term_known left locals p) (term_known right locals l.1)
      term_known (or left right) locals p =
          let l = core_term out left locals p in
          kinds.known_or_else linked l.0 (core_term out right locals l.1).0 (term_known left locals p) (term_known right locals l.1)
      term_known (select value test arms last) locals p =
          let v = core_term out value locals p in
          let t = core_maybe out test locals v.1 in
          let a = core_arms out arms locals t.1 in
          let l = core_maybe out last locals a.1 in
          kinds.known_select linked v.0 t.0 a.0 l.0 (term_known value locals p) (maybe_known test locals v.1) (arms_known arms locals t.1) (maybe_known last locals a.1)
      term_known (body items) locals p = kinds.known_body linked (core_items out items locals p).0 (items_known items locals p)
      term_known (loop test inner) locals p =
          let t = core_term out test locals p in
          kinds.known_loop linked t.0 (core_term out inner locals t.1).0 (term_known test locals p) (term_known inner locals t.1)
      term_known (for clauses test inner finally) locals p =
          let f = core_firsts out clauses locals (p.next + clause_count clauses) in
          let within = variables_bound clauses p.next locals in
          let q : Progress = record p { next = f.1 } in
          let c = core_clauses out clauses f.0 p.next within q in
          let t = core_test out test within c.1 in
          let b = core_term out inner within t.1 in
          let kept = kept_bound clauses p.next locals in
          let e = core_maybe out finally kept b.1 in
          kinds.known_for linked c.0 t.0 b.0 e.0 (clauses_known clauses f.0 (firsts_known clauses locals (p.next + clause_count clauses)) p.next within q)
          (test_known test within c.1) (term_known inner within t.1) (maybe_known finally kept b.1)
      term_known (method row) locals p = kinds.known_method linked (core_lambda out row stands.NoMethod locals p).0 (lambda_known row stands.NoMethod locals p)
      term_known (block exit inner afterwards cleanup clauses) locals p =
          let within = bound_some p.next (option_map Named exit) locals in
          let first = p.next + count exit in
          let q = catches_numbered clauses (numbered (count exit) p) in
          let b = core_term out inner within q in
          let a = core_maybe out afterwards within b.1 in
          let c = core_maybe out cleanup within a.1 in
          let e = core_catches out clauses first within c.1 in
          kinds.known_block linked (number_of exit p.next) b.0 a.0 c.0 e.0 (term_known inner within q) (maybe_known afterwards within b.1) (maybe_known cleanup within a.1)
          (catches_known clauses first within c.1)

      terms_known : (ds : Cores) (locals : Locals) (p : Progress) → TermsKnown linked (core_terms out ds locals p).0
      terms_known no_core locals p = tt
      terms_known (core_and first rest) locals p = (term_known first locals p, terms_known rest locals (core_term out first locals p).1)

      maybe_known : (d : MaybeCore) (locals : Locals) (p : Progress) → HeldKnown linked (core_maybe out d locals p).0
      maybe_known nothing locals p = tt
      maybe_known (just term) locals p = term_known term locals p

      choice_known : (c : Choice) (locals : Locals) (p : Progress) → let r = core_choice out c locals p in
          PairsKnown linked r.0.0 × TermKnown linked r.0.1
      choice_known (otherwise term) locals p = (tt, term_known term locals p)
      choice_known (branch test term others) locals p =
          let s = core_term out test locals p in
          let t = core_term out term locals s.1 in
          let h = choice_known others locals t.1 in
          (((term_known test locals p, term_known term locals s.1), h.0), h.1)

      arms_known : (arms : CoreArms) (locals : Locals) (p : Progress) → ArmsKnown linked (core_arms out arms locals p).0
      arms_known no_arm locals p = tt
      arms_known (arm_and keys inner rest) locals p =
          let k = core_terms out keys locals p in
          let b = core_term out inner locals k.1 in
          ((terms_known keys locals p, term_known inner locals k.1), arms_known rest locals b.1)

      items_known : (is : CoreItems) (locals : Locals) (p : Progress) → Every (ItemKnown linked) (core_items out is locals p).0
      items_known no_item locals p = tt
      items_known (item_and first rest) locals p =
          let f = core_item out first locals p in
          (item_known first locals p, items_known rest f.0.1 f.1)

      item_known : (i : CoreItem) (locals : Locals) (p : Progress) → ItemKnown linked (core_item out i locals p).0.0
      item_known (run term) locals p = kinds.known_run linked (core_term out term locals p).0 (term_known term locals p)
      item_known (let_values typed rest term) locals p =
          let last = p.next + length typed in
          let t = read_numbered out typed p.next locals (numbered (count rest) (numbered (length typed) p)) in
          kinds.known_let linked t.0 (number_of rest last) (core_term out term locals t.1).0 (term_known term locals t.1)
      item_known (let_methods methods) locals p =
          let group = methods_bound methods p.next locals in
          let q = numbered (method_count methods) p in
          kinds.known_methods linked (core_methods out methods p.next group q).0 (methods_known methods p.next group q)
      item_known (handler condition function) locals p =
          let c = read_type out condition locals p in
          kinds.known_handler linked c.0 (core_term out function locals c.1).0 (term_known function locals c.1)

      methods_known : (ms : CoreMethods) (n : ℕ) (locals : Locals) (p : Progress) → MethodsKnown linked (core_methods out ms n locals p).0
      methods_known no_method n locals p = tt
      methods_known (method_and token first rest) n locals p =
          (lambda_known first stands.NoMethod locals p, methods_known rest (n + 1) locals (core_lambda out first stands.NoMethod locals p).1)

      pub lambda_known : (l : CoreLambda) (d : Denotation) (locals : Locals) (p : Progress) → LambdaKnown linked (core_lambda out l d locals p).0
      lambda_known (lambda params defaults inner results) d locals p =
          let keys = key_types out locals (key_list params.keys) in
          let rest = p.next + length params.required in
          let own = numbered (length keys) (numbered (count params.rest) (numbered (length params.required) p)) in
          let t = read_types out (map (λ (r : Token × CoreType). r.1) params.required) locals own in
          let r = read_results out results locals none in
          let within = params_bound params d p.next rest locals in
          let k = core_defaults out defaults keys (rest + count params.rest) within t.1 in
          let u = told_some r.1.first k.1 in
          let b = core_term out inner k.0.1 u in
          let row : Lambda-F ForClause Item Term BlockRow ForRow Lambda = record {
            params = shape_of params t.0;
            keywords = k.0.0;
            next = is_next d;
            first = p.next;
            locals = b.1.next;
            body = b.0;
            results = r.0;
          } in
          kinds.known_lambda linked row (defaults_known defaults keys (rest + count params.rest) within t.1) (term_known inner k.0.1 u)

      defaults_known : (ds : Cores) (keys : List (Token × Result DyType Fault)) (n : ℕ) (locals : Locals) (p : Progress) → KeywordsKnown linked (core_defaults out ds keys n locals p).0.0
      defaults_known no_core keys n locals p = tt
      defaults_known (core_and default rest) [] n locals p = tt
      defaults_known (core_and default rest) (key ∷ keys) n locals p =
          let q = told_of key.1 p in
          let d = core_term out default locals q in
          (term_known default locals q, defaults_known rest keys (n + 1) ((Named key.0, stands.Local n) ∷ locals) d.1)

      firsts_known : (cs : CoreClauses) (locals : Locals) (n : ℕ) → Every FirstsKnown (core_firsts out cs locals n).0
      firsts_known no_clause locals n = tt
      firsts_known (clause_and first rest) locals n = (first_known first locals (fresh n), firsts_known rest locals (core_first out first locals (fresh n)).1.next)

      first_known : (c : CoreClause) (locals : Locals) (p : Progress) → FirstsKnown (core_first out c locals p).0
      first_known (then_clause variable declared first next) locals p = (term_known first locals (read_type out declared locals p).1, tt, tt)
      first_known (in_clause variable declared collection) locals p = (term_known collection locals (read_type out declared locals p).1, tt, tt)
      first_known (from_clause variable declared start limit step) locals p =
          let t = read_type out declared locals p in
          let f = core_term out start locals t.1 in
          let l = core_limit out limit locals f.1 in
          (term_known start locals t.1, limit_known limit locals f.1, maybe_known step locals l.1)

      limit_known : (l : CoreLimit) (locals : Locals) (p : Progress) → SecondKnown linked (core_limit out l locals p).0
      limit_known no_limit locals p = tt
      limit_known (a_limit limit inner) locals p = term_known inner locals p

      clauses_known : (cs : CoreClauses) (fs : List Apart) → Every FirstsKnown fs → (n : ℕ) (locals : Locals) (p : Progress) → Every (ClauseKnown linked) (core_clauses out cs fs n locals p).0
      clauses_known no_clause fs all n locals p = tt
      clauses_known (clause_and clause rest) [] all n locals p = tt
      clauses_known (clause_and clause rest) (f ∷ fs) all n locals p =
          (clause_known clause f all.0 n locals p, clauses_known rest fs all.1 (n + 1) locals (core_clause out clause f n locals p).1)

      clause_known : (c : CoreClause) (f : Apart) → FirstsKnown f → (n : ℕ) (locals : Locals) (p : Progress) → ClauseKnown linked (core_clause out c f n locals p).0
      clause_known (then_clause variable declared first next) f h n locals p =
          let q = told_some f.fault p in
          kinds.known_then linked n f.declared f.first (core_term out next locals q).0 h.0 (term_known next locals q)
      clause_known (in_clause variable declared collection) f h n locals p = kinds.known_in linked n f.declared f.first h.0
      clause_known (from_clause variable declared start limit step) f h n locals p = kinds.known_from linked n f.declared f.first f.limit f.step h.0 h.1 h.2

      test_known : (t : CoreTest) (locals : Locals) (p : Progress) → SecondKnown linked (core_test out t locals p).0
      test_known no_test locals p = tt
      test_known (a_test ends test) locals p = term_known test locals p

      catches_known : (cs : CoreCatches) (n : ℕ) (locals : Locals) (p : Progress) → CatchesKnown linked (core_catches out cs n locals p).0
      catches_known no_catch n locals p = tt
      catches_known (catch_and variable condition inner rest) n locals p =
          let c = read_type out condition locals p in
          let within = bound_some n (option_map Named variable) locals in
          let b = core_term out inner within c.1 in
          (term_known inner within c.1, catches_known rest (n + count variable) locals b.1)

pub terms_call_known : TermsCallKnown
terms_call_known linked out known draft locals p = term_known linked out known draft locals p

pub lambdas_call_known : LambdasCallKnown
lambdas_call_known linked out known draft next locals p = lambda_known linked out known draft next locals p
