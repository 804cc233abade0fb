-- What is read of a draft mentions such libraries, where what names and types mean outside of bodies
-- does: by induction over drafts.
use Rattle.std.proofs.Common.{◌≡◌, ℕ, ◌+◌, List, [], ◌∷◌, length, map, Option, Some, None, Result, refl}
use Rattle.std.specs.Option.{option_map}
use Rattle.dy_base.specs.declared.fault.Fault.{Fault}
use Rattle.dy_base.specs.declared.kind.Kind.TheVariants.{NotAssignable}
use Rattle.dy_base.specs.declared.ids.BindingId.{BindingId}
use Rattle.dy_base.specs.declared.ids.What.{What}
use Rattle.dy_base.specs.declared.ids.What.TheVariants as whats
use Rattle.dy_tree.specs.declared.token.Token.{Token}
use Rattle.dy_term.specs.declared.types.DyType.{DyType}
use Rattle.dy_term.specs.declared.draft.Local.TheVariants.{Named, Hidden}
use Rattle.dy_term.specs.declared.term.ForClause.{ForClause}
use Rattle.dy_term.specs.declared.term.Item.{Item}
use Rattle.dy_term.specs.declared.term.Term.{Term}
use Rattle.dy_term.specs.declared.term.BlockRow.{BlockRow}
use Rattle.dy_term.specs.declared.term.ForRow.{ForRow}
use Rattle.dy_term.specs.declared.term.Lambda.{Lambda, Lambda-F}
use Rattle.dy_term.specs.Types.{CoreType, CoreKey, CoreResults}
use Rattle.dy_term.specs.Drafts.{Core, literal, name, hidden, set, no_place, call, values, cond}
use Rattle.dy_term.specs.Drafts.{and, or, select, body, loop, for, method, block, Cores, no_core}
use Rattle.dy_term.specs.Drafts.{core_and, MaybeCore, nothing, just, Choice, otherwise, branch}
use Rattle.dy_term.specs.Drafts.{CoreArms, no_arm, arm_and, CoreItems, no_item, item_and, CoreItem}
use Rattle.dy_term.specs.Drafts.{run, let_values, let_methods, handler, CoreMethods, no_method}
use Rattle.dy_term.specs.Drafts.{method_and, CoreLambda, lambda, CoreClauses, no_clause, clause_and}
use Rattle.dy_term.specs.Drafts.{CoreClause, then_clause, in_clause, from_clause, CoreLimit}
use Rattle.dy_term.specs.Drafts.{no_limit, a_limit, CoreTest, no_test, a_test, CoreCatches}
use Rattle.dy_term.specs.Drafts.{no_catch, catch_and}
use Rattle.dy_names.specs.declared.denotation.Denotation.{Denotation}
use Rattle.dy_names.specs.declared.denotation.Denotation.TheVariants as stands
use Rattle.dy_names.specs.declared.denotation.Meaning.{Meaning}
use Rattle.dy_names.specs.declared.denotation.Meaning.TheVariants.{InForce, Owned, Unbound}
use Rattle.dy_names.specs.Naming.{Locals, innermost, in_force_or, means}
use Rattle.dy_names.specs.Outside.{Outside}
use Rattle.dy_binding.specs.declared.progress.Progress.{Progress}
use Rattle.dy_binding.specs.declared.progress.Apart.{Apart}
use Rattle.dy_binding.specs.declared.names.Head.{Head}
use Rattle.dy_binding.specs.declared.names.Head.TheVariants as heads
use Rattle.dy_binding.specs.Faults.{fault_at}
use Rattle.dy_binding.specs.Reads.{Reads, none, numbered, told, told_some}
use Rattle.dy_binding.specs.Bound.{bound_some, params_bound, count, number_of, methods_bound}
use Rattle.dy_binding.specs.Bound.{method_count, clause_count, variables_bound, kept_bound}
use Rattle.dy_binding.specs.Bound.{catches_numbered}
use Rattle.dy_binding.specs.Names.{denoted, owned, named, placed, assigned, hidden_term, head_owned}
use Rattle.dy_binding.specs.Names.{head_meant, head_of, called, is_next}
use Rattle.dy_binding.specs.Types.{type_or, told_of, read_type, read_types, read_some, read_numbered}
use Rattle.dy_binding.specs.Types.{read_results, key_types, key_list, shape_of}
use Rattle.dy_resolution.specs.Terms.{core_term, core_terms, core_maybe, core_choice, core_arms}
use Rattle.dy_resolution.specs.Terms.{core_items, core_item, core_methods, core_lambda}
use Rattle.dy_resolution.specs.Terms.{core_defaults, core_firsts, core_first, core_limit}
use Rattle.dy_resolution.specs.Terms.{core_clauses, core_clause, core_test, core_catches, fresh}
use Rattle.dy_code.specs.Validity.{Every}
use Rattle.dy_viewed_rows.proofs.Terms.{TypeIn, HeldTypeIn, TypesIn, ResultsIn, TermIn, LambdaIn, ItemIn, ClauseIn, TermsIn, PairsIn, ArmsIn, HeldIn, SecondIn, LocalsIn, MethodsIn, CatchesIn, KeywordsIn}
use Rattle.dy_viewed_rows.proofs.Terms as kinds

module _ (Is : ℕ → Type 0) where
  -- what names and types mean outside of bodies mentions such libraries
  pub record OutsideIn (out : Outside) : Type 0 where
    pub names : (token : Token) (b : BindingId) → out.owner token ≡ Some b → Is b.at.library
    pub types : (locals : Locals) (declared : CoreType) → TypeIn Is (type_or (out.type locals declared))

  denoted_in : (d : Denotation) → TermIn Is (denoted d)
  denoted_in (stands.Local k) = kinds.local_in Is k
  denoted_in stands.NextMethod = kinds.next_in Is None tt
  denoted_in stands.NoMethod = kinds.lit_in Is _

  abbrev MeaningIn : Meaning → Type 0
  MeaningIn (InForce d) = Unit {0}
  MeaningIn (Owned b) = Is b.at.library
  MeaningIn Unbound = Unit {0}

  owned_in : (token : Token) (b : BindingId) (w : What) (p : Progress) → Is b.at.library → TermIn Is (owned token b w p).0
  owned_in token b whats.Class p h = kinds.class_in Is (record { 0 = b.at }) h
  owned_in token b whats.Generic p h = kinds.generic_in Is (record { 0 = b.at }) h
  owned_in token b whats.Variable p h = kinds.global_in Is b h
  owned_in token b whats.Constant p h = kinds.global_in Is b h
  owned_in token b whats.Function p h = kinds.global_in Is b h
  owned_in token b whats.Macro p h = kinds.lit_in Is _

  named_in : (token : Token) (m : Meaning) (p : Progress) → MeaningIn m → TermIn Is (named token m p).0
  named_in token (InForce d) p h = denoted_in d
  named_in token (Owned b) p h = owned_in token b b.what p h
  named_in token Unbound p h = kinds.lit_in Is _

  hidden_in : (d : Option Denotation) → TermIn Is (hidden_term d)
  hidden_in None = kinds.lit_in Is _
  hidden_in (Some d) = denoted_in d

  assigned_in : (m : Meaning) (v : Term) → MeaningIn m → TermIn Is v → TermIn Is (assigned m v)
  assigned_in (InForce (stands.Local k)) v i h = kinds.set_local_in Is k v h
  assigned_in (InForce stands.NextMethod) v i h = h
  assigned_in (InForce stands.NoMethod) v i h = h
  assigned_in (Owned b) v i h = kinds.set_global_in Is b v i h
  assigned_in Unbound v i h = h

  -- what is called, where it is a generic function
  abbrev HeadIn : Head → Type 0
  HeadIn (heads.Generic g) = Is g.0.library
  HeadIn heads.NextMethod = Unit {0}
  HeadIn heads.Value = Unit {0}

  called_in : (h : Head) (f : Reads Term) (a : Reads (List Term)) (locals : Locals) (p : Progress) → HeadIn h
      → ((ls : Locals) (q : Progress) → TermIn Is (f ls q).0) → ((ls : Locals) (q : Progress) → TermsIn Is (a ls q).0)
      → TermIn Is (called h f a locals p).0
  called_in (heads.Generic g) f a locals p there first all = kinds.site_in Is g (a locals p).0 there (all locals p)
  called_in heads.NextMethod f a locals p there first all = kinds.next_in Is (Some (a locals p).0) (all locals p)
  called_in heads.Value f a locals p there first all =
      let q = (f locals p).1 in
      kinds.call_in Is (f locals p).0 (a locals q).0 (first locals p) (all locals q)

  owned_head : (b : BindingId) (w : What) → Is b.at.library → HeadIn (head_owned b w)
  owned_head b whats.Generic h = h
  owned_head b whats.Class h = tt
  owned_head b whats.Variable h = tt
  owned_head b whats.Constant h = tt
  owned_head b whats.Function h = tt
  owned_head b whats.Macro h = tt

  meant_head : (m : Meaning) → MeaningIn m → HeadIn (head_meant m)
  meant_head (InForce (stands.Local k)) h = tt
  meant_head (InForce stands.NextMethod) h = tt
  meant_head (InForce stands.NoMethod) h = tt
  meant_head (Owned b) h = owned_head b b.what h
  meant_head Unbound h = tt

  meaning_in : (d : Option Denotation) (o : Option BindingId) → ((b : BindingId) → o ≡ Some b → Is b.at.library) → MeaningIn (in_force_or d o)
  meaning_in (Some d) o there = tt
  meaning_in None (Some b) there = there b refl
  meaning_in None None there = tt

  -- the first expressions of a clause, and its type
  abbrev FirstsIn : Apart → Type 0
  FirstsIn a = TypeIn Is a.declared × TermIn Is a.first × SecondIn Is a.limit × HeldIn Is a.step

  abbrev KeysIn : List (Token × Result DyType Fault) → Type 0
  KeysIn keys = Every (λ (key : Token × Result DyType Fault). TypeIn Is (type_or key.1)) keys

  module _ (out : Outside) (outside : OutsideIn out) where
    token_in : (token : Token) (locals : Locals) → MeaningIn (means out.owner locals token)
    unfolding means
    token_in token locals = meaning_in (innermost locals (Named token)) (out.owner token) (λ b e. outside.names token b e)

    head_in : (d : Core) (locals : Locals) → HeadIn (head_of out d locals)
    head_in (name token) locals = meant_head (means out.owner locals token) (token_in token locals)
    head_in _ locals = tt

    -- types
    pub type_in : (declared : CoreType) (locals : Locals) (p : Progress) → TypeIn Is (read_type out declared locals p).0
    type_in declared locals p = outside.types locals declared

    pub types_in : (ds : List CoreType) (locals : Locals) (p : Progress) → TypesIn Is (read_types out ds locals p).0
    types_in [] locals p = tt
    types_in (d ∷ ds) locals p = (type_in d locals p, types_in ds locals (read_type out d locals p).1)

    some_in : (d : Option CoreType) (locals : Locals) (p : Progress) → HeldTypeIn Is (read_some out d locals p).0
    some_in None locals p = tt
    some_in (Some d) locals p = type_in d locals p

    numbered_in : {A : Type 0} (ts : List (A × CoreType)) (n : ℕ) (locals : Locals) (p : Progress) → LocalsIn Is (read_numbered out ts n locals p).0
    numbered_in [] n locals p = tt
    numbered_in (t ∷ ts) n locals p = (type_in t.1 locals p, numbered_in ts (n + 1) locals (read_type out t.1 locals p).1)

    results_in : (rs : CoreResults) (locals : Locals) (p : Progress) → ResultsIn Is (read_results out rs locals p).0
    results_in rs locals p = (types_in rs.required locals p, some_in rs.rest locals (read_types out rs.required locals p).1)

    keys_in : (locals : Locals) (keys : List CoreKey) → KeysIn (key_types out locals keys)
    keys_in locals [] = tt
    keys_in locals (key ∷ keys) = (outside.types locals key.declared, keys_in locals keys)

    mutual
      pub term_in : (d : Core) (locals : Locals) (p : Progress) → TermIn Is (core_term out d locals p).0
      term_in (literal value) locals p = kinds.lit_in Is value
      term_in (name token) locals p = named_in token (means out.owner locals token) p (token_in token locals)
      term_in (hidden number) locals p = hidden_in (innermost locals (Hidden number))
      term_in (set token value) locals p =
          let m = means out.owner locals token in
          let q = placed token m p in
          assigned_in m (core_term out value locals q).0 (token_in token locals) (term_in value locals q)
      term_in (no_place token place value) locals p =
          let q = told (fault_at NotAssignable token []) p in
          let l = core_term out place locals q in
          kinds.and_in Is l.0 (core_term out value locals l.1).0 (term_in place locals q) (term_in value locals l.1)
      term_in (call function arguments) locals p =
          called_in (head_of out function locals) (core_term out function) (core_terms out arguments) locals p (head_in function locals)
          (λ ls q. term_in function ls q) (λ ls q. terms_in arguments ls q)
      term_in (values terms) locals p = kinds.op_in Is _ (core_terms out terms locals p).0 (terms_in terms locals p)
      term_in (cond choice) locals p =
          let c = core_choice out choice locals p in
          let h = choice_in choice locals p in
          kinds.cond_in Is c.0.0 c.0.1 h.0 h.1
      term_in (and left right) locals p =
          let l = core_term out left locals p in
          kinds.and_in Is l.0 (core_term out right locals l.1).0 (term_in left locals p) (term_in right locals l.1)
      term_in (or left right) locals p =
          let l = core_term out left locals p in
          kinds.or_in Is l.0 (core_term out right locals l.1).0 (term_in left locals p) (term_in right locals l.1)
      term_in (select value test arms last) locals p =
          let v = core_term out value locals p in
          let t = core_maybe out test locals v.1 in
          let a = core_arms out arms locals t.1 in
          let l = core_maybe out last locals a.1 in
          kinds.select_in Is v.0 t.0 a.0 l.0 (term_in value locals p) (maybe_in test locals v.1) (arms_in arms locals t.1) (maybe_in last locals a.1)
      term_in (body items) locals p = kinds.body_in Is (core_items out items locals p).0 (items_in items locals p)
      term_in (loop test inner) locals p =
          let t = core_term out test locals p in
          kinds.loop_in Is t.0 (core_term out inner locals t.1).0 (term_in test locals p) (term_in inner locals t.1)
      term_in (for clauses test inner finally) locals p =
          let f = core_firsts out clauses locals (p.next + clause_count clauses) in
          let within = variables_bound clauses p.next locals in
          let q : Progress = record p { next = f.1 } in
          let c = core_clauses out clauses f.0 p.next within q in
          let t = core_test out test within c.1 in
          let b = core_term out inner within t.1 in
          let kept = kept_bound clauses p.next locals in
          let e = core_maybe out finally kept b.1 in
          kinds.for_in Is c.0 t.0 b.0 e.0 (clauses_in clauses f.0 (firsts_in clauses locals (p.next + clause_count clauses)) p.next within q)
          (test_in test within c.1) (term_in inner within t.1) (maybe_in finally kept b.1)
      term_in (method row) locals p = kinds.method_in Is (core_lambda out row stands.NoMethod locals p).0 (lambda_in row stands.NoMethod locals p)
      term_in (block exit inner afterwards cleanup clauses) locals p =
          let within = bound_some p.next (option_map Named exit) locals in
          let first = p.next + count exit in
          let q = catches_numbered clauses (numbered (count exit) p) in
          let b = core_term out inner within q in
          let a = core_maybe out afterwards within b.1 in
          let c = core_maybe out cleanup within a.1 in
          let e = core_catches out clauses first within c.1 in
          kinds.block_in Is (number_of exit p.next) b.0 a.0 c.0 e.0 (term_in inner within q) (maybe_in afterwards within b.1) (maybe_in cleanup within a.1)
          (catches_in clauses first within c.1)

      terms_in : (ds : Cores) (locals : Locals) (p : Progress) → TermsIn Is (core_terms out ds locals p).0
      terms_in no_core locals p = tt
      terms_in (core_and first rest) locals p = (term_in first locals p, terms_in rest locals (core_term out first locals p).1)

      maybe_in : (d : MaybeCore) (locals : Locals) (p : Progress) → HeldIn Is (core_maybe out d locals p).0
      maybe_in nothing locals p = tt
      maybe_in (just term) locals p = term_in term locals p

      choice_in : (c : Choice) (locals : Locals) (p : Progress) → let r = core_choice out c locals p in
          PairsIn Is r.0.0 × TermIn Is r.0.1
      choice_in (otherwise term) locals p = (tt, term_in term locals p)
      choice_in (branch test term others) locals p =
          let s = core_term out test locals p in
          let t = core_term out term locals s.1 in
          let h = choice_in others locals t.1 in
          (((term_in test locals p, term_in term locals s.1), h.0), h.1)

      arms_in : (arms : CoreArms) (locals : Locals) (p : Progress) → ArmsIn Is (core_arms out arms locals p).0
      arms_in no_arm locals p = tt
      arms_in (arm_and keys inner rest) locals p =
          let k = core_terms out keys locals p in
          let b = core_term out inner locals k.1 in
          ((terms_in keys locals p, term_in inner locals k.1), arms_in rest locals b.1)

      items_in : (is : CoreItems) (locals : Locals) (p : Progress) → Every (ItemIn Is) (core_items out is locals p).0
      items_in no_item locals p = tt
      items_in (item_and first rest) locals p =
          let f = core_item out first locals p in
          (item_in first locals p, items_in rest f.0.1 f.1)

      item_in : (i : CoreItem) (locals : Locals) (p : Progress) → ItemIn Is (core_item out i locals p).0.0
      item_in (run term) locals p = kinds.run_in Is (core_term out term locals p).0 (term_in term locals p)
      item_in (let_values typed rest term) locals p =
          let last = p.next + length typed in
          let q = numbered (count rest) (numbered (length typed) p) in
          let t = read_numbered out typed p.next locals q in
          kinds.let_in Is t.0 (number_of rest last) (core_term out term locals t.1).0 (numbered_in typed p.next locals q) (term_in term locals t.1)
      item_in (let_methods methods) locals p =
          let group = methods_bound methods p.next locals in
          let q = numbered (method_count methods) p in
          kinds.let_methods_in Is (core_methods out methods p.next group q).0 (methods_in methods p.next group q)
      item_in (handler condition function) locals p =
          let c = read_type out condition locals p in
          kinds.handler_in Is c.0 (core_term out function locals c.1).0 (type_in condition locals p) (term_in function locals c.1)

      methods_in : (ms : CoreMethods) (n : ℕ) (locals : Locals) (p : Progress) → MethodsIn Is (core_methods out ms n locals p).0
      methods_in no_method n locals p = tt
      methods_in (method_and token first rest) n locals p =
          (lambda_in first stands.NoMethod locals p, methods_in rest (n + 1) locals (core_lambda out first stands.NoMethod locals p).1)

      pub lambda_in : (l : CoreLambda) (d : Denotation) (locals : Locals) (p : Progress) → LambdaIn Is (core_lambda out l d locals p).0
      lambda_in (lambda params defaults inner results) d locals p =
          let types = map (λ (r : Token × CoreType). r.1) params.required in
          let keys = key_types out locals (key_list params.keys) in
          let rest = p.next + length params.required in
          let own = numbered (length keys) (numbered (count params.rest) (numbered (length params.required) p)) in
          let t = read_types out types locals own in
          let r = read_results out results locals none in
          let within = params_bound params d p.next rest locals in
          let k = core_defaults out defaults keys (rest + count params.rest) within t.1 in
          let u = told_some r.1.first k.1 in
          let b = core_term out inner k.0.1 u in
          let row : Lambda-F ForClause Item Term BlockRow ForRow Lambda = record {
            params = shape_of params t.0;
            keywords = k.0.0;
            next = is_next d;
            first = p.next;
            locals = b.1.next;
            body = b.0;
            results = r.0;
          } in
          kinds.lambda_in Is row (types_in types locals own) (defaults_in defaults keys (keys_in locals (key_list params.keys)) (rest + count params.rest) within t.1) (term_in inner k.0.1 u) (results_in results locals none)

      defaults_in : (ds : Cores) (keys : List (Token × Result DyType Fault)) → KeysIn keys → (n : ℕ) (locals : Locals) (p : Progress) → KeywordsIn Is (core_defaults out ds keys n locals p).0.0
      defaults_in no_core keys all n locals p = tt
      defaults_in (core_and default rest) [] all n locals p = tt
      defaults_in (core_and default rest) (key ∷ keys) all n locals p =
          let q = told_of key.1 p in
          let d = core_term out default locals q in
          ((all.0, term_in default locals q), defaults_in rest keys all.1 (n + 1) ((Named key.0, stands.Local n) ∷ locals) d.1)

      firsts_in : (cs : CoreClauses) (locals : Locals) (n : ℕ) → Every FirstsIn (core_firsts out cs locals n).0
      firsts_in no_clause locals n = tt
      firsts_in (clause_and first rest) locals n = (first_in first locals (fresh n), firsts_in rest locals (core_first out first locals (fresh n)).1.next)

      first_in : (c : CoreClause) (locals : Locals) (p : Progress) → FirstsIn (core_first out c locals p).0
      first_in (then_clause variable declared first next) locals p = (type_in declared locals p, term_in first locals (read_type out declared locals p).1, tt, tt)
      first_in (in_clause variable declared collection) locals p = (type_in declared locals p, term_in collection locals (read_type out declared locals p).1, tt, tt)
      first_in (from_clause variable declared start limit step) locals p =
          let t = read_type out declared locals p in
          let f = core_term out start locals t.1 in
          let l = core_limit out limit locals f.1 in
          (type_in declared locals p, term_in start locals t.1, limit_in limit locals f.1, maybe_in step locals l.1)

      limit_in : (l : CoreLimit) (locals : Locals) (p : Progress) → SecondIn Is (core_limit out l locals p).0
      limit_in no_limit locals p = tt
      limit_in (a_limit limit inner) locals p = term_in inner locals p

      clauses_in : (cs : CoreClauses) (fs : List Apart) → Every FirstsIn fs → (n : ℕ) (locals : Locals) (p : Progress) → Every (ClauseIn Is) (core_clauses out cs fs n locals p).0
      clauses_in no_clause fs all n locals p = tt
      clauses_in (clause_and clause rest) [] all n locals p = tt
      clauses_in (clause_and clause rest) (f ∷ fs) all n locals p =
          (clause_in clause f all.0 n locals p, clauses_in rest fs all.1 (n + 1) locals (core_clause out clause f n locals p).1)

      clause_in : (c : CoreClause) (f : Apart) → FirstsIn f → (n : ℕ) (locals : Locals) (p : Progress) → ClauseIn Is (core_clause out c f n locals p).0
      clause_in (then_clause variable declared first next) f h n locals p =
          let q = told_some f.fault p in
          kinds.then_in Is n f.declared f.first (core_term out next locals q).0 h.0 h.1 (term_in next locals q)
      clause_in (in_clause variable declared collection) f h n locals p = kinds.in_in Is n f.declared f.first h.0 h.1
      clause_in (from_clause variable declared start limit step) f h n locals p = kinds.from_in Is n f.declared f.first f.limit f.step h.0 h.1 h.2 h.3

      test_in : (t : CoreTest) (locals : Locals) (p : Progress) → SecondIn Is (core_test out t locals p).0
      test_in no_test locals p = tt
      test_in (a_test ends test) locals p = term_in test locals p

      catches_in : (cs : CoreCatches) (n : ℕ) (locals : Locals) (p : Progress) → CatchesIn Is (core_catches out cs n locals p).0
      catches_in no_catch n locals p = tt
      catches_in (catch_and variable condition inner rest) n locals p =
          let c = read_type out condition locals p in
          let within = bound_some n (option_map Named variable) locals in
          let b = core_term out inner within c.1 in
          ((type_in condition locals p, term_in inner within c.1), catches_in rest (n + count variable) locals b.1)
