-- What is read of a plain draft is lowered, by induction over drafts.
use Rattle.std.proofs.Common.{◌≡◌, ℕ, ◌+◌, Bool, true, false, not, ◌&&◌, List, [], ◌∷◌, length, map, Option, Some, None, refl, sym, ap, ◌∙◌, subst}
use Rattle.std.specs.Prelude.{is_some}
use Rattle.std.specs.Option.{option_map}
use Rattle.dy_base.specs.Folding.{folded}
use Rattle.dy_base.specs.declared.fault.Fault.{Fault}
use Rattle.dy_base.specs.declared.kind.Kind.TheVariants.{NotAssignable}
use Rattle.dy_base.specs.declared.ids.BindingId.{BindingId}
use Rattle.dy_base.specs.declared.ids.ClassId.{ClassId}
use Rattle.dy_base.specs.declared.ids.GenericId.{GenericId}
use Rattle.dy_base.specs.declared.ids.What.{What}
use Rattle.dy_base.specs.declared.ids.What.TheVariants as whats
use Rattle.dy_tree.specs.declared.token.Token.{Token}
use Rattle.dy_term.specs.declared.literal.Literal.{Literal, Literal-F, out-Literal, out-roll-Literal}
use Rattle.dy_term.specs.declared.literal.Literal.TheVariants.{Bool as a_truth, rolls-Bool}
use Rattle.dy_term.specs.declared.types.DyType.{DyType}
use Rattle.dy_term.specs.declared.types.Params.{Params}
use Rattle.dy_term.specs.declared.types.Results.{Results}
use Rattle.dy_term.specs.declared.draft.Local.TheVariants.{Hidden}
use Rattle.dy_term.specs.declared.term.Term.{Term, Term-F, Lit, Local, Global, ClassName}
use Rattle.dy_term.specs.declared.term.Term.{GenericName, For}
use Rattle.dy_term.specs.declared.term.Term.TheVariants.{rolls-Lit, rolls-Local, rolls-Global}
use Rattle.dy_term.specs.declared.term.Term.TheVariants.{rolls-ClassName, rolls-GenericName}
use Rattle.dy_term.specs.declared.term.Lambda.{Lambda, Lambda-F, roll-Lambda}
use Rattle.dy_term.specs.declared.term.ForRow.{roll-ForRow}
use Rattle.dy_term.specs.Types.{CoreType, CoreKey, CoreParams}
use Rattle.dy_term.specs.Drafts.{Core, literal, name, hidden, set, no_place, call, values, cond}
use Rattle.dy_term.specs.Drafts.{and, or, select, body, loop, for, method, block, Cores, no_core}
use Rattle.dy_term.specs.Drafts.{core_and, MaybeCore, nothing, just, Choice, otherwise, branch}
use Rattle.dy_term.specs.Drafts.{CoreArms, no_arm, arm_and, CoreItems, no_item, item_and, CoreItem}
use Rattle.dy_term.specs.Drafts.{run, let_values, let_methods, handler, CoreMethods, no_method}
use Rattle.dy_term.specs.Drafts.{method_and, CoreLambda, lambda, CoreClauses, no_clause, clause_and}
use Rattle.dy_term.specs.Drafts.{CoreClause, then_clause, in_clause, from_clause, CoreLimit}
use Rattle.dy_term.specs.Drafts.{no_limit, a_limit, CoreTest, no_test, a_test}
use Rattle.dy_names.specs.declared.denotation.Denotation.{Denotation}
use Rattle.dy_names.specs.declared.denotation.Denotation.TheVariants as stands
use Rattle.dy_names.specs.declared.denotation.Meaning.{Meaning}
use Rattle.dy_names.specs.declared.denotation.Meaning.TheVariants.{InForce, Owned, Unbound}
use Rattle.dy_names.specs.Naming.{Locals, innermost, means}
use Rattle.dy_names.specs.Outside.{Outside}
use Rattle.dy_binding.specs.declared.progress.Progress.{Progress}
use Rattle.dy_binding.specs.declared.progress.Apart.{Apart}
use Rattle.dy_binding.specs.declared.names.Head.{Head}
use Rattle.dy_binding.specs.declared.names.Head.TheVariants as heads
use Rattle.dy_binding.specs.Faults.{fault_at}
use Rattle.dy_binding.specs.Reads.{Reads, none, numbered, told, told_some}
use Rattle.dy_binding.specs.Bound.{bound, bound_some, params_bound, count, number_of, methods_bound}
use Rattle.dy_binding.specs.Bound.{method_count, clause_count, variables_bound, kept_bound}
use Rattle.dy_binding.specs.Names.{denoted, owned, named, placed, assigned, hidden_term, head_meant}
use Rattle.dy_binding.specs.Names.{head_owned, head_of, called, is_next}
use Rattle.dy_binding.specs.Types.{read_type, read_types, read_numbered, read_results, key_types}
use Rattle.dy_binding.specs.Types.{key_list, shape_of}
use Rattle.dy_resolution.specs.Terms.{core_term, core_terms, core_maybe, core_choice, core_arms}
use Rattle.dy_resolution.specs.Terms.{core_items, core_item, core_methods, core_lambda}
use Rattle.dy_resolution.specs.Terms.{core_defaults, core_firsts, core_first, core_limit}
use Rattle.dy_resolution.specs.Terms.{core_clauses, core_clause, core_test, fresh}
use Rattle.dy_lowered.specs.Words.{is_word, is_word_literal}
use Rattle.dy_lowered.specs.Readiness.{all_ready, are_distinct, with_rest}
use Rattle.dy_lowering_law.specs.Ready.{has_no_keywords, is_empty}
use Rattle.dy_lowering_whole.specs.Lowered.{is_lowered, is_item_lowered, is_lambda_lowered}
use Rattle.dy_scoped_rows.proofs.terms.Facts.{no_fault, untrue, both_true, and_true, and_assoc}
use Rattle.dy_scoped_rows.proofs.terms.Folds as folds
use Rattle.dy_scoped_rows.proofs.terms.Folds.{is_clause_lowered, branches_lowered, arms_lowered}
use Rattle.dy_scoped_rows.proofs.terms.Folds.{maybe_lowered, behind_lowered, local_methods_lowered}
use Rattle.dy_lowered_forms.specs.drafts.Kinds.{names_next, takes_plainly}
use Rattle.dy_lowered_forms.specs.drafts.Plain.{is_plain, are_plain}
use Rattle.dy_lowered_forms.specs.drafts.Plain.{is_maybe_plain, is_choice_plain, are_arms_plain}
use Rattle.dy_lowered_forms.specs.drafts.Plain.{are_items_plain, is_item_plain, are_methods_plain}
use Rattle.dy_lowered_forms.specs.drafts.Plain.{is_lambda_plain, are_clauses_plain, is_clause_plain}
use Rattle.dy_lowered_forms.specs.drafts.Plain.{is_limit_plain, is_test_plain}
use Rattle.dy_lowered_forms.proofs.drafts.Distinct.{locals_distinct}
use Rattle.dy_lowered_forms.proofs.drafts.Quiet.{AreQuiet, NoNext, MeantQuiet, found_quiet, means_quiet}
use Rattle.dy_lowered_forms.proofs.drafts.Quiet.{bound_quiet, some_quiet, params_quiet, methods_quiet}
use Rattle.dy_lowered_forms.proofs.drafts.Quiet.{variables_quiet, kept_quiet}

abbrev Yes : Bool → Type 0
Yes b = b ≡ true

lit_lowered : (v : Literal) → is_lowered (Lit v) ≡ is_word_literal v
lit_lowered v = ap is_lowered (sym (rolls-Lit v)) ∙ folds.term_lowered_is (Term-F.Lit v)

no_lowered : Yes (is_lowered (Lit (a_truth false)))
no_lowered =
    lit_lowered (a_truth false)
    ∙ ap (λ (l : Literal). is_word (out-Literal l)) (sym (rolls-Bool false))
    ∙ ap is_word (out-roll-Literal (Literal-F.Bool false))

local_lowered : (k : ℕ) → Yes (is_lowered (Local k))
local_lowered k = ap is_lowered (sym (rolls-Local k)) ∙ folds.term_lowered_is (Term-F.Local k)

global_lowered : (b : BindingId) → Yes (is_lowered (Global b))
global_lowered b = ap is_lowered (sym (rolls-Global b)) ∙ folds.term_lowered_is (Term-F.Global b)

class_lowered : (c : ClassId) → Yes (is_lowered (ClassName c))
class_lowered c = ap is_lowered (sym (rolls-ClassName c)) ∙ folds.term_lowered_is (Term-F.ClassName c)

generic_lowered : (g : GenericId) → Yes (is_lowered (GenericName g))
generic_lowered g = ap is_lowered (sym (rolls-GenericName g)) ∙ folds.term_lowered_is (Term-F.GenericName g)

turned : (b : Bool) → not b ≡ true → b ≡ false
turned true e = untrue e
turned false e = refl

denoted_lowered : (d : Denotation) → NoNext (Some d) → Yes (is_lowered (denoted d))
denoted_lowered (stands.Local k) quiet = local_lowered k
denoted_lowered stands.NextMethod quiet = absurd quiet
denoted_lowered stands.NoMethod quiet = no_lowered

owned_lowered : (token : Token) (b : BindingId) (w : What) (p : Progress) → Yes (is_lowered (owned token b w p).0)
owned_lowered token b whats.Class p = class_lowered (record { 0 = b.at })
owned_lowered token b whats.Generic p = generic_lowered (record { 0 = b.at })
owned_lowered token b whats.Variable p = global_lowered b
owned_lowered token b whats.Constant p = global_lowered b
owned_lowered token b whats.Function p = global_lowered b
owned_lowered token b whats.Macro p = no_lowered

named_lowered : (token : Token) (m : Meaning) (p : Progress) → MeantQuiet m → Yes (is_lowered (named token m p).0)
named_lowered token (InForce d) p quiet = denoted_lowered d quiet
named_lowered token (Owned b) p quiet = owned_lowered token b b.what p
named_lowered token Unbound p quiet = no_lowered

hidden_lowered : (d : Option Denotation) → NoNext d → Yes (is_lowered (hidden_term d))
hidden_lowered None quiet = no_lowered
hidden_lowered (Some d) quiet = denoted_lowered d quiet

assigned_lowered : (m : Meaning) (v : Term) → Yes (is_lowered v) → Yes (is_lowered (assigned m v))
assigned_lowered (InForce (stands.Local k)) v is = folds.lowered_set_local k v ∙ is
assigned_lowered (InForce stands.NextMethod) v is = is
assigned_lowered (InForce stands.NoMethod) v is = is
assigned_lowered (Owned b) v is = folds.lowered_set_global b v ∙ is
assigned_lowered Unbound v is = is

-- what is called is not the next method
abbrev HeadQuiet : Head → Type 0
HeadQuiet (heads.Generic g) = Unit {0}
HeadQuiet heads.NextMethod = ⊥
HeadQuiet heads.Value = Unit {0}

owned_head : (b : BindingId) (w : What) → HeadQuiet (head_owned b w)
owned_head b whats.Class = tt
owned_head b whats.Generic = tt
owned_head b whats.Variable = tt
owned_head b whats.Constant = tt
owned_head b whats.Function = tt
owned_head b whats.Macro = tt

meant_head : (m : Meaning) → MeantQuiet m → HeadQuiet (head_meant m)
meant_head (InForce (stands.Local k)) quiet = tt
meant_head (InForce stands.NextMethod) quiet = absurd quiet
meant_head (InForce stands.NoMethod) quiet = tt
meant_head (Owned b) quiet = owned_head b b.what
meant_head Unbound quiet = tt

head_quiet : (out : Outside) (d : Core) (locals : Locals) → Yes (is_plain d) → AreQuiet locals → HeadQuiet (head_of out d locals)
head_quiet out (name token) locals plain quiet =
    meant_head (means out.owner locals token) (means_quiet out.owner locals token quiet (turned (names_next token) plain))
head_quiet out (literal value) locals plain quiet = tt
head_quiet out (hidden number) locals plain quiet = tt
head_quiet out (set token value) locals plain quiet = tt
head_quiet out (no_place token place value) locals plain quiet = tt
head_quiet out (call f arguments) locals plain quiet = tt
head_quiet out (values terms) locals plain quiet = tt
head_quiet out (cond choice) locals plain quiet = tt
head_quiet out (and left right) locals plain quiet = tt
head_quiet out (or left right) locals plain quiet = tt
head_quiet out (select value test arms last) locals plain quiet = tt
head_quiet out (body items) locals plain quiet = tt
head_quiet out (loop test inner) locals plain quiet = tt
head_quiet out (for clauses test inner finally) locals plain quiet = tt
head_quiet out (method row) locals plain quiet = tt
head_quiet out (block exit inner afterwards cleanup clauses) locals plain quiet = tt

called_lowered : (h : Head) (f : Reads Term) (a : Reads (List Term)) (locals : Locals) (p : Progress) → HeadQuiet h
    → ((q : Progress) → Yes (is_lowered (f locals q).0)) → ((q : Progress) → Yes (all_ready (map is_lowered (a locals q).0)))
    → Yes (is_lowered (called h f a locals p).0)
called_lowered (heads.Generic g) f a locals p quiet fs arguments_are = folds.lowered_site g (a locals p).0 ∙ arguments_are p
called_lowered heads.NextMethod f a locals p quiet fs arguments_are = absurd quiet
called_lowered heads.Value f a locals p quiet fs arguments_are =
    let h = f locals p in
    let r = a locals h.1 in
    folds.lowered_call h.0 r.0 ∙ and_true (is_lowered h.0) (all_ready (map is_lowered r.0)) (fs p) (arguments_are h.1)

-- the first expressions of a clause
abbrev apart_lowered : Apart → Bool
apart_lowered a = is_lowered a.first && (behind_lowered a.limit && maybe_lowered a.step)

pub keyless : (params : CoreParams) (types : List DyType) → Yes (takes_plainly params) → Yes (has_no_keywords (shape_of params types))
keyless params types plain =
    by_keys params.keys (both_true (not (is_some params.next)) (not (is_some params.keys) && not params.all_keys) plain).1
  where
    by_keys : (keys : Option (List CoreKey)) → Yes (not (is_some keys) && not params.all_keys)
        → Yes (not (is_some (option_map (λ (ks : List CoreKey). map (λ k. folded k.keyword.text) ks) keys)) && not params.all_keys)
    by_keys None e = e
    by_keys (Some ks) e = untrue e

no_some : {A : Type 0} (o : Option A) → not (is_some o) ≡ true → o ≡ None
no_some None e = refl
no_some (Some x) e = untrue e

pub next_gone : (params : CoreParams) → Yes (takes_plainly params) → params.next ≡ None
next_gone params plain =
    no_some params.next (both_true (not (is_some params.next)) (not (is_some params.keys) && not params.all_keys) plain).0

keys_gone : (params : CoreParams) → Yes (takes_plainly params) → params.keys ≡ None
keys_gone params plain =
    no_some params.keys (both_true (not (is_some params.keys)) (not params.all_keys)
    (both_true (not (is_some params.next)) (not (is_some params.keys) && not params.all_keys) plain).1).0

abbrev Keywords : Type 0
Keywords = (List (DyType × Term) × Locals) × Progress

module _ (out : Outside) where
  abbrev lambda_from : (inner : Core) (params : Params) (d : Denotation) (first : ℕ)
      (r : Results × Progress) (k : Keywords) → Lambda × Progress
  lambda_from inner params d first r k =
      let b = core_term out inner k.0.1 (told_some r.1.first k.1) in (
        roll-Lambda (record {
          params = params;
          keywords = k.0.0;
          next = is_next d;
          first = first;
          locals = b.1.next;
          body = b.0;
          results = r.0;
        }),
        b.1,
      )

  no_defaults : (defaults : Cores) (n : ℕ) (locals : Locals) (p : Progress)
      → core_defaults out defaults [] n locals p ≡ (([], locals), p)
  no_defaults no_core n locals p = refl
  no_defaults (core_and first rest) n locals p = refl

  bare_lowered : (inner : Core) (params : Params) (d : Denotation) (first : ℕ) (r : Results × Progress) (within : Locals) (q : Progress)
      → Yes (has_no_keywords params) → Yes (is_lowered (core_term out inner within (told_some r.1.first q)).0)
      → Yes (is_lambda_lowered (lambda_from inner params d first r (([], within), q)).0)
  bare_lowered inner params d first r within q bare lowered =
      let b = core_term out inner within (told_some r.1.first q) in
      let row : Lambda-F _ _ _ _ _ _ = record {
        params = params;
        keywords = [];
        next = is_next d;
        first = first;
        locals = b.1.next;
        body = b.0;
        results = r.0;
      } in
      folds.lambda_lowered_is row ∙ and_true (has_no_keywords params) (is_lowered b.0) bare lowered

  mutual
    pub term_lowered : (d : Core) (locals : Locals) (p : Progress) → Yes (is_plain d) → AreQuiet locals
        → Yes (is_lowered (core_term out d locals p).0)
    term_lowered (literal value) locals p plain quiet = lit_lowered value ∙ plain
    term_lowered (name token) locals p plain quiet =
        named_lowered token (means out.owner locals token) p
        (means_quiet out.owner locals token quiet (turned (names_next token) plain))
    term_lowered (hidden number) locals p plain quiet =
        hidden_lowered (innermost locals (Hidden number)) (found_quiet locals (Hidden number) quiet tt)
    term_lowered (set token value) locals p plain quiet =
        let m = means out.owner locals token in
        let v = core_term out value locals (placed token m p) in
        assigned_lowered m v.0 (term_lowered value locals (placed token m p) plain quiet)
    term_lowered (no_place token place value) locals p plain quiet =
        let h = both_true (is_plain place) (is_plain value) plain in
        let q = told (fault_at NotAssignable token []) p in
        let l = core_term out place locals q in
        let v = core_term out value locals l.1 in
        folds.lowered_and l.0 v.0
        ∙ and_true (is_lowered l.0) (is_lowered v.0) (term_lowered place locals q h.0 quiet) (term_lowered value locals l.1 h.1 quiet)
    term_lowered (call function arguments) locals p plain quiet =
        let h = both_true (is_plain function) (are_plain arguments) plain in
        called_lowered (head_of out function locals) (core_term out function) (core_terms out arguments) locals p
        (head_quiet out function locals h.0 quiet)
        (λ q. term_lowered function locals q h.0 quiet)
        (λ q. terms_lowered arguments locals q h.1 quiet)
    term_lowered (values terms) locals p plain quiet =
        folds.lowered_op _ (core_terms out terms locals p).0 ∙ terms_lowered terms locals p plain quiet
    term_lowered (cond choice) locals p plain quiet =
        let c = core_choice out choice locals p in
        folds.lowered_cond c.0.0 c.0.1 ∙ choice_lowered choice locals p plain quiet
    term_lowered (and left right) locals p plain quiet =
        let h = both_true (is_plain left) (is_plain right) plain in
        let l = core_term out left locals p in
        let r = core_term out right locals l.1 in
        folds.lowered_and l.0 r.0
        ∙ and_true (is_lowered l.0) (is_lowered r.0) (term_lowered left locals p h.0 quiet) (term_lowered right locals l.1 h.1 quiet)
    term_lowered (or left right) locals p plain quiet =
        let h = both_true (is_plain left) (is_plain right) plain in
        let l = core_term out left locals p in
        let r = core_term out right locals l.1 in
        folds.lowered_or l.0 r.0
        ∙ and_true (is_lowered l.0) (is_lowered r.0) (term_lowered left locals p h.0 quiet) (term_lowered right locals l.1 h.1 quiet)
    term_lowered (select value test arms last) locals p plain quiet =
        let h = both_true (is_plain value) (is_maybe_plain test && (are_arms_plain arms && is_maybe_plain last)) plain in
        let g = both_true (is_maybe_plain test) (are_arms_plain arms && is_maybe_plain last) h.1 in
        let k = both_true (are_arms_plain arms) (is_maybe_plain last) g.1 in
        let v = core_term out value locals p in
        let t = core_maybe out test locals v.1 in
        let a = core_arms out arms locals t.1 in
        let l = core_maybe out last locals a.1 in
        folds.lowered_select v.0 t.0 a.0 l.0
        ∙ and_true (is_lowered v.0) _ (term_lowered value locals p h.0 quiet)
        (and_true (maybe_lowered t.0) _ (maybe_is_lowered test locals v.1 g.0 quiet)
        (and_true (arms_lowered a.0) (maybe_lowered l.0) (arms_are_lowered arms locals t.1 k.0 quiet)
        (maybe_is_lowered last locals a.1 k.1 quiet)))
    term_lowered (body items) locals p plain quiet =
        folds.lowered_body (core_items out items locals p).0 ∙ items_lowered items locals p plain quiet
    term_lowered (loop test inner) locals p plain quiet =
        let h = both_true (is_plain test) (is_plain inner) plain in
        let l = core_term out test locals p in
        let r = core_term out inner locals l.1 in
        folds.lowered_loop l.0 r.0
        ∙ and_true (is_lowered l.0) (is_lowered r.0) (term_lowered test locals p h.0 quiet) (term_lowered inner locals l.1 h.1 quiet)
    term_lowered (for clauses test inner finally) locals p plain quiet =
        let h = both_true (are_clauses_plain clauses) (is_test_plain test && (is_plain inner && is_maybe_plain finally)) plain in
        let g = both_true (is_test_plain test) (is_plain inner && is_maybe_plain finally) h.1 in
        let k = both_true (is_plain inner) (is_maybe_plain finally) g.1 in
        let start = p.next + clause_count clauses in
        let f = core_firsts out clauses locals start in
        let within = variables_bound clauses p.next locals in
        let kept = kept_bound clauses p.next locals in
        let q : Progress = record p { next = f.1 } in
        let c = core_clauses out clauses f.0 p.next within q in
        let t = core_test out test within c.1 in
        let b = core_term out inner within t.1 in
        let l = core_maybe out finally kept b.1 in
        let inside = variables_quiet clauses p.next locals quiet in
        folds.lowered_for _ ∙ folds.row_lowered c.0 t.0 b.0 l.0
        ∙ and_true (all_ready (map is_clause_lowered c.0)) _
        (clauses_lowered clauses f.0 p.next within q h.0 inside (firsts_lowered clauses locals start h.0 quiet))
        (and_true (behind_lowered t.0) _ (test_lowered test within c.1 g.0 inside)
        (and_true (is_lowered b.0) (maybe_lowered l.0) (term_lowered inner within t.1 k.0 inside)
        (maybe_is_lowered finally kept b.1 k.1 (kept_quiet clauses p.next locals quiet))))
    term_lowered (method row) locals p plain quiet =
        folds.lowered_method (core_lambda out row stands.NoMethod locals p).0
        ∙ lambda_lowered row stands.NoMethod locals p plain quiet
    term_lowered (block exit inner afterwards cleanup clauses) locals p plain quiet = untrue plain

    terms_lowered : (ds : Cores) (locals : Locals) (p : Progress) → Yes (are_plain ds) → AreQuiet locals
        → Yes (all_ready (map is_lowered (core_terms out ds locals p).0))
    terms_lowered no_core locals p plain quiet = refl
    terms_lowered (core_and first rest) locals p plain quiet =
        let h = both_true (is_plain first) (are_plain rest) plain in
        let f = core_term out first locals p in
        and_true (is_lowered f.0) _ (term_lowered first locals p h.0 quiet) (terms_lowered rest locals f.1 h.1 quiet)

    maybe_is_lowered : (d : MaybeCore) (locals : Locals) (p : Progress) → Yes (is_maybe_plain d) → AreQuiet locals
        → Yes (maybe_lowered (core_maybe out d locals p).0)
    maybe_is_lowered nothing locals p plain quiet = refl
    maybe_is_lowered (just term) locals p plain quiet = term_lowered term locals p plain quiet

    choice_lowered : (c : Choice) (locals : Locals) (p : Progress) → Yes (is_choice_plain c) → AreQuiet locals
        → let r = core_choice out c locals p in
        Yes (branches_lowered r.0.0 && is_lowered r.0.1)
    choice_lowered (otherwise term) locals p plain quiet = term_lowered term locals p plain quiet
    choice_lowered (branch test term others) locals p plain quiet =
        let h = both_true (is_plain test && is_plain term) (is_choice_plain others) plain in
        let g = both_true (is_plain test) (is_plain term) h.0 in
        let s = core_term out test locals p in
        let t = core_term out term locals s.1 in
        let r = core_choice out others locals t.1 in
        and_assoc (is_lowered s.0 && is_lowered t.0) (branches_lowered r.0.0) (is_lowered r.0.1)
        ∙ and_true (is_lowered s.0 && is_lowered t.0) _
        (and_true (is_lowered s.0) (is_lowered t.0) (term_lowered test locals p g.0 quiet) (term_lowered term locals s.1 g.1 quiet))
        (choice_lowered others locals t.1 h.1 quiet)

    arms_are_lowered : (arms : CoreArms) (locals : Locals) (p : Progress) → Yes (are_arms_plain arms) → AreQuiet locals
        → Yes (arms_lowered (core_arms out arms locals p).0)
    arms_are_lowered no_arm locals p plain quiet = refl
    arms_are_lowered (arm_and keys inner rest) locals p plain quiet =
        let h = both_true (are_plain keys && is_plain inner) (are_arms_plain rest) plain in
        let g = both_true (are_plain keys) (is_plain inner) h.0 in
        let k = core_terms out keys locals p in
        let b = core_term out inner locals k.1 in
        and_true (all_ready (map is_lowered k.0) && is_lowered b.0) _
        (and_true (all_ready (map is_lowered k.0)) (is_lowered b.0) (terms_lowered keys locals p g.0 quiet) (term_lowered inner locals k.1 g.1 quiet))
        (arms_are_lowered rest locals b.1 h.1 quiet)

    items_lowered : (is : CoreItems) (locals : Locals) (p : Progress) → Yes (are_items_plain is) → AreQuiet locals
        → Yes (all_ready (map is_item_lowered (core_items out is locals p).0))
    items_lowered no_item locals p plain quiet = refl
    items_lowered (item_and first rest) locals p plain quiet =
        let h = both_true (is_item_plain first) (are_items_plain rest) plain in
        let f = core_item out first locals p in
        let x = item_is_lowered first locals p h.0 quiet in
        and_true (is_item_lowered f.0.0) _ x.0 (items_lowered rest f.0.1 f.1 h.1 x.1)

    -- an item, and the locals behind it
    item_is_lowered : (i : CoreItem) (locals : Locals) (p : Progress) → Yes (is_item_plain i) → AreQuiet locals
        → let r = core_item out i locals p in
        Yes (is_item_lowered r.0.0) × AreQuiet r.0.1
    item_is_lowered (run term) locals p plain quiet =
        (folds.lowered_run (core_term out term locals p).0 ∙ term_lowered term locals p plain quiet, quiet)
    item_is_lowered (let_values typed rest term) locals p plain quiet =
        let last = p.next + length typed in
        let q = numbered (count rest) (numbered (length typed) p) in
        let t = read_numbered out typed p.next locals q in
        let v = core_term out term locals t.1 in (
          folds.lowered_let t.0 (number_of rest last) v.0
              ∙ and_true (are_distinct (with_rest (map (λ (n : ℕ × DyType). n.0) t.0) (number_of rest last))) (is_lowered v.0)
              (locals_distinct out typed rest p.next locals q) (term_lowered term locals t.1 plain quiet),
          some_quiet last rest (bound p.next (map (λ t. t.0) typed) locals) (bound_quiet p.next (map (λ t. t.0) typed) locals quiet),
        )
    item_is_lowered (let_methods methods) locals p plain quiet =
        let group = methods_bound methods p.next locals in
        let inside = methods_quiet methods p.next locals quiet in
        let q = numbered (method_count methods) p in (
          folds.lowered_methods (core_methods out methods p.next group q).0 ∙ methods_lowered methods p.next group q plain inside,
          inside,
        )
    item_is_lowered (handler condition function) locals p plain quiet = untrue plain

    methods_lowered : (ms : CoreMethods) (n : ℕ) (locals : Locals) (p : Progress) → Yes (are_methods_plain ms) → AreQuiet locals
        → Yes (local_methods_lowered (core_methods out ms n locals p).0)
    methods_lowered no_method n locals p plain quiet = refl
    methods_lowered (method_and token first rest) n locals p plain quiet =
        let h = both_true (is_lambda_plain first) (are_methods_plain rest) plain in
        let f = core_lambda out first stands.NoMethod locals p in
        and_true (is_lambda_lowered f.0) _ (lambda_lowered first stands.NoMethod locals p h.0 quiet)
        (methods_lowered rest (n + 1) locals f.1 h.1 quiet)

    -- the first expressions of clauses
    firsts_lowered : (cs : CoreClauses) (locals : Locals) (n : ℕ) → Yes (are_clauses_plain cs) → AreQuiet locals
        → Yes (all_ready (map apart_lowered (core_firsts out cs locals n).0))
    firsts_lowered no_clause locals n plain quiet = refl
    firsts_lowered (clause_and first rest) locals n plain quiet =
        let h = both_true (is_clause_plain first) (are_clauses_plain rest) plain in
        let f = core_first out first locals (fresh n) in
        and_true (apart_lowered f.0) _ (first_lowered first locals (fresh n) h.0 quiet) (firsts_lowered rest locals f.1.next h.1 quiet)

    first_lowered : (c : CoreClause) (locals : Locals) (p : Progress) → Yes (is_clause_plain c) → AreQuiet locals
        → Yes (apart_lowered (core_first out c locals p).0)
    first_lowered (then_clause variable declared first next) locals p plain quiet =
        let h = both_true (is_plain first) (is_plain next) plain in
        let t = read_type out declared locals p in
        and_true (is_lowered (core_term out first locals t.1).0) (true && true) (term_lowered first locals t.1 h.0 quiet) refl
    first_lowered (in_clause variable declared collection) locals p plain quiet = untrue plain
    first_lowered (from_clause variable declared start limit step) locals p plain quiet =
        let h = both_true (is_plain start) (is_limit_plain limit && is_maybe_plain step) plain in
        let g = both_true (is_limit_plain limit) (is_maybe_plain step) h.1 in
        let t = read_type out declared locals p in
        let f = core_term out start locals t.1 in
        let l = core_limit out limit locals f.1 in
        and_true (is_lowered f.0) _ (term_lowered start locals t.1 h.0 quiet)
        (and_true (behind_lowered l.0) _ (limit_lowered limit locals f.1 g.0 quiet) (maybe_is_lowered step locals l.1 g.1 quiet))

    limit_lowered : (l : CoreLimit) (locals : Locals) (p : Progress) → Yes (is_limit_plain l) → AreQuiet locals
        → Yes (behind_lowered (core_limit out l locals p).0)
    limit_lowered no_limit locals p plain quiet = refl
    limit_lowered (a_limit limit inner) locals p plain quiet = term_lowered inner locals p plain quiet

    test_lowered : (t : CoreTest) (locals : Locals) (p : Progress) → Yes (is_test_plain t) → AreQuiet locals
        → Yes (behind_lowered (core_test out t locals p).0)
    test_lowered no_test locals p plain quiet = refl
    test_lowered (a_test ends test) locals p plain quiet = term_lowered test locals p plain quiet

    -- clauses whose first expressions are lowered
    clauses_lowered : (cs : CoreClauses) (fs : List Apart) (n : ℕ) (locals : Locals) (p : Progress) → Yes (are_clauses_plain cs)
        → AreQuiet locals → Yes (all_ready (map apart_lowered fs))
        → Yes (all_ready (map is_clause_lowered (core_clauses out cs fs n locals p).0))
    clauses_lowered no_clause fs n locals p plain quiet firsts = refl
    clauses_lowered (clause_and first rest) [] n locals p plain quiet firsts = refl
    clauses_lowered (clause_and first rest) (f ∷ fs) n locals p plain quiet firsts =
        let h = both_true (is_clause_plain first) (are_clauses_plain rest) plain in
        let g = both_true (apart_lowered f) (all_ready (map apart_lowered fs)) firsts in
        let c = core_clause out first f n locals p in
        and_true (is_clause_lowered c.0) _ (clause_lowered first f n locals p h.0 quiet g.0)
        (clauses_lowered rest fs (n + 1) locals c.1 h.1 quiet g.1)

    clause_lowered : (c : CoreClause) (a : Apart) (n : ℕ) (locals : Locals) (p : Progress) → Yes (is_clause_plain c)
        → AreQuiet locals → Yes (apart_lowered a) → Yes (is_clause_lowered (core_clause out c a n locals p).0)
    clause_lowered (then_clause variable declared first next) a n locals p plain quiet is =
        let h = both_true (is_plain first) (is_plain next) plain in
        let q = told_some a.fault p in
        let t = core_term out next locals q in
        folds.lowered_then n a.declared a.first t.0
        ∙ and_true (is_lowered a.first) (is_lowered t.0)
        (both_true (is_lowered a.first) (behind_lowered a.limit && maybe_lowered a.step) is).0 (term_lowered next locals q h.1 quiet)
    clause_lowered (in_clause variable declared collection) a n locals p plain quiet is = untrue plain
    clause_lowered (from_clause variable declared start limit step) a n locals p plain quiet is =
        folds.lowered_from n a.declared a.first a.limit a.step ∙ is

    pub lambda_lowered : (l : CoreLambda) (d : Denotation) (locals : Locals) (p : Progress) → Yes (is_lambda_plain l)
        → AreQuiet locals → Yes (is_lambda_lowered (core_lambda out l d locals p).0)
    lambda_lowered (lambda params defaults inner results) d locals p plain quiet =
        let h = both_true (takes_plainly params) (is_plain inner) plain in
        let keys = key_types out locals (key_list params.keys) in
        let rest = p.next + length params.required in
        let own = numbered (length keys)
        (numbered (count params.rest) (numbered (length params.required) p)) in
        let required = map (λ (r : Token × CoreType). r.1) params.required in
        let t = read_types out required locals own in
        let shape = shape_of params t.0 in
        let r = read_results out results locals none in
        let within = params_bound params d p.next rest locals in
        let k = core_defaults out defaults keys (rest + count params.rest) within t.1 in
        let none_left : keys ≡ [] = ap (λ ks. key_types out locals (key_list ks)) (keys_gone params h.0) in
        let path : k ≡ (([], within), t.1) =
        ap (λ ks. core_defaults out defaults ks (rest + count params.rest) within t.1) none_left
        ∙ no_defaults defaults (rest + count params.rest) within t.1 in
        subst (λ k. Yes (is_lambda_lowered (lambda_from inner shape d p.next r k).0)) (sym path)
        (bare_lowered inner shape d p.next r within t.1 (keyless params t.0 h.0)
        (term_lowered inner within (told_some r.1.first t.1) h.1
        (params_quiet params d p.next rest locals (next_gone params h.0) quiet)))
