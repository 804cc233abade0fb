-- A body with parameters from its parts, one after the other.
use Rattle.std.proofs.Common.{◌≡◌, ℕ, ◌+◌, ◌-◌, List, length, drop, map, sym, ap, ◌∙◌}
use Rattle.std.specs.Prelude.{Option, Result}
use Rattle.std.proofs.lemmas.List.{length-map}
use Rattle.dy_base.specs.declared.fault.Fault.{Fault}
use Rattle.dy_tree.specs.declared.token.Token.{Token}
use Rattle.dy_term.specs.declared.draft.DraftLambda.{DraftLambda}
use Rattle.dy_term.specs.declared.types.DyType.{DyType}
use Rattle.dy_term.specs.declared.types.Params.{Params}
use Rattle.dy_term.specs.declared.types.Results.{Results}
use Rattle.dy_term.specs.declared.term.Term.{Term}
use Rattle.dy_term.specs.declared.term.Lambda.{Lambda, roll-Lambda}
use Rattle.dy_term.specs.Types.{CoreType, seen_typed, seen_params, seen_results}
use Rattle.dy_term.specs.Drafts.{cores_of, seen_term, seen_lambda}
use Rattle.dy_names.specs.declared.denotation.Denotation.{Denotation}
use Rattle.dy_names.specs.Naming.{Locals}
use Rattle.dy_names.specs.Outside.{Outside}
use Rattle.dy_binding.specs.declared.progress.Progress.{Progress}
use Rattle.dy_binding.specs.Reads.{none, numbered, told_some}
use Rattle.dy_binding.specs.Bound.{count, params_bound}
use Rattle.dy_binding.specs.Names.{is_next}
use Rattle.dy_binding.specs.Types.{read_types, read_results, key_types, key_list, shape_of}
use Rattle.dy_resolution.specs.Terms.{core_term, core_lambda, core_defaults}
use Rattle.dy_scope.proofs.Leaving.{left_defaults}

module _ (out : Outside) (draft : DraftLambda) (d : Denotation) (locals : Locals)
    (p : Progress) where
  -- the locals are those from before
  pub lambda_left : (m : ℕ) → m ≡ length locals → (first rest key : ℕ)
      (keys : List (Token × Result DyType Fault)) (q4 : Progress) (s1 s2 s3 s4 : Locals)
      → s1 ≡ params_bound (seen_params draft.params) d first rest locals
      → s2 ≡ (core_defaults out (cores_of (map seen_term draft.defaults.items)) keys key s1
      q4).0.1
      → s3 ≡ s2 → s4 ≡ drop (length s3 - m) s3 → s4 ≡ locals
  lambda_left m me first rest key keys q4 s1 s2 s3 s4 e1 e2 e3 e4 =
      left_defaults m locals me out (seen_params draft.params) d first rest
      (cores_of (map seen_term draft.defaults.items)) keys key q4 s1 s3 s4 e1 (e3 ∙ e2) e4

  pub lambda_made : (first rest key : ℕ) (keys : List (Token × Result DyType Fault))
      (q1 q2 q3 q4 q5 q6 q7 apart : Progress) (s1 s2 : Locals) (required : List DyType)
      (results : Results) (keywords : List (DyType × Term)) (b : Term) (shape : Params)
      → first ≡ p.next → q1 ≡ numbered (length draft.params.required.items) p
      → rest ≡ q1.next → q2 ≡ numbered (count draft.params.rest) q1
      → keys ≡ key_types out locals (key_list (seen_params draft.params).keys)
      → key ≡ q2.next → q3 ≡ numbered (length keys) q2
      → required
      ≡ (read_types out (map (λ r. r.1) (map seen_typed draft.params.required.items)) locals
      q3).0
      → q4 ≡ (read_types out (map (λ r. r.1) (map seen_typed draft.params.required.items)) locals
      q3).1
      → results ≡ (read_results out (seen_results draft.results) locals none).0
      → apart ≡ (read_results out (seen_results draft.results) locals none).1
      → s1 ≡ params_bound (seen_params draft.params) d first rest locals
      → keywords ≡ (core_defaults out (cores_of (map seen_term draft.defaults.items)) keys key s1
      q4).0.0
      → q5 ≡ (core_defaults out (cores_of (map seen_term draft.defaults.items)) keys key s1 q4).1
      → s2 ≡ (core_defaults out (cores_of (map seen_term draft.defaults.items)) keys key s1
      q4).0.1
      → q6 ≡ told_some apart.first q5
      → b ≡ (core_term out (seen_term draft.body) s2 q6).0
      → q7 ≡ (core_term out (seen_term draft.body) s2 q6).1
      → shape ≡ shape_of (seen_params draft.params) required
      → (roll-Lambda (record {
        params = shape;
        keywords = keywords;
        next = is_next d;
        first = first;
        locals = q7.next;
        body = b;
        results = results;
      }) ≡ (core_lambda out (seen_lambda draft) d locals p).0)
      × (q7 ≡ (core_lambda out (seen_lambda draft) d locals p).1)
  lambda_made first rest key keys q1 q2 q3 q4 q5 q6 q7 apart s1 s2 required results keywords b
      shape fe qe1 re qe2 ke ne qe3 te te' ue ue' se1 de de' se2 oe be be' he =
      let params = seen_params draft.params in
      let ds = cores_of (map seen_term draft.defaults.items) in
      let n : length draft.params.required.items ≡ length params.required =
      sym (length-map {B = Token × CoreType} draft.params.required.items
      (λ x. seen_typed x)) in
      let o1 : q1 ≡ numbered (length params.required) p =
      qe1 ∙ ap (λ (k : ℕ). numbered k p) n in
      let r1 : rest ≡ p.next + length params.required = re ∙ ap (λ (q : Progress). q.next) o1 in
      let o2 : q2 ≡ numbered (count params.rest) (numbered (length params.required) p) =
      qe2 ∙ ap (λ (q : Progress). numbered (count params.rest) q) o1 in
      let k1 : key ≡ p.next + length params.required + count params.rest =
      ne ∙ ap (λ (q : Progress). q.next) o2 in
      let o3 = qe3 ∙ (λ i. numbered (length (ke i)) (o2 i)) in
      let t0 = te ∙ (λ i. (read_types out (map (λ r. r.1) params.required) locals (o3 i)).0) in
      let t1 = te' ∙ (λ i. (read_types out (map (λ r. r.1) params.required) locals (o3 i)).1) in
      let w1 = se1 ∙ (λ i. params_bound params d (fe i) (r1 i) locals) in
      let d0 = de ∙ (λ i. (core_defaults out ds (ke i) (k1 i) (w1 i) (t1 i)).0.0) in
      let d1 = de' ∙ (λ i. (core_defaults out ds (ke i) (k1 i) (w1 i) (t1 i)).1) in
      let w2 = se2 ∙ (λ i. (core_defaults out ds (ke i) (k1 i) (w1 i) (t1 i)).0.1) in
      let o6 = oe ∙ (λ i. told_some (ue' i).first (d1 i)) in
      let b0 = be ∙ (λ i. (core_term out (seen_term draft.body) (w2 i) (o6 i)).0) in
      let b1 = be' ∙ (λ i. (core_term out (seen_term draft.body) (w2 i) (o6 i)).1) in
      let h = he ∙ (λ i. shape_of params (t0 i)) in (
        λ i. roll-Lambda (record {
          params = h i;
          keywords = d0 i;
          next = is_next d;
          first = fe i;
          locals = (b1 i).next;
          body = b0 i;
          results = ue i;
        }),
        b1,
      )
