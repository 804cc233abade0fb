-- A `for` from its parts, one after the other.
use Rattle.std.proofs.Common.{◌≡◌, ℕ, ◌+◌, ◌-◌, List, [], ◌∷◌, length, drop, map, refl, sym, ap}
use Rattle.std.proofs.Common.{◌∙◌, arith}
use Rattle.std.specs.Prelude.{Bool, Option}
use Rattle.std.proofs.lemmas.List.{length-map}
use Rattle.dy_term.specs.declared.draft.DraftForClause.{DraftForClause}
use Rattle.dy_term.specs.declared.term.Term.{Term, For}
use Rattle.dy_term.specs.declared.term.ForClause.{ForClause}
use Rattle.dy_term.specs.declared.term.ForRow.{roll-ForRow}
use Rattle.dy_term.specs.Drafts.{Core, MaybeCore, CoreTest, CoreClause, for, clauses_of}
use Rattle.dy_term.specs.Drafts.{seen_clause}
use Rattle.dy_names.specs.Naming.{Locals}
use Rattle.dy_names.specs.Outside.{Outside}
use Rattle.dy_binding.specs.declared.progress.Progress.{Progress}
use Rattle.dy_binding.specs.declared.progress.Apart.{Apart}
use Rattle.dy_binding.specs.Reads.{numbered}
use Rattle.dy_binding.specs.Bound.{clause_count, variables_bound, kept_bound}
use Rattle.dy_resolution.specs.Terms.{core_term, core_maybe, core_firsts}
use Rattle.dy_scope.specs.Parts.{core_turns}
use Rattle.dy_scope.proofs.Leaving.{left_variables, left_kept}

clauses_counted : (cs : List CoreClause) → clause_count (clauses_of cs) ≡ length cs
clauses_counted [] = refl
clauses_counted (c ∷ cs) = let h = clauses_counted cs in omega (arith, h)

module _ (out : Outside) (locals : Locals) (p : Progress) (m : ℕ) (me : m ≡ length locals)
    (ds : List DraftForClause) where
  -- the locals are those from before, behind the body and behind the result
  pub loop_left : (first : ℕ) (s1 s2 s5 s6 : Locals) → s1 ≡ locals
      → s2 ≡ variables_bound (clauses_of (map seen_clause ds)) first s1 → s5 ≡ s2
      → s6 ≡ drop (length s5 - m) s5 → s6 ≡ locals
  loop_left first s1 s2 s5 s6 e1 e2 e5 e6 =
      let cs = clauses_of (map seen_clause ds) in
      left_variables m locals me cs first s5 s6
      (e5 ∙ e2 ∙ ap (λ (s : Locals). variables_bound cs first s) e1) e6

  pub result_left : (first : ℕ) (s6 s7 s8 s9 : Locals) → s6 ≡ locals
      → s7 ≡ kept_bound (clauses_of (map seen_clause ds)) first s6 → s8 ≡ s7
      → s9 ≡ drop (length s8 - m) s8 → s9 ≡ locals
  result_left first s6 s7 s8 s9 e6 e7 e8 e9 =
      let cs = clauses_of (map seen_clause ds) in
      left_kept m locals me cs first s8 s9
      (e8 ∙ e7 ∙ ap (λ (s : Locals). kept_bound cs first s) e6) e9

  pub loop_made : (test : CoreTest) (inner : Core) (finally : MaybeCore) (first : ℕ)
      (q1 q2 q5 q6 : Progress) (s1 s2 s5 s6 s7 : Locals) (firsts : List Apart)
      (turns : List ForClause × Option (Bool × Term) × Term) (e : Option Term)
      → first ≡ p.next → q1 ≡ numbered (length ds) p
      → firsts ≡ (core_firsts out (clauses_of (map seen_clause ds)) locals q1.next).0
      → q2 ≡ record q1 {
        next = (core_firsts out (clauses_of (map seen_clause ds)) locals q1.next).1;
      } → s1 ≡ locals
      → s2 ≡ variables_bound (clauses_of (map seen_clause ds)) first s1
      → turns
      ≡ (core_turns out (clauses_of (map seen_clause ds)) test inner firsts first s2 q2).0
      → q5 ≡ (core_turns out (clauses_of (map seen_clause ds)) test inner firsts first s2 q2).1
      → s5 ≡ s2 → s6 ≡ drop (length s5 - m) s5
      → s7 ≡ kept_bound (clauses_of (map seen_clause ds)) first s6
      → e ≡ (core_maybe out finally s7 q5).0 → q6 ≡ (core_maybe out finally s7 q5).1
      → (For (roll-ForRow (record {
        clauses = turns.0;
        test = turns.1;
        body = turns.2;
        finally = e;
      })) ≡ (core_term out (for (clauses_of (map seen_clause ds)) test inner finally) locals p).0)
      × (q6 ≡ (core_term out (for (clauses_of (map seen_clause ds)) test inner finally) locals
      p).1)
  loop_made test inner finally first q1 q2 q5 q6 s1 s2 s5 s6 s7 firsts turns e ne qe fe fe' se1
      se2 te te' se5 le ke ee ee' =
      let cs = clauses_of (map seen_clause ds) in
      let n : length ds ≡ clause_count cs =
      sym (clauses_counted (map seen_clause ds)
      ∙ length-map {B = CoreClause} ds (λ x. seen_clause x)) in
      let own : q1 ≡ numbered (clause_count cs) p = qe ∙ ap (λ (k : ℕ). numbered k p) n in
      let f0 = fe ∙ (λ i. (core_firsts out cs locals (own i).next).0) in
      let f1 = fe' ∙ (λ i. record (own i) {
        next = (core_firsts out cs locals (own i).next).1;
      }) in
      let w2 = se2 ∙ (λ i. variables_bound cs (ne i) (se1 i)) in
      let t0 = te ∙ (λ i. (core_turns out cs test inner (f0 i) (ne i) (w2 i) (f1 i)).0) in
      let t1 = te' ∙ (λ i. (core_turns out cs test inner (f0 i) (ne i) (w2 i) (f1 i)).1) in
      let w6 = loop_left first s1 s2 s5 s6 se1 se2 se5 le in
      let w7 = ke ∙ (λ i. kept_bound cs (ne i) (w6 i)) in
      let e0 = ee ∙ (λ i. (core_maybe out finally (w7 i) (t1 i)).0) in
      let e1 = ee' ∙ (λ i. (core_maybe out finally (w7 i) (t1 i)).1) in (
        λ i. For (roll-ForRow (record {
          clauses = (t0 i).0;
          test = (t0 i).1;
          body = (t0 i).2;
          finally = e0 i;
        })),
        e1,
      )
