-- One more part of a list: what is done so far, and what the rest gives.
use Rattle.std.proofs.Common.{◌≡◌, ℕ, ◌+◌, ◌<◌, List, [], ◌∷◌, ◌++◌, length, map, drop, get_or, refl}
use Rattle.std.proofs.Common.{sym, ap, ◌∙◌, append_assoc}
use Rattle.std.proofs.lemmas.List.{drop_more}
use Rattle.dy_tree.specs.declared.token.Token.{Token}
use Rattle.dy_term.specs.declared.draft.DraftTerm.{DraftTerm}
use Rattle.dy_term.specs.declared.draft.DraftArm.{DraftArm}
use Rattle.dy_term.specs.declared.draft.DraftLambda.{DraftLambda}
use Rattle.dy_term.specs.declared.draft.DraftForClause.{DraftForClause}
use Rattle.dy_term.specs.declared.term.Term.{Term}
use Rattle.dy_term.specs.declared.term.Lambda.{Lambda}
use Rattle.dy_term.specs.declared.term.ForClause.{ForClause}
use Rattle.dy_term.specs.Drafts.{Core, cores_of, arms_of, methods_of, clauses_of, choice_of}
use Rattle.dy_term.specs.Drafts.{Cores, no_core, core_and, CoreClauses, no_clause}
use Rattle.dy_term.specs.Drafts.{clause_and, seen_term, seen_pair, seen_arm, seen_method}
use Rattle.dy_term.specs.Drafts.{seen_lambda, seen_clause}
use Rattle.dy_names.specs.declared.denotation.Denotation.TheVariants.{NoMethod}
use Rattle.dy_names.specs.Naming.{Locals}
use Rattle.dy_names.specs.Outside.{Outside}
use Rattle.dy_binding.specs.declared.progress.Progress.{Progress}
use Rattle.dy_binding.specs.declared.progress.Apart.{Apart}
use Rattle.dy_binding.proofs.Turns.{Goes}
use Rattle.dy_resolution.specs.Terms.{core_term, core_terms, core_arms, core_methods, core_lambda}
use Rattle.dy_resolution.specs.Terms.{core_firsts, core_first, core_clauses, core_clause, core_choice}
use Rattle.dy_resolution.specs.Terms.{core_defaults, fresh}
use Rattle.dy_scope.proofs.Next.{goes_on}

-- the rest of a list begins with the member at hand
begins : {A : Type 0} (xs : List A) (i : ℕ) (x : A) → i < length xs → x ≡ get_or xs i x
    → drop i xs ≡ x ∷ drop (i + 1) xs
begins xs i x l e = drop_more xs i x l ∙ ap (λ y. y ∷ drop (i + 1) xs) (sym e)

-- no clauses and no keywords are left
pub clauses_end : (out : Outside) (cs : CoreClauses) (n : ℕ) (locals : Locals) (p : Progress)
    → core_clauses out cs [] n locals p ≡ ([], p)
clauses_end out no_clause n locals p = refl
clauses_end out (clause_and first rest) n locals p = refl

pub defaults_end : (out : Outside) (ds : Cores) (n : ℕ) (locals : Locals) (p : Progress)
    → core_defaults out ds [] n locals p ≡ (([], locals), p)
defaults_end out no_core n locals p = refl
defaults_end out (core_and first rest) n locals p = refl

module _ (out : Outside) (locals now : Locals) (p r : Progress) where
  pub term_next : (xs : List DraftTerm) (i : ℕ) (x : DraftTerm) → i < length xs
      → x ≡ get_or xs i x → (whole : List Term × Progress) (before after : List Term) (t : Term)
      → t ≡ (core_term out (seen_term x) locals p).0
      → r ≡ (core_term out (seen_term x) locals p).1 → now ≡ locals → after ≡ before ++ t ∷ []
      → Goes whole before (core_terms out (cores_of (map seen_term (drop i xs))) locals p)
      → Goes whole after (core_terms out (cores_of (map seen_term (drop (i + 1) xs))) now r)
  term_next xs i x l e whole before after t te re ne a =
      goes_on whole before after t _ _
      (ap (λ ys. core_terms out (cores_of (map seen_term ys)) locals p) (begins xs i x l e)
      ∙ (λ j. let k = core_terms out (cores_of (map seen_term (drop (i + 1) xs))) (sym ne j)
      (sym re j) in (sym te j ∷ k.0, k.1))) a

module _ (out : Outside) (locals s now : Locals) (p q r : Progress) where
  pub arm_next : (xs : List DraftArm) (i : ℕ) (x : DraftArm) → i < length xs → x ≡ get_or xs i x
      → (whole : List (List Term × Term) × Progress) (before after : List (List Term × Term))
      (ks : List Term) (b : Term)
      → ks ≡ (core_terms out (cores_of (map seen_term x.values.items)) locals p).0
      → q ≡ (core_terms out (cores_of (map seen_term x.values.items)) locals p).1 → s ≡ locals
      → b ≡ (core_term out (seen_term x.body) s q).0
      → r ≡ (core_term out (seen_term x.body) s q).1 → now ≡ s → after ≡ before ++ (ks, b) ∷ []
      → Goes whole before (core_arms out (arms_of (map seen_arm (drop i xs))) locals p)
      → Goes whole after (core_arms out (arms_of (map seen_arm (drop (i + 1) xs))) now r)
  arm_next xs i x l e whole before after ks b ke qe se be re ne a =
      let b0 = be ∙ (λ j. (core_term out (seen_term x.body) (se j) (qe j)).0) in
      let b1 = re ∙ (λ j. (core_term out (seen_term x.body) (se j) (qe j)).1) in
      let w = ne ∙ se in
      goes_on whole before after (ks, b) _ _
      (ap (λ ys. core_arms out (arms_of (map seen_arm ys)) locals p) (begins xs i x l e)
      ∙ (λ j. let k = core_arms out (arms_of (map seen_arm (drop (i + 1) xs))) (sym w j)
      (sym b1 j) in ((sym ke j, sym b0 j) ∷ k.0, k.1))) a

  pub method_next : (xs : List (Token × DraftLambda)) (i : ℕ) (x : Token × DraftLambda)
      → i < length xs → x ≡ get_or xs i x → (whole : List (ℕ × Lambda) × Progress)
      (before after : List (ℕ × Lambda)) (n m : ℕ) (f : Lambda)
      → f ≡ (core_lambda out (seen_lambda x.1) NoMethod locals p).0
      → r ≡ (core_lambda out (seen_lambda x.1) NoMethod locals p).1 → now ≡ locals → m ≡ n + 1
      → after ≡ before ++ (n, f) ∷ []
      → Goes whole before
      (core_methods out (methods_of (map seen_method (drop i xs))) n locals p)
      → Goes whole after
      (core_methods out (methods_of (map seen_method (drop (i + 1) xs))) m now r)
  method_next xs i x l e whole before after n m f fe re ne me a =
      goes_on whole before after (n, f) _ _
      (ap (λ ys. core_methods out (methods_of (map seen_method ys)) n locals p)
      (begins xs i x l e)
      ∙ (λ j. let k = core_methods out (methods_of (map seen_method (drop (i + 1) xs)))
      (sym me j) (sym ne j) (sym re j) in ((n, sym fe j) ∷ k.0, k.1))) a

  pub first_next : (xs : List DraftForClause) (i : ℕ) (x : DraftForClause) → i < length xs
      → x ≡ get_or xs i x → (whole : List Apart × ℕ) (before after : List Apart) (n m : ℕ)
      (own ended : Progress) (found one : Apart) → own ≡ fresh n
      → found ≡ (core_first out (seen_clause x) locals own).0
      → ended ≡ (core_first out (seen_clause x) locals own).1 → now ≡ locals
      → one ≡ record found { fault = ended.first } → m ≡ ended.next
      → after ≡ before ++ one ∷ []
      → Goes whole before (core_firsts out (clauses_of (map seen_clause (drop i xs))) locals n)
      → Goes whole after (core_firsts out (clauses_of (map seen_clause (drop (i + 1) xs))) now m)
  first_next xs i x l e whole before after n m own ended found one oe fe ee ne ue me a =
      let f0 = fe ∙ (λ j. (core_first out (seen_clause x) locals (oe j)).0) in
      let f1 = ee ∙ (λ j. (core_first out (seen_clause x) locals (oe j)).1) in
      let u = ue ∙ (λ j. record (f0 j) { fault = (f1 j).first }) in
      let m1 = me ∙ (λ j. (f1 j).next) in
      goes_on whole before after one _ _
      (ap (λ ys. core_firsts out (clauses_of (map seen_clause ys)) locals n) (begins xs i x l e)
      ∙ (λ j. let k = core_firsts out (clauses_of (map seen_clause (drop (i + 1) xs))) (sym ne j)
      (sym m1 j) in (sym u j ∷ k.0, k.1))) a

  pub clause_next : (xs : List DraftForClause) (i : ℕ) (x : DraftForClause) → i < length xs
      → x ≡ get_or xs i x → (whole : List ForClause × Progress)
      (before after : List ForClause) (firsts rest : List Apart) (read : Apart) (n m : ℕ)
      (found : ForClause) → firsts ≡ read ∷ rest
      → found ≡ (core_clause out (seen_clause x) read n locals p).0
      → r ≡ (core_clause out (seen_clause x) read n locals p).1 → now ≡ locals → m ≡ n + 1
      → after ≡ before ++ found ∷ []
      → Goes whole before
      (core_clauses out (clauses_of (map seen_clause (drop i xs))) firsts n locals p)
      → Goes whole after
      (core_clauses out (clauses_of (map seen_clause (drop (i + 1) xs))) rest m now r)
  clause_next xs i x l e whole before after firsts rest read n m found ie fe re ne me a =
      let others = clauses_of (map seen_clause (drop (i + 1) xs)) in
      goes_on whole before after found _ _
      (ap (λ ys. core_clauses out (clauses_of (map seen_clause ys)) firsts n locals p)
      (begins xs i x l e)
      ∙ ap (λ fs. core_clauses out (clause_and (seen_clause x) others) fs n locals p) ie
      ∙ (λ j. let k = core_clauses out others rest (sym me j) (sym ne j) (sym re j) in
      (sym fe j ∷ k.0, k.1))) a

  pub pair_next : (xs : List (DraftTerm × DraftTerm)) (i : ℕ) (x : DraftTerm × DraftTerm)
      → i < length xs → x ≡ get_or xs i x
      → (last : Core) (whole : (List (Term × Term) × Term) × Progress)
      (before after : List (Term × Term)) (t b : Term)
      → t ≡ (core_term out (seen_term x.0) locals p).0
      → q ≡ (core_term out (seen_term x.0) locals p).1 → s ≡ locals
      → b ≡ (core_term out (seen_term x.1) s q).0
      → r ≡ (core_term out (seen_term x.1) s q).1 → now ≡ s → after ≡ before ++ (t, b) ∷ []
      → whole ≡ (let k = core_choice out (choice_of (map seen_pair (drop i xs)) last) locals p in
      ((before ++ k.0.0, k.0.1), k.1))
      → whole ≡ (let k = core_choice out (choice_of (map seen_pair (drop (i + 1) xs)) last) now r
      in ((after ++ k.0.0, k.0.1), k.1))
  pair_next xs i x l e last whole before after t b te qe se be re ne a f =
      let others = choice_of (map seen_pair (drop (i + 1) xs)) last in
      let b0 = be ∙ (λ j. (core_term out (seen_term x.1) (se j) (qe j)).0) in
      let b1 = re ∙ (λ j. (core_term out (seen_term x.1) (se j) (qe j)).1) in
      let w = ne ∙ se in
      let left = core_choice out others now r in
      let read = ap (λ ys. core_choice out (choice_of (map seen_pair ys) last) locals p)
      (begins xs i x l e)
      ∙ (λ j. let k = core_choice out others (sym w j) (sym b1 j) in
      (((sym te j, sym b0 j) ∷ k.0.0, k.0.1), k.1)) in
      f ∙ (λ j. ((before ++ (read j).0.0, (read j).0.1), (read j).1))
      ∙ (λ j. ((sym (append_assoc before ((t, b) ∷ []) left.0.0) j, left.0.1), left.1))
      ∙ (λ j. ((sym a j ++ left.0.0, left.0.1), left.1))
