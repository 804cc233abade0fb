-- One test more of a list of types or keywords.
use Rattle.std.proofs.Common.{◌≡◌, ℕ, zero, suc, ◌+◌, ◌<◌, ◌≤◌, min, List, [], ◌∷◌, ◌++◌, ◌⊎◌, length, get_or, drop, inl, inr, refl, sym, ap, subst, ◌∙◌, arith, add-one}
use Rattle.std.proofs.lemmas.List.{drop_all}
use Rattle.std.specs.declared.result.Result.{Result}
use Rattle.std.specs.declared.result.Result.TheVariants.{Ok, Err}
use Rattle.dy_term.specs.declared.types.DyType.{DyType}
use Rattle.dy_term.specs.declared.types.Params.{Params}
use Rattle.dy_term.specs.declared.rows.Program.{Program}
use Rattle.dy_types.specs.Types.{IsSubtype}
use Rattle.dy_generics.specs.declared.misfit.Misfit.{Misfit}
use Rattle.dy_generics.specs.declared.misfit.Reason.{Reason}
use Rattle.dy_generics.specs.declared.misfit.Reason.TheVariants as reasons
use Rattle.dy_generics.specs.Congruence.{Holds, Test, test, is_subtype, takes_keyword, misfit_of, AllHold, FirstFailing, Tested, typed, typed_by, keyed}

module _ {A : Type 0} where
  drop_next : (xs : List A) (i : ℕ) (x : A) → i < length xs → x ≡ get_or xs i x → drop i xs ≡ x ∷ drop (suc i) xs
  drop_next [] i x h e = absurd (omega arith)
  drop_next (y ∷ xs) zero x h e = ap (λ (v : A). v ∷ xs) (sym e)
  drop_next (y ∷ xs) (suc i) x h e = drop_next xs i x (omega arith) e

pub either_ends : (a b i : ℕ) → min a b ≤ i → (a ≤ i) ⊎ (b ≤ i)
either_ends zero b i h = inl (omega arith)
either_ends (suc a) zero i h = inr (omega arith)
either_ends (suc a) (suc b) zero h = absurd (omega (arith, h))
either_ends (suc a) (suc b) (suc i) h = elim (either_ends a b i (omega (arith, h))) [ inl l ↦ inl (omega (arith, l)) | inr l ↦ inr (omega (arith, l)) ]

module _ (program : Program) where
  -- a test that holds is passed over, and one that does not is told
  pass : (t : Test) (tests : List Test) (r : Result (Unit {0}) Misfit) → Holds program t.claim → Tested program tests r → Tested program (t ∷ tests) r
  pass t tests (Ok u) h a = (h, a)
  pass t tests (Err m) h a = inr (h, a)

  module _ (reason : Reason) (i : ℕ) (types wanted : List DyType) (own type : DyType) (h : i < length types) (l : i < length wanted)
      (e : own ≡ get_or types i own) (f : type ≡ get_or wanted i type) where
    same : typed reason i (drop i types) (drop i wanted) ≡ test i reason (is_subtype own type) ∷ typed reason (suc i) (drop (suc i) types) (drop (suc i) wanted)
    same = rw (drop_next types i own h e, drop_next wanted i type l f) refl

    pub typed_passes : (r : Result (Unit {0}) Misfit) → IsSubtype program own type
        → Tested program (typed reason (i + 1) (drop (i + 1) types) (drop (i + 1) wanted)) r → Tested program (typed reason i (drop i types) (drop i wanted)) r
    typed_passes r below t =
        subst (λ (v : List Test). Tested program v r) (sym same)
        (pass (test i reason (is_subtype own type)) (typed reason (suc i) (drop (suc i) types) (drop (suc i) wanted)) r below (rw add-one at t))

    pub typed_stops : (m : Misfit) → (IsSubtype program own type → ⊥) → m ≡ misfit_of (test i reason (is_subtype own type)) → Tested program (typed reason i (drop i types) (drop i wanted)) (Err m)
    typed_stops m out q = subst (λ (v : List Test). FirstFailing program v m) (sym same) (inl (out, q))

  pub typed_ends : (reason : Reason) (i : ℕ) (types wanted : List DyType) → (length types ≤ i) ⊎ (length wanted ≤ i) → AllHold program (typed reason i (drop i types) (drop i wanted))
  typed_ends reason i types wanted (inl h) = rw (drop_all i types h) tt
  typed_ends reason i types wanted (inr h) = rw (drop_all i wanted h) (none reason i (drop i types))
    where
      none : (reason : Reason) (i : ℕ) (types : List DyType) → AllHold program (typed reason i types [])
      none reason i [] = tt
      none reason i (x ∷ types) = tt

  module _ (type : DyType) (i : ℕ) (types last : List DyType) (own : DyType) (h : i < length types) (e : own ≡ get_or types i own) where
    same_by : typed_by type i (drop i types ++ last) ≡ test i reasons.ResultType (is_subtype own type) ∷ typed_by type (suc i) (drop (suc i) types ++ last)
    same_by = rw (drop_next types i own h e) refl

    pub by_passes : (r : Result (Unit {0}) Misfit) → IsSubtype program own type
        → Tested program (typed_by type (i + 1) (drop (i + 1) types ++ last)) r → Tested program (typed_by type i (drop i types ++ last)) r
    by_passes r below t =
        subst (λ (v : List Test). Tested program v r) (sym same_by)
        (pass (test i reasons.ResultType (is_subtype own type)) (typed_by type (suc i) (drop (suc i) types ++ last)) r below (rw add-one at t))

    pub by_stops : (m : Misfit) → (IsSubtype program own type → ⊥) → m ≡ misfit_of (test i reasons.ResultType (is_subtype own type)) → Tested program (typed_by type i (drop i types ++ last)) (Err m)
    by_stops m out q = subst (λ (v : List Test). FirstFailing program v m) (sym same_by) (inl (out, q))

  module _ (own : Params) (i : ℕ) (keywords : List (List ℕ)) (keyword : List ℕ) (h : i < length keywords) (e : keyword ≡ get_or keywords i keyword) where
    same_key : keyed own i (drop i keywords) ≡ test i reasons.Keyword (takes_keyword own keyword) ∷ keyed own (suc i) (drop (suc i) keywords)
    same_key = rw (drop_next keywords i keyword h e) refl

    pub key_passes : (r : Result (Unit {0}) Misfit) → Holds program (takes_keyword own keyword)
        → Tested program (keyed own (i + 1) (drop (i + 1) keywords)) r → Tested program (keyed own i (drop i keywords)) r
    key_passes r taken t =
        subst (λ (v : List Test). Tested program v r) (sym same_key)
        (pass (test i reasons.Keyword (takes_keyword own keyword)) (keyed own (suc i) (drop (suc i) keywords)) r taken (rw add-one at t))

    pub key_stops : (m : Misfit) → (Holds program (takes_keyword own keyword) → ⊥) → m ≡ misfit_of (test i reasons.Keyword (takes_keyword own keyword)) → Tested program (keyed own i (drop i keywords)) (Err m)
    key_stops m out q = subst (λ (v : List Test). FirstFailing program v m) (sym same_key) (inl (out, q))

  pub by_ends : (type : DyType) (i n : ℕ) (types last : List DyType) (r : Result (Unit {0}) Misfit) → length types ≤ i → n ≡ i → Tested program (typed_by type n last) r → Tested program (typed_by type i (drop i types ++ last)) r
  by_ends type i n types last r h e t = rw (drop_all i types h) (subst (λ (v : ℕ). Tested program (typed_by type v last) r) e t)
