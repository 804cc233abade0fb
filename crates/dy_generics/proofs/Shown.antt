-- Laws of implicit generic functions, of the methods before a method, and of duplicates.
use Rattle.std.proofs.Common.{◌≡◌, ℕ, zero, suc, ◌<◌, ◌≤◌, Bool, true, false, List, [], ◌∷◌, ◌++◌, ◌⊎◌, length, replicate, drop, get_or, All, zip, is_some, Option, Some, None, cond, inl, inr, refl, sym, ap, subst, ◌∙◌, arith, append_assoc}
use Rattle.dy_base.specs.declared.ids.MethodId.{MethodId}
use Rattle.dy_term.specs.declared.types.DyType.{DyType}
use Rattle.dy_term.specs.declared.types.Params.{Params}
use Rattle.dy_term.specs.declared.types.Results.{Results}
use Rattle.dy_term.specs.declared.rows.MethodRow.{MethodRow}
use Rattle.dy_term.specs.declared.rows.Program.{Program}
use Rattle.dy_types.specs.Types.{IsSubtype}
use Rattle.dy_classes.specs.Lists.{In, first, next}
use Rattle.dy_order.specs.Methods.{methods_in, counted, method_id, methods_upto, methods_below, methods_of}
use Rattle.dy_order.proofs.Lists.{in_either, only_in}
use Rattle.dy_generics.specs.declared.misfit.Kinds.TheVariants.{Keywords, Rest, Neither}
use Rattle.dy_generics.specs.declared.misfit.Reason.{Reason}
use Rattle.dy_generics.specs.declared.misfit.Reason.TheVariants as reasons
use Rattle.dy_generics.specs.Congruence.{AllHold, test, same_kinds, typed, typed_by, keyed, kinds_of, keywords_of, option_list, further, params_tests, results_tests, method_tests}
use Rattle.dy_generics.specs.Duplicates.{AreDuplicates, AreEquivalent, earlier}
use Rattle.dy_generics.specs.Implicit.{object_type, no_keys, has_keys, plain_generic, implicit_row}
use Rattle.dy_generics.proofs.Composed.{all_append}

module _ (program : Program) where
  abbrev Below : DyType → Type 0
  Below type = IsSubtype program type object_type

  tail_all : (x : DyType) (xs : List DyType) → All Below (x ∷ xs) → All Below xs
  tail_all x xs a = λ k d h. a (suc k) d (omega arith)

  typed_all : (reason : Reason) (from : ℕ) (types : List DyType) → All Below types → AllHold program (typed reason from types (replicate (length types) object_type))
  typed_all reason from [] a = tt
  typed_all reason from (x ∷ types) a = (a 0 x (omega arith), typed_all reason (suc from) types (tail_all x types a))

  by_all : (from : ℕ) (types : List DyType) → All Below types → AllHold program (typed_by object_type from types)
  by_all from [] a = tt
  by_all from (x ∷ types) a = (a 0 x (omega arith), by_all (suc from) types (tail_all x types a))

  none_wanted : (reason : Reason) (from : ℕ) (types : List DyType) → AllHold program (typed reason from types [])
  none_wanted reason from [] = tt
  none_wanted reason from (x ∷ types) = tt

  long : {A : Type 0} (n : ℕ) (x : A) → n ≡ length (replicate n x)
  long zero x = refl
  long (suc n) x = ap suc (long n x)

  module _ (own : Params) (name : List ℕ) where
    abbrev made : Params
    made = let row = implicit_row name own in row.params

    kinds : (keys : Option (List (List ℕ))) → own.keys ≡ keys → kinds_of own ≡ kinds_of made
    kinds (Some keys) e = rw e refl
    kinds None e = rw e refl

    named : (keys : Option (List (List ℕ))) → own.keys ≡ keys → AllHold program (keyed own 0 (keywords_of made))
    named (Some keys) e = rw e tt
    named None e = rw e tt

    pub params_hold : All Below own.required → AllHold program (params_tests own made)
    params_hold a = (
      long (length own.required) object_type,
      all_append program (typed reasons.Specializer 0 own.required (replicate (length own.required) object_type)) (test 0 reasons.Kind (same_kinds own made) ∷ keyed own 0 (keywords_of made)) (typed_all reasons.Specializer 0 own.required a) (kinds own.keys refl, named own.keys refl),
    )

  module _ (own : Results) (name : List ℕ) (params : Params) where
    with_rest : (types : List DyType) (rest : Option DyType) → All Below types → ((type : DyType) → rest ≡ Some type → Below type) → (from : ℕ)
        → AllHold program (typed_by object_type from (types ++ option_list rest))
    with_rest [] None a h from = tt
    with_rest [] (Some type) a h from = (h type refl, tt)
    with_rest (x ∷ types) rest a h from = (a 0 x (omega arith), with_rest types rest (tail_all x types a) h (suc from))

    pub results_hold : All Below own.required → ((type : DyType) → own.rest ≡ Some type → Below type) → AllHold program (results_tests own (let row = implicit_row name params in row.results))
    results_hold a h = (omega arith, all_append program (typed reasons.ResultType 0 own.required []) (typed_by object_type 0 (further 0 own)) (none_wanted reasons.ResultType 0 own.required) (with_rest own.required own.rest a h 0))

  pub implicit_holds : (method : MethodRow) (name : List ℕ) → All Below method.params.required → All Below method.results.required
      → ((type : DyType) → method.results.rest ≡ Some type → Below type) → AllHold program (method_tests method (implicit_row name method.params))
  implicit_holds method name a b h =
      let row = implicit_row name method.params in
      all_append program (params_tests method.params row.params) (results_tests method.results row.results) (params_hold method.params name a) (results_hold method.results name method.params b h)

  -- what stands before a method
  upto_split : (library count : ℕ) (m : MethodId) → In m (methods_upto library count)
      → (after : List MethodId) × (m.0.library ≡ library) × (methods_upto library count ≡ methods_upto library m.0.row ++ m ∷ after)
  upto_split library zero m i = elim i [ ]
  upto_split library (suc row) m i =
      elim (in_either (methods_upto library row) (method_id library row ∷ []) m i) [
        | inl j ↦ (let (after, e, whole) = upto_split library row m j in
            (after ++ method_id library row ∷ [], e, ap (λ (v : List MethodId). v ++ method_id library row ∷ []) whole ∙ append_assoc (methods_upto library m.0.row) (m ∷ after) (method_id library row ∷ [])))
        | inr j ↦ (let e = only_in m (method_id library row) j in
            ([], ap (λ (v : MethodId). v.0.library) e, subst (λ (v : MethodId). methods_upto library row ++ method_id library row ∷ [] ≡ methods_upto library v.0.row ++ v ∷ []) (sym e) refl))
      ]

  below_split : (libraries : ℕ) (m : MethodId) → In m (methods_below program libraries) → (after : List MethodId) × (methods_below program libraries ≡ earlier program m ++ m ∷ after)
  below_split zero m i = elim i [ ]
  below_split (suc library) m i =
      let here = methods_upto library (counted (length (methods_in program library))) in
      elim (in_either (methods_below program library) here m i) [
        | inl j ↦ (let (after, whole) = below_split library m j in
            (after ++ here, ap (λ (v : List MethodId). v ++ here) whole ∙ append_assoc (earlier program m) (m ∷ after) here))
        | inr j ↦ (let (after, e, whole) = upto_split library (counted (length (methods_in program library))) m j in (
          after,
          subst (λ (v : ℕ). methods_below program library ++ here ≡ (methods_below program v ++ methods_upto v m.0.row) ++ m ∷ after) (sym e)
              (ap (λ (v : List MethodId). methods_below program library ++ v) whole ∙ sym (append_assoc (methods_below program library) (methods_upto library m.0.row) (m ∷ after))),
        ))
      ]

  pub split : (m : MethodId) → In m (methods_of program) → (after : List MethodId) × (methods_of program ≡ earlier program m ++ m ∷ after)
  split m i = below_split (counted (length program.libraries)) m i

  -- mutual subtypes the other way round
  abbrev Mutual : DyType × DyType → Type 0
  Mutual pair = IsSubtype program pair.0 pair.1 × IsSubtype program pair.1 pair.0

  turned : (types others : List DyType) (k : ℕ) (d : DyType × DyType) → k < length (zip others types)
      → (k < length (zip types others)) × (get_or (zip types others) k (d.1, d.0) ≡ (let p = get_or (zip others types) k d in (p.1, p.0)))
  turned [] [] k d h = absurd (omega arith)
  turned [] (y ∷ others) k d h = absurd (omega arith)
  turned (x ∷ types) [] k d h = absurd (omega arith)
  turned (x ∷ types) (y ∷ others) zero d h = (omega arith, refl)
  turned (x ∷ types) (y ∷ others) (suc k) d h = let (l, e) = turned types others k d (omega arith) in (omega (arith, l), e)

  equivalent_back : (types others : List DyType) → AreEquivalent program types others → AreEquivalent program others types
  equivalent_back types others a = (
    sym a.0,
    λ k d h. (let (l, e) = turned types others k d h in
        let both = subst Mutual e (a.1 k (d.1, d.0) l) in (both.1, both.0)),
  )

  pub duplicates_back : (method other : MethodId) → AreDuplicates program method other → AreDuplicates program other method
  duplicates_back method other d =
      record {
        row = d.second;
        second = d.row;
        at = d.second_at;
        second_at = d.at;
        generic = sym d.generic;
        types = equivalent_back d.row.params.required d.second.params.required d.types;
      }
