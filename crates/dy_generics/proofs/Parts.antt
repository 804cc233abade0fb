-- The tests of parameters and of results, part by part.
use Rattle.std.proofs.Common.{◌≡◌, ℕ, List, [], ◌∷◌, ◌++◌, length, Option, Some, None, refl, sym, subst}
use Rattle.std.specs.declared.result.Result.{Result}
use Rattle.std.specs.declared.result.Result.TheVariants.{Ok, Err}
use Rattle.dy_term.specs.declared.types.DyType.{DyType}
use Rattle.dy_term.specs.declared.types.Params.{Params}
use Rattle.dy_term.specs.declared.types.Results.{Results}
use Rattle.dy_term.specs.declared.rows.Program.{Program}
use Rattle.dy_generics.specs.declared.misfit.Misfit.{Misfit}
use Rattle.dy_generics.specs.declared.misfit.Reason.{Reason}
use Rattle.dy_generics.specs.declared.misfit.Reason.TheVariants as reasons
use Rattle.dy_generics.specs.Congruence.{Test, test, same_number, same_kinds, enough_results, typed, keyed, keywords_of, rest_tests, params_tests, results_tests, AllHold, FirstFailing, Tested}
use Rattle.dy_generics.proofs.Composed.{go_on, stop, stop_second, stop_third, last_of_three, last_of_four}

module _ (program : Program) where
  moved_types : (reason : Reason) (T W types wanted : List DyType) (r : Result (Unit {0}) Misfit) → T ≡ types → W ≡ wanted → Tested program (typed reason 0 T W) r → Tested program (typed reason 0 types wanted) r
  moved_types reason T W types wanted r e f t =
      subst (λ (v : List DyType). Tested program (typed reason 0 types v) r) f (subst (λ (v : List DyType). Tested program (typed reason 0 v W) r) e t)

  module _ (own wanted : Params) where
    abbrev pub count_test : Test
    count_test = test 0 reasons.Count (same_number (length own.required) (length wanted.required))

    abbrev pub kind_test : Test
    kind_test = test 0 reasons.Kind (same_kinds own wanted)

    abbrev types_tests : List Test
    types_tests = typed reasons.Specializer 0 own.required wanted.required

    abbrev keys_tests : List Test
    keys_tests = keyed own 0 (keywords_of wanted)

    pub count_fails : (m : Misfit) → Tested program (count_test ∷ []) (Err m) → Tested program (params_tests own wanted) (Err m)
    count_fails m f = stop program (count_test ∷ []) (types_tests ++ (kind_test ∷ keys_tests)) m f

    pub types_fail : (T W : List DyType) (m : Misfit) → T ≡ own.required → W ≡ wanted.required → AllHold program (count_test ∷ []) → Tested program (typed reasons.Specializer 0 T W) (Err m) → Tested program (params_tests own wanted) (Err m)
    types_fail T W m e f a t = stop_second program (count_test ∷ []) types_tests (kind_test ∷ keys_tests) m a (moved_types reasons.Specializer T W own.required wanted.required (Err m) e f t)

    pub kind_fails : (T W : List DyType) (m : Misfit) → T ≡ own.required → W ≡ wanted.required → AllHold program (count_test ∷ []) → AllHold program (typed reasons.Specializer 0 T W) → Tested program (kind_test ∷ []) (Err m)
        → Tested program (params_tests own wanted) (Err m)
    kind_fails T W m e f a b t =
        stop_third program (count_test ∷ []) types_tests (kind_test ∷ []) keys_tests m a (moved_types reasons.Specializer T W own.required wanted.required (Ok tt) e f b) t

    pub keys_tell : (T W : List DyType) (K : List (List ℕ)) (r : Result (Unit {0}) Misfit) → T ≡ own.required → W ≡ wanted.required → K ≡ keywords_of wanted → AllHold program (count_test ∷ []) → AllHold program (typed reasons.Specializer 0 T W)
        → AllHold program (kind_test ∷ []) → Tested program (keyed own 0 K) r → Tested program (params_tests own wanted) r
    keys_tell T W K r e f g a b d t =
        last_of_four program (count_test ∷ []) types_tests (kind_test ∷ []) keys_tests r a (moved_types reasons.Specializer T W own.required wanted.required (Ok tt) e f b) d
        (subst (λ (v : List (List ℕ)). Tested program (keyed own 0 v) r) g t)

  module _ (own wanted : Results) where
    abbrev pub enough_test : Test
    enough_test = test 0 reasons.ResultCount (enough_results own wanted)

    abbrev result_types : List Test
    result_types = typed reasons.ResultType 0 own.required wanted.required

    pub enough_fails : (m : Misfit) → Tested program (enough_test ∷ []) (Err m) → Tested program (results_tests own wanted) (Err m)
    enough_fails m f = stop program (enough_test ∷ []) (result_types ++ rest_tests own wanted wanted.rest) m f

    pub results_fail : (T W : List DyType) (m : Misfit) → T ≡ own.required → W ≡ wanted.required → AllHold program (enough_test ∷ []) → Tested program (typed reasons.ResultType 0 T W) (Err m) → Tested program (results_tests own wanted) (Err m)
    results_fail T W m e f a t = stop_second program (enough_test ∷ []) result_types (rest_tests own wanted wanted.rest) m a (moved_types reasons.ResultType T W own.required wanted.required (Err m) e f t)

    pub rest_tells : (T W : List DyType) (rest : Option DyType) (r : Result (Unit {0}) Misfit) → T ≡ own.required → W ≡ wanted.required → wanted.rest ≡ rest → AllHold program (enough_test ∷ []) → AllHold program (typed reasons.ResultType 0 T W)
        → Tested program (rest_tests own wanted rest) r → Tested program (results_tests own wanted) r
    rest_tells T W rest r e f g a b t =
        last_of_three program (enough_test ∷ []) result_types (rest_tests own wanted wanted.rest) r a (moved_types reasons.ResultType T W own.required wanted.required (Ok tt) e f b)
        (subst (λ (v : Option DyType). Tested program (rest_tests own wanted v) r) (sym g) t)
