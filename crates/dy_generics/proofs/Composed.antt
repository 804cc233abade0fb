-- Lists of tests, one after the other.
use Rattle.std.proofs.Common.{◌≡◌, ℕ, List, [], ◌∷◌, ◌++◌, ◌⊎◌, inl, inr, refl, subst}
use Rattle.std.specs.declared.result.Result.{Result}
use Rattle.std.specs.declared.result.Result.TheVariants.{Ok, Err}
use Rattle.dy_term.specs.declared.rows.Program.{Program}
use Rattle.dy_generics.specs.declared.misfit.Misfit.{Misfit}
use Rattle.dy_generics.specs.Congruence.{Holds, Test, misfit_of, AllHold, FirstFailing, Tested}

module _ (program : Program) where
  pub all_append : (xs ys : List Test) → AllHold program xs → AllHold program ys → AllHold program (xs ++ ys)
  all_append [] ys a b = b
  all_append (x ∷ xs) ys a b = (a.0, all_append xs ys a.1 b)

  later_fails : (xs ys : List Test) (m : Misfit) → AllHold program xs → FirstFailing program ys m → FirstFailing program (xs ++ ys) m
  later_fails [] ys m a f = f
  later_fails (x ∷ xs) ys m a f = inr (a.0, later_fails xs ys m a.1 f)

  earlier_fails : (xs ys : List Test) (m : Misfit) → FirstFailing program xs m → FirstFailing program (xs ++ ys) m
  earlier_fails [] ys m f = absurd f
  earlier_fails (x ∷ xs) ys m (inl h) = inl h
  earlier_fails (x ∷ xs) ys m (inr h) = inr (h.0, earlier_fails xs ys m h.1)

  -- where the first tests hold, the answer is that of the others
  pub go_on : (xs ys : List Test) (r : Result (Unit {0}) Misfit) → AllHold program xs → Tested program ys r → Tested program (xs ++ ys) r
  go_on xs ys (Ok u) a t = all_append xs ys a t
  go_on xs ys (Err m) a t = later_fails xs ys m a t

  -- where one of the first tests fails, it is told
  pub stop : (xs ys : List Test) (m : Misfit) → FirstFailing program xs m → Tested program (xs ++ ys) (Err m)
  stop xs ys m f = earlier_fails xs ys m f

  pub stop_second : (xs ys zs : List Test) (m : Misfit) → AllHold program xs → FirstFailing program ys m → Tested program (xs ++ (ys ++ zs)) (Err m)
  stop_second xs ys zs m a f = go_on xs (ys ++ zs) (Err m) a (stop ys zs m f)

  pub stop_third : (ws xs ys zs : List Test) (m : Misfit) → AllHold program ws → AllHold program xs → FirstFailing program ys m → Tested program (ws ++ (xs ++ (ys ++ zs))) (Err m)
  stop_third ws xs ys zs m a b f = go_on ws (xs ++ (ys ++ zs)) (Err m) a (stop_second xs ys zs m b f)

  pub last_of_three : (xs ys zs : List Test) (r : Result (Unit {0}) Misfit) → AllHold program xs → AllHold program ys → Tested program zs r → Tested program (xs ++ (ys ++ zs)) r
  last_of_three xs ys zs r a b t = go_on xs (ys ++ zs) r a (go_on ys zs r b t)

  pub last_of_four : (ws xs ys zs : List Test) (r : Result (Unit {0}) Misfit) → AllHold program ws → AllHold program xs → AllHold program ys → Tested program zs r → Tested program (ws ++ (xs ++ (ys ++ zs))) r
  last_of_four ws xs ys zs r a b d t = go_on ws (xs ++ (ys ++ zs)) r a (last_of_three xs ys zs r b d t)
