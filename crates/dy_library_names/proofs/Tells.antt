-- Faults that are told one behind the other.
use Rattle.std.proofs.Common.{◌≡◌, true≢false, is_some, List, [], ◌∷◌, ◌++◌, Option, Some, None}
use Rattle.std.proofs.Common.{refl, ap}
use Rattle.dy_base.specs.declared.fault.Fault.{Fault}
use Rattle.dy_binding.specs.declared.progress.Progress.{Progress}
use Rattle.dy_binding.specs.Faults.{first_of_two}
use Rattle.dy_binding.specs.Reads.{told, told_some}
use Rattle.dy_library_names.specs.Passes.{told_all, first_behind, first_of}
use Rattle.dy_library_names.specs.Told.{or_more}

pub told_more : (fs : List Fault) (f : Fault) (p : Progress)
    → told_all (fs ++ f ∷ []) p ≡ told f (told_all fs p)
told_more [] f p = refl
told_more (g ∷ fs) f p = told_more fs f (told g p)

pub told_both : (fs gs : List Fault) (p : Progress)
    → told_all (fs ++ gs) p ≡ told_all gs (told_all fs p)
told_both [] gs p = refl
told_both (f ∷ fs) gs p = told_both fs gs (told f p)

pub told_first : (fs : List Fault) (p : Progress)
    → (told_all fs p).first ≡ first_behind p.first fs
told_first [] p = refl
told_first (f ∷ fs) p = told_first fs (told f p)

pub told_some_more : (o : Option Fault) (fs : List Fault) (p : Progress)
    → told_all fs (told_some o p) ≡ told_all (or_more o fs) p
told_some_more None fs p = refl
told_some_more (Some f) fs p = refl

-- there is a first one, where there is one
pub never : (fs : List Fault) (f : Fault) → first_behind (Some f) fs ≡ None → ⊥
never [] f e = true≢false (ap is_some e)
never (g ∷ fs) f e = never fs (first_of_two (Some f) g) e

pub none_told : (fs gs : List Fault) → first_of (fs ++ gs) ≡ None → fs ≡ []
none_told [] gs e = refl
none_told (f ∷ fs) gs e = absurd (never (fs ++ gs) (first_of_two None f) e)
