-- Which of several faults is told.
use Rattle.std.specs.Prelude.{◌≡◌, ◌⊎◌, true, false, List, [], ◌∷◌, ◌++◌, Option, Some, None}
use Rattle.dy_base.specs.declared.fault.Fault.{Fault}
use Rattle.dy_modules.specs.Clauses.{IsIn}
use Rattle.dy_binding.specs.Faults.{comes_before}

abbrev pub or_more : Option Fault → List Fault → List Fault
or_more None faults = faults
or_more (Some fault) faults = fault ∷ faults

-- It is one of these, none of them comes before it, and it stands in front of those that are alike:
-- it comes before each that stands in front of it.
pub record IsTold (faults : List Fault) (fault : Fault) : Type 0 where
  pub before : List Fault
  pub behind : List Fault
  pub all : faults ≡ before ++ fault ∷ behind
  pub first : (other : Fault) → IsIn other before → comes_before fault other ≡ true
  pub least : (other : Fault) → IsIn other behind → comes_before other fault ≡ false

-- of phases, each with its faults, that of the first phase that has one
abbrev pub IsFirst : List (List Fault) → Option Fault → Type 0
IsFirst [] first = first ≡ None
IsFirst (faults ∷ phases) None = (faults ≡ []) × IsFirst phases None
IsFirst (faults ∷ phases) (Some fault) =
    IsTold faults fault ⊎ ((faults ≡ []) × IsFirst phases (Some fault))
