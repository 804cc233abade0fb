-- That no list of a unit holds an item twice.
use Rattle.std.specs.Prelude.{◌≡◌, Bool, false, List, [], ◌∷◌}
use Rattle.dy_values.specs.Identity.{is_same_binding}
use Rattle.dy_code.specs.declared.unit.UnitCode.{UnitCode}
use Rattle.dy_lowered.specs.Sameness.{is_same_literal, is_same_bound, is_same_params, is_same_type}
use Rattle.dy_lowered.specs.Sameness.{is_same_results}

-- none of these is the same as an item
abbrev pub Differ : {A : Type 0} → (A → A → Bool) → A → List A → Type 0
Differ same item [] = Unit {0}
Differ same item (other ∷ others) = (same item other ≡ false) × Differ same item others

abbrev pub Once : {A : Type 0} → (A → A → Bool) → List A → Type 0
Once same [] = Unit {0}
Once same (item ∷ items) = Differ same item items × Once same items

pub record HoldsOnce (unit : UnitCode) : Type 0 where
  pub constants : Once is_same_literal unit.constants
  pub names : Once is_same_binding unit.names
  pub bound : Once is_same_bound unit.bound
  pub lists : Once is_same_params unit.lists
  pub types : Once is_same_type unit.types
  pub results : Once is_same_results unit.results
