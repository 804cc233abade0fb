-- Values behind the types.
use Rattle.std.proofs.Common.{◌≡◌, List, [], ◌∷◌, None, refl}
use Rattle.dy_values.specs.declared.value.Variant.{Variant}
use Rattle.dy_values.specs.declared.store.Store.{Store}
use Rattle.dy_steps.specs.Configurations.{Machine}
use Rattle.dy_steps.specs.Arguments.{wrong_behind}

-- are of any type where the rest has none
pub behind_none : (m : Machine) (store : Store) (values : List Variant)
    → wrong_behind m store values None ≡ None
behind_none m store [] = refl
behind_none m store (value ∷ values) = refl
