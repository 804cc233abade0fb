-- Parts with a separator between them.
use Rattle.std.specs.Prelude.{Bool, List, [], ◌∷◌, ◌++◌, flat_map}
use Rattle.dy_tree.specs.Fragments.{SeenFragment}
use Rattle.dy_write_parts.specs.Parts.{comma_unless}

abbrev pub separated : {A : Type 0} → SeenFragment → (A → List SeenFragment) → List A
    → List SeenFragment
separated separator part [] = []
separated separator part (first ∷ rest) =
    part first ++ flat_map (λ other. separator ∷ part other) rest

-- what stands behind parts, with a comma between, if there is any and if there are parts
abbrev pub joined_last : Bool → List SeenFragment → List SeenFragment
joined_last none [] = []
joined_last none (first ∷ rest) = comma_unless none ++ first ∷ rest
