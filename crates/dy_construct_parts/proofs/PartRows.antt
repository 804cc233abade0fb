-- The constructs of lists of constants and of types, as those of each.
use Rattle.std.proofs.Common.{◌≡◌, List, [], ◌∷◌, ◌++◌, flat_map, refl, ap}
use Rattle.dy_rules.specs.ConstantTrees.{Constant, constants_of}
use Rattle.dy_rules.specs.Types.{TypeTree, types_of}
use Rattle.dy_construct_parts.specs.declared.construct.Construct.{Construct}
use Rattle.dy_construct_parts.specs.Parts.{in_constant, in_constants, in_type, in_types}

pub constants_flat : (parts : List Constant) → in_constants (constants_of parts) ≡ flat_map in_constant parts
constants_flat [] = refl
constants_flat (first ∷ rest) = ap (λ (others : List Construct). in_constant first ++ others) (constants_flat rest)

pub types_flat : (parts : List TypeTree) → in_types (types_of parts) ≡ flat_map in_type parts
types_flat [] = refl
types_flat (first ∷ rest) = ap (λ (others : List Construct). in_type first ++ others) (types_flat rest)
