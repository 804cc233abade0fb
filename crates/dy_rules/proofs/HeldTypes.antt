-- What stands in a row in memory, as a list.
use Rattle.std.proofs.Common.{◌≡◌, map, Option, Some, None, option_map, Box, Global, refl, ap}
use Rattle.dy_tree.specs.declared.types.ConstantForm.{ConstantForm, Row_of-ConstantForm, end_of-ConstantForm, more_of-ConstantForm, items-the_row-ConstantForm, back-ConstantForm-List-2}
use Rattle.dy_tree.specs.declared.types.TypeForm.{Row_of-TypeForm, end_of-TypeForm, more_of-TypeForm, items-the_row-TypeForm}
use Rattle.dy_rules.specs.ConstantTrees.{Constants, constant_and, constants_of, tail_of}
use Rattle.dy_rules.specs.Types.{TypeTrees, type_and, types_of}
use Rattle.dy_rules.specs.SeenTypes.{seen_constant, seen_constants, seen_tail, seen_type, seen_types}

-- the items of a list or a vector
pub inner_constants : {m : _} (forms : Row_of-ConstantForm m) → seen_constants forms ≡ constants_of (map seen_constant (items-the_row-ConstantForm m forms))
inner_constants end_of-ConstantForm = refl
inner_constants (more_of-ConstantForm first rest) = ap (λ (others : Constants). constant_and (seen_constant first) others) (inner_constants rest)

-- the tail of a list inside of a literal
pub inner_tail : (last : Option (Box ConstantForm Global)) → seen_tail (back-ConstantForm-List-2 last) ≡ tail_of (option_map (λ boxed. seen_constant boxed.value) last)
inner_tail None = refl
inner_tail (Some boxed) = refl

-- the types inside a union
pub inner_types : {m : _} (forms : Row_of-TypeForm m) → seen_types forms ≡ types_of (map seen_type (items-the_row-TypeForm m forms))
inner_types end_of-TypeForm = refl
inner_types (more_of-TypeForm first rest) = ap (λ (others : TypeTrees). type_and (seen_type first) others) (inner_types rest)
