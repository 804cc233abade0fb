-- What lists are written as, by their parts.
use Rattle.std.proofs.Common.{◌≡◌, List, [], ◌∷◌, ◌++◌, flat_map, refl, sym, ap, ◌∙◌, append_assoc}
use Rattle.dy_tree.specs.declared.token.Token.{Token}
use Rattle.dy_tree.specs.Fragments.{SeenFragment, one}
use Rattle.dy_rules.specs.ConstantTrees.{Constant, constants_of}
use Rattle.dy_rules.specs.Types.{Bound, TypeTree, types_of}
use Rattle.dy_rules.specs.Forms.{SlotOption, SlotTree}
use Rattle.dy_rules.specs.Marks.{comma_mark, semicolon_mark, written_integer}
use Rattle.dy_rules.specs.Writing.{written_constant, written_items, rest_of_items}
use Rattle.dy_rules.specs.TypeWriting.{written_bounds, written_type, written_types, types_behind}
use Rattle.dy_rules.specs.FormWriting.{written_names, written_option, written_options, written_slot, written_slots}
use Rattle.dy_write_parts.specs.Separated.{separated}
use Rattle.dy_write_parts.proofs.Separated.{behind_each}

abbrev Fragments : Type 0
Fragments = List SeenFragment

pub items_separated : (items : List Constant) → written_items (constants_of items) ≡ separated comma_mark written_constant items
items_separated [] = refl
items_separated (first ∷ rest) = ap (λ (fs : Fragments). written_constant first ++ fs) (behind_each comma_mark written_constant (λ others. rest_of_items (constants_of others)) refl (λ _ _. refl) rest)

pub types_separated : (types : List TypeTree) → written_types (types_of types) ≡ separated comma_mark written_type types
types_separated [] = refl
types_separated (first ∷ rest) = ap (λ (fs : Fragments). written_type first ++ fs) (behind_each comma_mark written_type (λ others. types_behind (types_of others)) refl (λ _ _. refl) rest)

abbrev pub name_part : Token → Fragments
name_part token = one token ∷ []

pub names_separated : (names : List Token) → written_names names ≡ separated comma_mark name_part names
names_separated [] = refl
names_separated (first ∷ []) = refl
names_separated (first ∷ second ∷ rest) = ap (λ (fs : Fragments). one first ∷ comma_mark ∷ fs) (names_separated (second ∷ rest))

-- a bound without its comma
abbrev pub bound_part : Bound → Fragments
bound_part bound = one bound.keyword ∷ written_integer bound.number.minus bound.number.digits

pub bounds_flat : (bounds : List Bound) → written_bounds bounds ≡ flat_map (λ bound. comma_mark ∷ bound_part bound) bounds
bounds_flat bounds = behind_each comma_mark bound_part written_bounds refl (λ _ _. refl) bounds

pub options_flat : (options : List SlotOption) → written_options options ≡ flat_map (λ option. comma_mark ∷ written_option option) options
options_flat options = behind_each comma_mark written_option written_options refl (λ _ _. refl) options

-- a slot and the semicolon behind it
abbrev pub slot_part : SlotTree → Fragments
slot_part slot = written_slot slot ++ semicolon_mark ∷ []

pub slots_flat : (slots : List SlotTree) → written_slots slots ≡ flat_map slot_part slots
slots_flat [] = refl
slots_flat (first ∷ rest) = ap (λ (fs : Fragments). written_slot first ++ semicolon_mark ∷ fs) (slots_flat rest) ∙ sym (append_assoc (written_slot first) (semicolon_mark ∷ []) (flat_map slot_part rest))
