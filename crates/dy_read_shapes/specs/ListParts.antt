-- The parts of a parameter list, one after the other.
use Rattle.std.specs.Prelude.{◌≤◌, ⊤, ℕ, Bool, true, false, List, [], ◌∷◌, Option, Some, None}
use Rattle.std.specs.Prelude.{option_map, option_and_then}
use Rattle.std.specs.Borrow.{Bor}
use Rattle.dy_tree.specs.declared.fragment.Fragment.{Fragment}
use Rattle.dy_tree.specs.Fragments.{SeenFragment, seen_fragments}
use Rattle.dy_tree.specs.declared.type_words.PartWord.{PartWord}
use Rattle.dy_tree.specs.declared.type_words.PartWord.TheVariants as part_words
use Rattle.dy_rules.specs.Arguments.{is_comma_fragment}
use Rattle.dy_rules.specs.Cutting.{Item, cut}
use Rattle.dy_rules.specs.Fragments.{items_of}
use Rattle.dy_rules.specs.Signatures.{required_items, listed_keys, part_kind, no_list, after_next}
use Rattle.dy_rules.specs.Signatures.{after_rest, after_required, listed_pieces}
use Rattle.dy_rules.specs.Trees.{Listed}
use Rattle.dy_rules.specs.TypeReading.{name_items}
use Rattle.dy_read_shapes.specs.declared.list_part.ListPart.{ListPart}
use Rattle.dy_read_shapes.specs.declared.list_part.ListPart.TheVariants as parts
use Rattle.dy_read_parts.specs.Nesting.{nesting}
use Rattle.dy_read_parts.specs.Pieces.{IsWithin, left}
use Rattle.dy_read_shapes.specs.ReadKeys.{keys_behind_mark}

abbrev pub is_key_word : PartWord → Bool
is_key_word part_words.Key = true
is_key_word _ = false

-- the mark in front
abbrev pub front_word : List SeenFragment → PartWord
front_word [] = part_words.Absent
front_word (first ∷ rest) = part_kind first

-- the parameters of a list that is not empty
abbrev pub listed_parts : List SeenFragment → Option Listed
listed_parts fragments = listed_pieces (cut is_comma_fragment false (items_of fragments))

-- the parameters behind a comma, where one stands there
abbrev pub listed_left : Option (Bor (List Fragment)) → Option Listed
listed_left None = Some no_list
listed_left (Some slice) = listed_parts (seen_fragments slice.now)

-- a part that isn't `#key`, and the parameters behind it
abbrev pub plain_part : PartWord → List Item → Option Listed → Option Listed
plain_part part_words.Next items found = option_and_then (after_next found) (name_items items)
plain_part part_words.Rest items found = option_and_then (after_rest found) (name_items items)
plain_part _ items found = option_and_then (after_required found) (required_items items)

-- what stands behind `#key` as parameters
abbrev pub keys_listed : List SeenFragment → Option Listed
keys_listed fragments = option_map listed_keys
    (keys_behind_mark (cut is_comma_fragment false (items_of fragments)))

abbrev pub part_read : ListPart → Option Listed
part_read (parts.One word piece behind) =
    plain_part word (items_of (seen_fragments piece.now)) (listed_left behind)
part_read (parts.Keys behind) = keys_listed (seen_fragments behind.now)
part_read parts.Nothing = None

-- what stands behind it is nested at most so deep
abbrev pub IsPartWithin : ℕ → ListPart → Type 0
IsPartWithin n (parts.One word piece behind) = IsWithin n behind
IsPartWithin n (parts.Keys behind) = nesting (seen_fragments behind.now) ≤ n
IsPartWithin n parts.Nothing = ⊤

abbrev pub IsPartShorter : ℕ → ListPart → Type 0
IsPartShorter n (parts.One word piece behind) = left behind ≤ n
IsPartShorter n (parts.Keys behind) = ⊤
IsPartShorter n parts.Nothing = ⊤
