-- The keyword parameters that were read.
use Rattle.std.specs.Prelude.{◌≡◌, ◌≤◌, ℕ, max, ⊤, Bool, false, List, [], ◌∷◌, map, Option, Some}
use Rattle.std.specs.Prelude.{None, option_map}
use Rattle.std.specs.Borrow.{Bor}
use Rattle.dy_tree.specs.declared.token.Token.{Token}
use Rattle.dy_tree.specs.declared.expression.Key.{Key}
use Rattle.dy_read_shapes.specs.declared.keys_read.KeysRead.{KeysRead}
use Rattle.dy_read_shapes.specs.declared.keys_shape.KeysShape.{KeysShape}
use Rattle.dy_read_shapes.specs.declared.keys_shape.KeysShape.TheVariants as shapes
use Rattle.dy_rules.specs.Arguments.{is_comma_fragment}
use Rattle.dy_rules.specs.Cutting.{Item, Pieces, cut, fragments_in}
use Rattle.dy_rules.specs.Marks.{comma_mark}
use Rattle.dy_tree.specs.Fragments.{SeenFragment, seen_fragments}
use Rattle.dy_tree.specs.declared.splitters.Splitting.TheVariants as splittings
use Rattle.dy_rules.specs.Depth.{key_depth, keys_depth}
use Rattle.dy_rules.specs.Fragments.{items_of}
use Rattle.dy_rules.specs.Reading.{expression_items}
use Rattle.dy_rules.specs.Signatures.{initial_of, is_all_keys, key_items, keys_of_found, with_key}
use Rattle.dy_rules.specs.Signatures.{keys_in, keys_from}
use Rattle.dy_rules.specs.Trees as trees
use Rattle.dy_rules.specs.Trees.{MaybeTree, no_tree, some_tree, KeysTree, keys_of}
use Rattle.dy_rules_depth.specs.Changes.{changed_maybe, changed_key, changed_keys_tree}
use Rattle.dy_rules_depth.specs.Capping.{capping, filling}
use Rattle.dy_read_outers.specs.declared.grown.Grown.{Grown}
use Rattle.dy_read_shapes.specs.declared.initial.Initial.{Initial}
use Rattle.dy_read_shapes.specs.declared.initial.Initial.TheVariants as initials
use Rattle.dy_read_outers.specs.Grown.{read_grown}
use Rattle.dy_rules.specs.Held.{held_key}
use Rattle.dy_read_parts.specs.Nesting.{nesting}

-- defaults

abbrev pub initial_read : Initial → Option MaybeTree
initial_read initials.Absent = Some no_tree
initial_read (initials.Value value) =
    option_map initial_of (expression_items splittings.Nothing
    (items_of (seen_fragments value.now)))
initial_read initials.Wrong = None

abbrev pub IsInitialWithin : ℕ → Initial → Type 0
IsInitialWithin n initials.Absent = ⊤
IsInitialWithin n (initials.Value value) = nesting (seen_fragments value.now) ≤ n
IsInitialWithin n initials.Wrong = ⊤

abbrev pub read_default : Option Grown → MaybeTree
read_default None = no_tree
read_default (Some grown) = some_tree (read_grown grown)

abbrev pub capped_default : MaybeTree → MaybeTree
capped_default default = changed_maybe capping default

-- keys

abbrev pub label_token : Option (Bor Token) → Option Token
label_token label = option_map (λ (token : Bor Token). token.now) label

abbrev pub read_key : Key → trees.Key
read_key form = changed_key filling (held_key form)

abbrev pub read_each_key : List Key → List trees.Key
read_each_key forms = map read_key forms

abbrev pub capped_key : trees.Key → trees.Key
capped_key key = changed_key capping key

abbrev pub read_keys : KeysRead → KeysTree
read_keys read = record { keys = read_each_key read.keys.items; takes_all = read.takes_all }

abbrev pub capped_keys : KeysTree → KeysTree
capped_keys found = changed_keys_tree capping found

-- how deep they are with what was read before
abbrev pub KeyDepth : ℕ → ℕ → Option Key → Type 0
KeyDepth old new None = ⊤
KeyDepth old new (Some form) = new ≡ max old (key_depth (read_key form))

abbrev pub KeysDepth : ℕ → ℕ → Option KeysRead → Type 0
KeysDepth old new None = ⊤
KeysDepth old new (Some read) = new ≡ max old (keys_depth (keys_of (read_each_key read.keys.items)))

-- the keys that fragments stand for, where the last part may be `#all-keys`
abbrev pub keys_pieces : Pieces → Option KeysTree
keys_pieces pieces = keys_in
    (record { separator = comma_mark; items = pieces.first } ∷ pieces.others)

abbrev pub all_at : List Item → Bool
all_at items = is_all_keys (fragments_in items)

abbrev pub some_all : List Item → Option ⊤
some_all items = Some tt

-- what stands behind `#key`
abbrev pub keys_behind_mark : Pieces → Option KeysTree
keys_behind_mark pieces = keys_from pieces.first pieces.others

abbrev pub shape_read : KeysShape → List SeenFragment → Option KeysTree
shape_read (shapes.Bare takes_all) fragments = Some (keys_of_found [] takes_all)
shape_read shapes.Wrong fragments = None
shape_read shapes.One fragments =
    with_key (key_items (items_of fragments)) (Some (keys_of_found [] false))
shape_read shapes.Several fragments = keys_pieces (cut is_comma_fragment false (items_of fragments))
