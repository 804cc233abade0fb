-- Keys with commas between them as parts of which the last may be `#all-keys`.
use Rattle.std.specs.Prelude.{⊤, Bool, true, false, List, [], ◌∷◌, ◌++◌, Option, Some, None}
use Rattle.std.specs.Prelude.{option_map}
use Rattle.dy_tree.specs.Fragments.{SeenFragment}
use Rattle.dy_rules.specs.Cutting.{Ending}
use Rattle.dy_rules.specs.Signatures.{key_items, keys_of_found}
use Rattle.dy_rules.specs.Trees.{Key, KeysTree}
use Rattle.dy_rules_depth.specs.ReaderChanges.{changed_ending}
use Rattle.dy_read_types.specs.Endings.{parts_before, last_part}
use Rattle.dy_read_shapes.specs.ReadKeys.{capped_key, all_at, some_all}

abbrev pub is_there : Option ⊤ → Bool
is_there None = false
is_there (Some it) = true

abbrev pub keys_tree : Ending Key ⊤ → KeysTree
keys_tree found = keys_of_found found.parts (is_there found.last)

-- the last part behind keys that were read before it
abbrev pub keys_last : List Key → List SeenFragment → Option KeysTree
keys_last before fragments =
    option_map keys_tree (parts_before before
    (option_map (changed_ending capped_key (λ (it : ⊤). it))
    (last_part all_at key_items some_all fragments)))

-- a key behind keys that were read before it
abbrev pub keys_behind : List Key → Option Key → Option KeysTree
keys_behind before None = None
keys_behind before (Some key) = Some (keys_of_found (before ++ key ∷ []) false)
