-- Parts with separators between them, of which the last may be of another sort.
use Rattle.std.specs.Prelude.{◌++◌, Bool, false, List, Option, Some, None, option_map}
use Rattle.dy_tree.specs.Fragments.{SeenFragment}
use Rattle.dy_rules.specs.Cutting.{Ending, Item, cut, ending, ending_at}
use Rattle.dy_rules.specs.Fragments.{items_of}
use Rattle.dy_rules_depth.specs.ReaderChanges.{changed_ending}

-- what was read before what is read
abbrev pub parts_before : {A B : Type 0} → List A → Option (Ending A B) → Option (Ending A B)
parts_before before None = None
parts_before before (Some others) =
    Some (record { parts = before ++ others.parts; last = others.last })

-- what fragments stand for, where what is read of them is changed
abbrev pub changed_parts : {A B : Type 0} → (A → A) → (B → B) → (SeenFragment → Bool)
    → (List Item → Bool) → (List Item → Option A) → (List Item → Option B) → List SeenFragment
    → Option (Ending A B)
changed_parts on on_last separates is_last read read_last fragments =
    option_map (changed_ending on on_last)
    (ending is_last read read_last (cut separates false (items_of fragments)))

-- what fragments stand for as the last part
abbrev pub last_part : {A B : Type 0} → (List Item → Bool) → (List Item → Option A)
    → (List Item → Option B) → List SeenFragment → Option (Ending A B)
last_part is_last read read_last fragments =
    ending_at (is_last (items_of fragments)) (read (items_of fragments))
    (read_last (items_of fragments))
