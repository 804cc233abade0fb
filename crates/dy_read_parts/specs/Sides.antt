-- What stands on both sides of a separator.
use Rattle.std.specs.Prelude.{ℕ, suc, Bool, if◌then◌else◌, List, [], ◌∷◌, Option, Some, None}
use Rattle.std.specs.Prelude.{option_map}
use Rattle.dy_tree.specs.Fragments.{SeenFragment, seen_fragments}
use Rattle.dy_rules.specs.Cutting.{Sides}
use Rattle.dy_rules.specs.Fragments.{items_of}
use Rattle.dy_read_parts.specs.declared.sides.Sides.{Sides as Found}

abbrev pub seen_sides : Found → Sides
seen_sides sides = record {
  before = items_of (seen_fragments sides.before.now);
  after = items_of (seen_fragments sides.after.now);
}

-- where the first fragment stands that the test finds
abbrev pub place_of : (SeenFragment → Bool) → List SeenFragment → Option ℕ
place_of is [] = None
place_of is (first ∷ rest) = if is first then Some 0 else option_map suc (place_of is rest)
