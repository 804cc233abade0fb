-- What it is to be the same to the limit.
use Rattle.std.proofs.Common.{◌≡◌, List, map, Option, option_map}
use Rattle.dy_rules.specs.Trees.{Tree, ItemTree}
use Rattle.dy_rules_depth.specs.Changes.{changed_item}
use Rattle.dy_rules_depth.specs.Capping.{capped, capping}

abbrev pub SameTree : Option Tree → Option Tree → Type 0
SameTree tree other = option_map capped tree ≡ option_map capped other

abbrev pub SameTrees : List ItemTree → List ItemTree → Type 0
SameTrees trees others = map (changed_item capping) trees ≡ map (changed_item capping) others
