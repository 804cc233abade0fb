-- Items and bodies within the limit.
use Rattle.std.specs.Prelude.{List, map}
use Rattle.dy_rules.specs.Trees.{ItemTree}
use Rattle.dy_rules_depth.specs.Changes.{changed_item}
use Rattle.dy_rules_depth.specs.Capping.{capping}

abbrev pub capped_item : ItemTree → ItemTree
capped_item tree = changed_item capping tree

abbrev pub capped_items : List ItemTree → List ItemTree
capped_items trees = map (changed_item capping) trees
