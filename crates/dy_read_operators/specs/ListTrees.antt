-- Lists and vectors as expressions, within the limit.
use Rattle.std.specs.Prelude.{List}
use Rattle.dy_tree.specs.declared.token.Token.{Token}
use Rattle.dy_rules.specs.ConstantTrees.{Constant}
use Rattle.dy_rules.specs.ConstantReading.{Inside}
use Rattle.dy_rules.specs.Fragments.{list_tree, vector_tree}
use Rattle.dy_rules.specs.Trees.{Tree}
use Rattle.dy_rules_depth.specs.Capping.{capped}

abbrev pub capped_list : Token → Inside → Tree
capped_list opener found = capped (list_tree opener found)

abbrev pub capped_vector : Token → List Constant → Tree
capped_vector opener items = capped (vector_tree opener items)
