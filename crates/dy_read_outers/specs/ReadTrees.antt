-- The trees that stand for what was read.
use Rattle.std.specs.Prelude.{List, map}
use Rattle.dy_tree.specs.declared.expression.Expression.{Expression}
use Rattle.dy_tree.specs.declared.expression.Argument.{Argument}
use Rattle.dy_rules.specs.SeenForms.{seen_tree, seen_argument}
use Rattle.dy_rules.specs.Trees as trees
use Rattle.dy_rules_depth.specs.Changes.{changed_argument}
use Rattle.dy_rules_depth.specs.Capping.{filled, filling}

abbrev pub read_tree : Expression → trees.Tree
read_tree form = filled (seen_tree form)

abbrev pub read_argument : Argument → trees.Argument
read_argument form = changed_argument filling (seen_argument form)

-- the arguments as they lie in memory
abbrev pub seen_list : List Argument → List trees.Argument
seen_list forms = map seen_argument forms

abbrev pub read_arguments : List Argument → List trees.Argument
read_arguments forms = map (changed_argument filling) (seen_list forms)
