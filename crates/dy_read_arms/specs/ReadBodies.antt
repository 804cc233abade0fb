-- The bodies that stand for what was read.
use Rattle.std.specs.Prelude.{List, map, Option, Some, None}
use Rattle.std.specs.Global.{Vec}
use Rattle.dy_tree.specs.declared.variables.Target.{Target}
use Rattle.dy_tree.specs.declared.expression.Parameters.{Parameters}
use Rattle.dy_tree.specs.declared.expression.Item.{Item}
use Rattle.dy_tree.specs.declared.expression.LocalMethod.{LocalMethod}
use Rattle.dy_tree.specs.declared.expression.BlockClause.{BlockClause}
use Rattle.dy_rules.specs.SeenTypes.{seen_target}
use Rattle.dy_rules.specs.SeenForms.{seen_parameters, seen_item, seen_method, seen_clause}
use Rattle.dy_rules.specs.Types.{TargetTree}
use Rattle.dy_rules.specs.Trees as trees
use Rattle.dy_rules_depth.specs.Changes.{changed_target, changed_parameters, changed_item}
use Rattle.dy_rules_depth.specs.Changes.{changed_method, changed_clause}
use Rattle.dy_rules_depth.specs.Capping.{filling}

abbrev pub read_target : Target → TargetTree
read_target form = changed_target filling (seen_target form)

abbrev pub read_parameters : Parameters → trees.Parameters
read_parameters form = changed_parameters filling (seen_parameters form)

abbrev pub read_item : Item → trees.ItemTree
read_item form = changed_item filling (seen_item form)

-- the items of a body
abbrev pub read_list : List Item → List trees.ItemTree
read_list forms = map (changed_item filling) (map seen_item forms)

abbrev pub read_items : Vec Item → List trees.ItemTree
read_items forms = read_list forms.items

-- a body that stands behind everything else, where there is one
abbrev pub read_last : Option (Vec Item) → trees.Otherwise
read_last None = trees.no_otherwise
read_last (Some body) = trees.otherwise (trees.body_of (read_items body))

abbrev pub read_method : LocalMethod → trees.LocalMethod
read_method form = changed_method filling (seen_method form)

abbrev pub read_methods : Vec LocalMethod → List trees.LocalMethod
read_methods forms = map (changed_method filling) (map seen_method forms.items)

abbrev pub read_clause : BlockClause → trees.BlockClause
read_clause form = changed_clause filling (seen_clause form)

abbrev pub read_clauses : Vec BlockClause → List trees.BlockClause
read_clauses forms = map (changed_clause filling) (map seen_clause forms.items)
