-- The constructs of the parts that a tree holds, as they lie in memory.
use Rattle.std.specs.Prelude.{List}
use Rattle.dy_tree.specs.declared.expression.Expression.{Expression}
use Rattle.dy_tree.specs.declared.expression.Argument.{Argument}
use Rattle.dy_tree.specs.declared.expression.Item.{Item}
use Rattle.dy_tree.specs.declared.expression.LocalMethod.{LocalMethod}
use Rattle.dy_tree.specs.declared.expression.Alternative.{Alternative}
use Rattle.dy_tree.specs.declared.expression.Arm.{Arm}
use Rattle.dy_tree.specs.declared.expression.BlockClause.{BlockClause}
use Rattle.dy_tree.specs.declared.expression.ForClause.{ForClause}
use Rattle.dy_tree.specs.declared.expression.Key.{Key}
use Rattle.dy_rules.specs.SeenForms.{seen_tree, seen_argument, seen_item, seen_method, seen_clause}
use Rattle.dy_rules.specs.SeenForms.{seen_for_clause}
use Rattle.dy_rules.specs.Held.{held_alternative as alternative_tree, held_arm as arm_tree}
use Rattle.dy_rules.specs.Held.{held_key as key_tree}
use Rattle.dy_construct_parts.specs.declared.construct.Construct.{Construct}
use Rattle.dy_constructs.specs.Bodies.{in_value, in_argument, in_item, in_method, in_alternative}
use Rattle.dy_constructs.specs.Bodies.{in_arm, in_clause, in_loop_clause, in_key}

abbrev pub held_value : Expression → List Construct
held_value expression = in_value (seen_tree expression)

abbrev pub held_argument : Argument → List Construct
held_argument argument = in_argument (seen_argument argument)

abbrev pub held_item : Item → List Construct
held_item item = in_item (seen_item item)

abbrev pub held_method : LocalMethod → List Construct
held_method method = in_method (seen_method method)

abbrev pub held_alternative : Alternative → List Construct
held_alternative alternative = in_alternative (alternative_tree alternative)

abbrev pub held_arm : Arm → List Construct
held_arm arm = in_arm (arm_tree arm)

abbrev pub held_clause : BlockClause → List Construct
held_clause clause = in_clause (seen_clause clause)

abbrev pub held_loop_clause : ForClause → List Construct
held_loop_clause clause = in_loop_clause (seen_for_clause clause)

abbrev pub held_key : Key → List Construct
held_key key = in_key (key_tree key)
