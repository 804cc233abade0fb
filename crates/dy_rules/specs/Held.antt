-- What expressions hold, as it lies in memory of its own.
use Rattle.std.specs.Global.{Vec, Box}
use Rattle.std.specs.Prelude.{map, Option, Some, None}
use Rattle.dy_tree.specs.declared.expression.Alternative.{Alternative}
use Rattle.dy_tree.specs.declared.expression.Arm.{Arm}
use Rattle.dy_tree.specs.declared.expression.Expression.{Expression}
use Rattle.dy_tree.specs.declared.expression.ForClause.{ForClause}
use Rattle.dy_tree.specs.declared.expression.Item.{Item}
use Rattle.dy_tree.specs.declared.expression.Key.{Key}
use Rattle.dy_tree.specs.declared.expression.Keys.{Keys}
use Rattle.dy_tree.specs.declared.expression.Limit.{Limit}
use Rattle.dy_tree.specs.declared.expression.Stop.{Stop}
use Rattle.dy_rules.specs.SeenForms.{seen_tree, seen_item, seen_for_clause, seen_keys, seen_initial}
use Rattle.dy_rules.specs.SeenTypes.{seen_variable}
use Rattle.dy_rules.specs.Trees as trees

abbrev pub held_body : Vec Item → trees.Body
held_body body = trees.body_of (map seen_item body.items)

abbrev pub held_alternative : Alternative → trees.Alternative
held_alternative alternative =
    trees.alternative (seen_tree alternative.test) (held_body alternative.body)

abbrev pub held_arm : Arm → trees.Arm
held_arm arm = trees.arm (trees.tests_of (map seen_tree arm.tests.items)) (held_body arm.body)

abbrev pub held_arms : Vec Arm → trees.Arms
held_arms arms = trees.arms_of (map held_arm arms.items)

abbrev pub held_last : Option (Vec Item) → trees.Otherwise
held_last None = trees.no_otherwise
held_last (Some body) = trees.otherwise (held_body body)

abbrev pub held_test : Option (Box Expression) → trees.MaybeTree
held_test None = trees.no_tree
held_test (Some value) = trees.some_tree (seen_tree value.value)

abbrev pub held_limit : Option Limit → trees.MaybeLimit
held_limit None = trees.no_limit
held_limit (Some limit) = trees.a_limit limit.word (seen_tree limit.bound)

abbrev pub held_stop : Option (Box Stop) → trees.MaybeStop
held_stop None = trees.no_stop
held_stop (Some stop) = trees.a_stop stop.value.keyword (seen_tree stop.value.test)

abbrev pub held_clauses : Vec ForClause → trees.ForClauses
held_clauses clauses = trees.for_clauses_of (map seen_for_clause clauses.items)

abbrev pub held_key : Key → trees.Key
held_key key = trees.a_key key.keyword (seen_variable key.variable) (seen_initial key.default)

abbrev pub held_keys : Option Keys → trees.MaybeKeys
held_keys None = trees.no_keys
held_keys (Some keys) = seen_keys keys
