-- What stands between parts, where there are both.
use Rattle.std.proofs.Common.{◌≡◌, false, List, [], ◌∷◌, length, map, refl}
use Rattle.std.specs.Bool.{◌==◌}
use Rattle.dy_tree.specs.declared.expression.Arm.{Arm}
use Rattle.dy_tree.specs.declared.expression.ForClause.{ForClause}
use Rattle.dy_rules.specs.Marks.{comma_mark, semicolon_mark}
use Rattle.dy_rules.specs.SeenForms.{seen_for_clause}
use Rattle.dy_rules.specs.Trees as trees
use Rattle.dy_rules.specs.Held.{held_arm}
use Rattle.dy_write_parts.specs.Breaks.{choice_break, clause_break}

pub arms_and_body : (arms : List Arm) (body : trees.Body) → length arms == 0 ≡ false → choice_break (trees.arms_of (map held_arm arms)) (trees.otherwise body) ≡ semicolon_mark ∷ []
arms_and_body [] body h = absurd cc
arms_and_body (first ∷ rest) body h = refl

pub clauses_and_test : (clauses : List ForClause) (key : _) (test : trees.Tree) → length clauses == 0 ≡ false → clause_break (trees.for_clauses_of (map seen_for_clause clauses)) (trees.a_stop key test) ≡ comma_mark ∷ []
clauses_and_test [] key test h = absurd cc
clauses_and_test (first ∷ rest) key test h = refl
