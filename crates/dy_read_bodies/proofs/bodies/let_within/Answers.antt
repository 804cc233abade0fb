use Rattle.std.proofs.Common.{◌≡◌, max, ap, ◌∙◌, arith}
use Rattle.dy_tree.specs.declared.expression.Expression.{Expression}
use Rattle.dy_rules.specs.Depth.{item_depth}
use Rattle.dy_rules.specs.Trees.{let_item}
use Rattle.dy_rules_depth.specs.Changes.{changed_item}
use Rattle.dy_rules_depth.specs.Capping.{filling}
use Rattle.dy_read_outers.specs.ReadTrees.{read_tree}
use Rattle.dy_read_types.specs.Targets.{read_target}
use Rattle.dy_read_bodies.proofs.bodies.let_within.Goals as goal

pub returns-clause-read : goal.returns-clause-read
returns-clause-read c = ap (changed_item filling) c.let_of.ensures ∙ ap (λ (tree : Expression). let_item c.args.word (read_target c.args.target) (read_tree tree)) c.into_inner.ensures

pub returns-clause-depth : goal.returns-clause-depth
returns-clause-depth c = let deep = ap item_depth (returns-clause-read c) in omega (arith, c.requires, c.args.assigned.depth_is, c.deepest-inside.ensures, c.deepen.ensures, deep)
