use Rattle.std.proofs.Common.{◌≡◌, max, ap, ◌∙◌, arith}
use Rattle.dy_tree.specs.declared.expression.Expression.{Expression}
use Rattle.dy_rules.specs.Depth.{item_depth}
use Rattle.dy_rules.specs.Trees.{handler_item}
use Rattle.dy_rules_depth.specs.Changes.{changed_item}
use Rattle.dy_rules_depth.specs.Capping.{filling}
use Rattle.dy_read_outers.specs.ReadTrees.{read_tree}
use Rattle.dy_read_types.specs.TypeCaps.{read_type}
use Rattle.dy_read_bodies.proofs.bodies.handler_within.Goals as goal

pub returns-clause-read : goal.returns-clause-read
returns-clause-read c = ap (changed_item filling) c.handler_of.ensures ∙ ap (λ (tree : Expression). handler_item c.args.word (read_type c.args.condition) (read_tree tree)) c.into_inner.ensures

pub returns-clause-depth : goal.returns-clause-depth
returns-clause-depth c = let deep = ap item_depth (returns-clause-read c) in omega (arith, c.requires, c.args.handler.depth_is, c.deepest-inside.ensures, c.deepen.ensures, deep)
