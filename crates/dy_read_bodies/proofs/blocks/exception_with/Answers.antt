use Rattle.std.proofs.Common.{Option, Some, map, option_map, sym, ap, ◌∙◌}
use Rattle.std.specs.Global.{Vec}
use Rattle.dy_tree.specs.declared.expression.Item.{Item}
use Rattle.dy_rules.specs.SeenForms.{seen_clause, seen_item}
use Rattle.dy_rules.specs.SeenTypes.{seen_type}
use Rattle.dy_read_statements.specs.CaughtShapes.{clause_to, read_caught}
use Rattle.dy_read_arms.specs.ReadBodies.{read_items}
use Rattle.dy_read_statements.proofs.Blocks.{exception_filled}
use Rattle.dy_read_bodies.proofs.blocks.exception_with.Goals as goal

pub returns-in-Some : goal.returns-in-Some
returns-in-Some c =
    ap Some (exception_filled c.args.caught.variable (seen_type c.args.caught.condition) (map seen_item c.in-Some.body.items) (seen_clause c.exception_of.result) c.exception_of.ensures)
    ∙ ap (λ (body : Option (Vec Item)). clause_to (option_map read_items body) (read_caught c.args.caught)) (sym c.in-Some.is)
