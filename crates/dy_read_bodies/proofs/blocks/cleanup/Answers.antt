use Rattle.std.proofs.Common.{Option, Some, map, option_map, sym, ap, ◌∙◌}
use Rattle.std.specs.Global.{Vec}
use Rattle.dy_tree.specs.declared.expression.Item.{Item}
use Rattle.dy_rules.specs.Blocks.{cleanup_of}
use Rattle.dy_rules.specs.SeenForms.{seen_clause, seen_item}
use Rattle.dy_read_arms.specs.ReadBodies.{read_items}
use Rattle.dy_read_statements.proofs.Blocks.{cleanup_filled}
use Rattle.dy_read_bodies.proofs.blocks.cleanup.Goals as goal

pub returns-in-Some : goal.returns-in-Some
returns-in-Some c =
    ap Some (cleanup_filled (map seen_item c.in-Some.body.items) (seen_clause c.cleanup_of.result) c.cleanup_of.ensures) ∙ ap (λ (body : Option (Vec Item)). option_map cleanup_of (option_map read_items body)) (sym c.in-Some.is)
