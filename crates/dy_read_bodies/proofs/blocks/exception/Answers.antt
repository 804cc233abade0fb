use Rattle.std.proofs.Common.{Option, option_map, sym, ap, ◌∙◌}
use Rattle.dy_read_statements.specs.CaughtShapes.{clause_read, read_caught}
use Rattle.dy_read_arms.specs.ReadBodies.{read_items}
use Rattle.dy_read_statements.specs.declared.caught.Caught.{Caught}
use Rattle.dy_read_bodies.proofs.blocks.exception.Goals as goal

pub returns-in-Some : goal.returns-in-Some
returns-in-Some c = c.exception_with.ensures ∙ ap (λ (caught : Option Caught). clause_read (option_map read_caught caught) (option_map read_items c.args.body)) (sym c.in-Some.is)
