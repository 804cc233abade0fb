use Rattle.dy_surface.proofs.Statements.{no_number}
use Rattle.dy_surface.proofs.type_constants.number_in.Goals as goal

pub returns-in_default : goal.returns-in_default
returns-in_default c = no_number c.args.expression.now c.in_default.not-Literal
