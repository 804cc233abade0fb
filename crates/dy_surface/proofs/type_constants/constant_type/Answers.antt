use Rattle.dy_surface.proofs.Statements.{no_constant}
use Rattle.dy_surface.proofs.type_constants.constant_type.Goals as goal

pub returns-in_default : goal.returns-in_default
returns-in_default c = no_constant c.args.expression.now c.in_default.not-Call
