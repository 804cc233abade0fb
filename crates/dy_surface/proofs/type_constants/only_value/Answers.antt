use Rattle.dy_surface.proofs.Statements.{no_value}
use Rattle.dy_surface.proofs.type_constants.only_value.Goals as goal

pub returns-in_default : goal.returns-in_default
returns-in_default c = no_value c.args.word.now c.args.expression.now c.in_default.not-Literal c.in_default.not-Name c.in_default.not-List
