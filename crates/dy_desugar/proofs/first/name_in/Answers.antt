use Rattle.dy_desugar.proofs.Places.{no_name}
use Rattle.dy_desugar.proofs.first.name_in.Goals as goal

pub returns-in_default : goal.returns-in_default
returns-in_default c = no_name c.args.expression.now c.in_default.not-Name
