use Rattle.dy_binding.proofs.Heads.{no_head}
use Rattle.dy_binding.proofs.names.head_of.Goals as goal

pub returns-in_default : goal.returns-in_default
returns-in_default g c = no_head
    (g.E.Environment.outside c.args.environment.now) c.args.scope.now c.args.function.now
    c.in_default.not-Name
