use Rattle.std.proofs.Common.{◌-◌, ◌∙◌, ap, length, drop, arith}
use Rattle.dy_names.specs.Naming.{Locals}
use Rattle.dy_names.proofs.Leaving.{leave_one}
use Rattle.dy_names.proofs.scope.Scope.leave_to.Goals as goal

pub loop-self-preserved : goal.loop-self-preserved
loop-self-preserved c =
    ap (λ (s : Locals). drop (length s - c.args.len) s) c.leave.ensures ∙ leave_one c.loop-self.self c.args.len (omega arith) ∙ c.loop-self.invariant
