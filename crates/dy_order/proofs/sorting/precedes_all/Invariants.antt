use Rattle.std.proofs.Common.{ℕ, ◌<◌, get_or}
use Rattle.dy_base.specs.declared.ids.MethodId.{MethodId}
use Rattle.dy_order.specs.Precedence.{Precedes}
use Rattle.dy_order.proofs.sorting.precedes_all.Given as goal

abbrev pub invariant-loop-other : goal.invariant-loop-other
invariant-loop-other l = (k : ℕ) (d : MethodId) → k < l.other-index → Precedes l.program l.args l.method (get_or l.others k d)
