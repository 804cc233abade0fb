use Rattle.std.proofs.Common.{[], ◌∷◌, ◌++◌, length}
use Rattle.dy_load_order.proofs.Walking.{work, IsUnderWay}
use Rattle.dy_load_order.proofs.order.load_order.Given as goal

abbrev pub invariant-loop-task : goal.invariant-loop-task
invariant-loop-task l = IsUnderWay (l.uses ++ l.used ∷ []) (length l.uses) l.placed.items l.order.items l.todo.items

abbrev pub decreases-loop-task : goal.decreases-loop-task
decreases-loop-task l = work (l.uses ++ l.used ∷ []) l.todo.items
