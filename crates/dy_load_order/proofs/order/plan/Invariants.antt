use Rattle.std.proofs.Common.{◌≡◌, ◌∷◌, ◌++◌, map}
use Rattle.dy_load_order.specs.declared.order.Task.TheVariants.{Visit, Place}
use Rattle.dy_load_order.proofs.order.plan.Given as goal

abbrev pub invariant-loop-number : goal.invariant-loop-number
invariant-loop-number l = l.todo.items ≡ l.fn.todo.items ++ Place l.library ∷ map Visit (map (λ y. y.now) l.yielded)
