use Rattle.std.proofs.Common.{ℕ, ◌<◌, map, length}
use Rattle.dy_modules.specs.Clauses.{IsIn}
use Rattle.dy_modules.specs.Order.{AreRight}
use Rattle.dy_modules.proofs.Turns.{AllSeen}
use Rattle.dy_modules.proofs.rounds.settle.Given as goal

abbrev pub invariant-loop-todo : goal.invariant-loop-todo
invariant-loop-todo l = record {
  right : AreRight l.fn.forms l.done.items;
  seen : AllSeen l.fn.forms l.todo.items l.done.items;
  within : (m : ℕ) → IsIn m l.todo.items → m < length l.fn.forms;
}

abbrev pub decreases-loop-todo : goal.decreases-loop-todo
decreases-loop-todo l = length l.todo.items
