use Rattle.std.proofs.Common.{◌+◌, length}
use Rattle.dy_module_numbers.specs.Rings.{Search}
use Rattle.dy_module_numbers.proofs.Rings.{unmarked, Walks}
use Rattle.dy_module_numbers.proofs.ring.is_on_ring.Given as goal

abbrev pub invariant-loop-next : goal.invariant-loop-next
invariant-loop-next l = let now : Search = record { marks = l.marks.items; todo = l.todo.items } in Walks l.modules l.number now

abbrev pub decreases-loop-next : goal.decreases-loop-next
decreases-loop-next l = unmarked l.marks.items + length l.todo.items
