use Rattle.dy_program_world.specs.Tables.{AreEmpty}
use Rattle.dy_program_world.proofs.table.empty_lists.Given as goal

abbrev pub invariant-loop : goal.invariant-loop
invariant-loop l = AreEmpty l.lists.items
