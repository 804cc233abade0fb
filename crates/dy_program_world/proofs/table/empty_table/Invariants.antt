use Rattle.dy_program_world.specs.Tables.{IsEmpty}
use Rattle.dy_program_world.proofs.table.empty_table.Given as goal

abbrev pub invariant-loop-library : goal.invariant-loop-library
invariant-loop-library l = IsEmpty l.table.items
