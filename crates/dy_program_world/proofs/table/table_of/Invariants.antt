use Rattle.std.proofs.Common.{drop}
use Rattle.dy_lowering_law.specs.Machines.{all_methods_from}
use Rattle.dy_program_world.specs.Tables.{all_methods, Awaits}
use Rattle.dy_program_world.proofs.table.table_of.Given as goal

abbrev pub invariant-loop-library : goal.invariant-loop-library
invariant-loop-library l = Awaits (all_methods l.program)
    (all_methods_from l.place (drop l.library-index l.library-items)) l.table.items
