use Rattle.std.proofs.Common.{◌≡◌, ◌++◌, drop}
use Rattle.dy_lowering_law.specs.Machines.{methods_from}
use Rattle.dy_program_world.specs.ProgramWorlds.{chosen}
use Rattle.dy_program_world.proofs.applicable.choose_in.Given as goal

abbrev pub invariant-loop-method : goal.invariant-loop-method
invariant-loop-method l =
    l.fn.into.items
    ++ chosen l.program l.store l.generic l.values (methods_from l.library 0 l.methods)
    ≡ l.into.items ++ chosen l.program l.store l.generic l.values
    (methods_from l.library l.row (drop l.method-index l.methods))
