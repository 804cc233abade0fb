use Rattle.std.proofs.Common.{◌≡◌, ◌++◌, drop}
use Rattle.dy_lowering_law.specs.Machines.{all_methods_from}
use Rattle.dy_program_world.specs.ProgramWorlds.{chosen}
use Rattle.dy_program_world.proofs.applicable.choose_among_all.Given as goal

abbrev pub invariant-loop-library : goal.invariant-loop-library
invariant-loop-library l =
    chosen l.program l.store l.generic l.values (all_methods_from 0 l.library-items)
    ≡ l.found.items ++ chosen l.program l.store l.generic l.values
    (all_methods_from l.place (drop l.library-index l.library-items))
