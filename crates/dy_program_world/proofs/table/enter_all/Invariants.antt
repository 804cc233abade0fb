use Rattle.std.proofs.Common.{List, ◌++◌, drop}
use Rattle.dy_base.specs.declared.ids.MethodId.{MethodId}
use Rattle.dy_term.specs.declared.rows.MethodRow.{MethodRow}
use Rattle.dy_lowering_law.specs.Machines.{methods_from}
use Rattle.dy_program_world.specs.Tables.{Awaits}
use Rattle.dy_program_world.proofs.table.enter_all.Given as goal

abbrev pub invariant-loop-method : goal.invariant-loop-method
invariant-loop-method l = (all last : List (MethodId × MethodRow))
    → Awaits all (methods_from l.library 0 l.methods ++ last) l.fn.table.items
    → Awaits all (methods_from l.library l.row (drop l.method-index l.methods) ++ last)
    l.table.items
