use Rattle.std.proofs.Common.{drop}
use Rattle.dy_binding.proofs.Turns.{Goes}
use Rattle.dy_rows.specs.Rows.{classes_of}
use Rattle.dy_rows.proofs.owners.classes_of.Given as goal

abbrev pub invariant-loop-name : goal.invariant-loop-name
invariant-loop-name g l =
    Goes (classes_of (g.E.Environment.outside l.environment) l.name-items l.fn.progress) l.classes
    (classes_of (g.E.Environment.outside l.environment) (drop l.name-index l.name-items) l.progress)
