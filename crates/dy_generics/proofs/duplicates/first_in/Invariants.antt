use Rattle.dy_order.specs.Methods.{methods_upto}
use Rattle.dy_generics.specs.Duplicates.{AreDuplicates}
use Rattle.dy_generics.proofs.Firsts.{None_in}
use Rattle.dy_generics.proofs.duplicates.first_in.Given as goal

abbrev pub invariant-loop-row : goal.invariant-loop-row
invariant-loop-row l = None_in (AreDuplicates l.program l.method) (methods_upto l.library l.row)
