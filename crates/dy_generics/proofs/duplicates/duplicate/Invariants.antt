use Rattle.dy_order.specs.Methods.{methods_below}
use Rattle.dy_generics.specs.Duplicates.{AreDuplicates}
use Rattle.dy_generics.proofs.Firsts.{None_in}
use Rattle.dy_generics.proofs.duplicates.duplicate.Given as goal

abbrev pub invariant-loop-library : goal.invariant-loop-library
invariant-loop-library l = None_in (AreDuplicates l.program l.method) (methods_below l.program l.library)
