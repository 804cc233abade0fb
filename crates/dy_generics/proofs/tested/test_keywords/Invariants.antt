use Rattle.std.proofs.Common.{drop}
use Rattle.std.specs.declared.result.Result.{Result}
use Rattle.dy_term.specs.declared.rows.Program.{Program}
use Rattle.dy_generics.specs.declared.misfit.Misfit.{Misfit}
use Rattle.dy_generics.specs.Congruence.{Tested, keyed}
use Rattle.dy_generics.proofs.tested.test_keywords.Given as goal

abbrev pub invariant-loop-place : goal.invariant-loop-place
invariant-loop-place l =
    (program : Program) (r : Result (Unit {0}) Misfit) → Tested program (keyed l.own l.place (drop l.place l.keywords)) r → Tested program (keyed l.own 0 l.keywords) r
