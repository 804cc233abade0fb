use Rattle.std.proofs.Common.{drop}
use Rattle.std.specs.declared.result.Result.{Result}
use Rattle.dy_generics.specs.declared.misfit.Misfit.{Misfit}
use Rattle.dy_generics.specs.Congruence.{Tested, typed}
use Rattle.dy_generics.proofs.tested.test_types.Given as goal

abbrev pub invariant-loop-place : goal.invariant-loop-place
invariant-loop-place l =
    (r : Result (Unit {0}) Misfit) → Tested l.program (typed l.reason l.place (drop l.place l.types) (drop l.place l.wanted)) r → Tested l.program (typed l.reason 0 l.types l.wanted) r
