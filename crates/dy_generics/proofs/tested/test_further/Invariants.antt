use Rattle.std.proofs.Common.{drop, ◌++◌}
use Rattle.std.specs.declared.result.Result.{Result}
use Rattle.dy_generics.specs.declared.misfit.Misfit.{Misfit}
use Rattle.dy_generics.specs.Congruence.{Tested, typed_by, further, option_list}
use Rattle.dy_generics.proofs.tested.test_further.Given as goal

abbrev pub invariant-loop-place : goal.invariant-loop-place
invariant-loop-place l =
    (r : Result (Unit {0}) Misfit) → Tested l.program (typed_by l.upper l.place (drop l.place l.types ++ option_list l.own.rest)) r → Tested l.program (typed_by l.upper l.fn.from (further l.fn.from l.own)) r
