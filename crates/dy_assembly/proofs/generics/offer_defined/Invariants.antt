use Rattle.std.proofs.Common.{◌≡◌, map}
use Rattle.dy_assembly.specs.Gathered.{gathered}
use Rattle.dy_assembly.proofs.generics.offer_defined.Given as goal

abbrev pub invariant-loop-name : goal.invariant-loop-name
invariant-loop-name g l =
    l.rows.entries
    ≡ gathered l.library (g.E.Environment.outside l.environment).owner l.fn.rows.entries
    (map (λ p. (p.0.now.now, p.1)) l.yielded)
