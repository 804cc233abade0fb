use Rattle.std.proofs.Common.{◌≡◌}
use Rattle.dy_rules.specs.Reading.{finished}
use Rattle.dy_rules_depth.specs.Capping.{capped}
use Rattle.dy_read_outers.specs.Grown.{read_grown}
use Rattle.dy_read_outers.specs.Outers.{seen_outer, left}
use Rattle.dy_read_outers.proofs.outer.finish.Given as goal

abbrev pub invariant-loop-entry : goal.invariant-loop-entry
invariant-loop-entry l = capped (finished (read_grown l.grown) (seen_outer l.outer)) ≡ capped (finished (read_grown l.fn.tree) (seen_outer l.fn.outer))

abbrev pub decreases-loop-entry : goal.decreases-loop-entry
decreases-loop-entry l = left l.outer
