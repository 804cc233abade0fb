use Rattle.std.proofs.Common.{◌≡◌, replicate}
use Rattle.dy_type_names.specs.declared.standing.Standing.TheVariants.{NoType}
use Rattle.dy_type_names.proofs.evaluation.empty_rows.Given as goal

abbrev pub invariant-loop-row : goal.invariant-loop-row
invariant-loop-row l = l.rows.items ≡ replicate l._row NoType
