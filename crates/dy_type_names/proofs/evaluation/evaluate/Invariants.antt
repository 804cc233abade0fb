use Rattle.std.proofs.Common.{◌<◌, ℕ, length, map, take}
use Rattle.dy_type_names.specs.RowTables.{seen_written}
use Rattle.dy_type_names.specs.Standings.{rows_in, standing_in, IsThere}
use Rattle.dy_type_names.specs.Evaluations.{AreEvaluated}
use Rattle.dy_type_names.proofs.evaluation.evaluate.Given as goal

abbrev pub invariant-loop-row : goal.invariant-loop-row
invariant-loop-row g l = record {
  are : AreEvaluated (g.E.Environment.outside l.names).owner l.library (map seen_written l.written) l.found.on_ring (take l.row-index l.row-items)
      (standing_in l.fn.types) (standing_in l.types);
  there : (n : ℕ) → n < length l.written → IsThere l.library n (rows_in l.types);
}
