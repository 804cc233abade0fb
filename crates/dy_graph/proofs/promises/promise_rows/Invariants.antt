use Rattle.std.proofs.Common.{◌≡◌, ◌++◌, drop, Some, map as list_map, slice_get}
use Rattle.std.specs.FinMap as finite
use Rattle.dy_base.specs.Tables.{table_of}
use Rattle.dy_graph.specs.Judged.{promises_of_rows}
use Rattle.dy_graph.proofs.promises.promise_rows.Given as goal

abbrev pub invariant-loop-at : goal.invariant-loop-at
invariant-loop-at l =
    l.promises ++ promises_of_rows l.number l.place (list_map (slice_get l.list) (drop l.at-index l.at-items)) ≡ l.fn.promises ++ promises_of_rows l.number l.place (list_map Some (finite.entries (table_of l.fn.list)))
