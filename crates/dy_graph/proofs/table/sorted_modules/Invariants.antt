use Rattle.std.proofs.Common.{◌≡◌, [], Some, drop, map as list_map, slice_get}
use Rattle.std.specs.FinMap as finite
use Rattle.dy_base.specs.Tables.{table_of}
use Rattle.dy_graph.specs.Judged.{all_lower}
use Rattle.dy_graph.proofs.table.sorted_modules.Given as goal

abbrev pub invariant-loop-place : goal.invariant-loop-place
invariant-loop-place l = all_lower l.list (list_map (slice_get l.modules) (drop l.place-index l.place-items)) ≡ all_lower [] (list_map Some (finite.entries (table_of l.fn.modules)))
