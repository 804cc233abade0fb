use Rattle.std.proofs.Common.{◌≡◌, Some, drop, map as list_map, slice_get}
use Rattle.std.specs.FinMap as finite
use Rattle.dy_base.specs.Tables.{table_of}
use Rattle.dy_library_form.specs.Told.{first_of_two}
use Rattle.dy_graph.proofs.clash.first_of_two.Given as goal

abbrev pub invariant-loop-place : goal.invariant-loop-place
invariant-loop-place l = first_of_two (list_map (slice_get l.table) (drop l.place-index l.place-items)) ≡ first_of_two (list_map Some (finite.entries (table_of l.fn.table)))
