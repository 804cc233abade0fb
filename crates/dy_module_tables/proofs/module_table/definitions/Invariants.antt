use Rattle.std.proofs.Common.{◌≡◌, ◌++◌, drop, map, slice_get}
use Rattle.dy_module_tables.specs.Looking.{defined_rows}
use Rattle.dy_module_tables.proofs.module_table.definitions.Given as goal

abbrev pub invariant-loop-place : goal.invariant-loop-place
invariant-loop-place l = l.list ++ defined_rows l.defined (map (slice_get l.table) (drop l.place-index l.place-items)) ≡ defined_rows l.defined (map (slice_get l.table) l.place-items)
