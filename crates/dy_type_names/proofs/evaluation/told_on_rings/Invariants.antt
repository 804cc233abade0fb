use Rattle.std.proofs.Common.{◌≡◌, ◌++◌, map, drop}
use Rattle.dy_type_names.specs.RowTables.{seen_written, told_on}
use Rattle.dy_type_names.proofs.evaluation.told_on_rings.Given as goal

abbrev pub invariant-loop-row : goal.invariant-loop-row
invariant-loop-row l =
    l.faults ++ told_on (map seen_written l.table.written.items) l.on_ring (drop l.row-index l.row-items)
    ≡ told_on (map seen_written l.table.written.items) l.on_ring l.row-items
