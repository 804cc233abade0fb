use Rattle.std.proofs.Common.{map, take}
use Rattle.dy_type_names.specs.RowTables.{seen_constant, seen_written, IsTable}
use Rattle.dy_type_names.proofs.row_table.table_of.Given as goal

abbrev pub invariant-loop-name : goal.invariant-loop-name
invariant-loop-name g l =
    IsTable (g.E.Environment.outside l.names).owner l.library (map seen_constant (take l.name-index l.constants)) (map seen_written l.table.written.items) l.table.rows.items
