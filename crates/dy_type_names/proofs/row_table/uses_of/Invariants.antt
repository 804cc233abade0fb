use Rattle.std.proofs.Common.{◌≡◌, ◌++◌, map, drop}
use Rattle.dy_type_names.specs.RowTables.{seen_written, uses_at}
use Rattle.dy_type_names.proofs.row_table.uses_of.Given as goal

abbrev pub invariant-loop-declared : goal.invariant-loop-declared
invariant-loop-declared g l =
    l.uses.items ++ map (uses_at (g.E.Environment.outside l.names).owner l.library (map seen_written l.written)) (map seen_written (drop l.declared-index l.written))
    ≡ map (uses_at (g.E.Environment.outside l.names).owner l.library (map seen_written l.written)) (map seen_written l.written)
