use Rattle.std.proofs.Common.{◌≡◌, ◌++◌, map, drop}
use Rattle.dy_term.specs.Types.{seen_type, types_of}
use Rattle.dy_type_names.specs.Constants.{names_of}
use Rattle.dy_type_names.specs.RowTables.{rows_used, seen_written}
use Rattle.dy_type_names.proofs.row_table.+uses.Given as goal

abbrev pub invariant-add_uses_of-loop-part : goal.invariant-add_uses_of-loop-part
invariant-add_uses_of-loop-part g l =
    l.used ++ rows_used (g.E.Environment.outside l.names).owner l.library (map seen_written l.written) (names_of (types_of (map seen_type (drop l.part-index l.part-items))))
    ≡ l.fn.used ++ rows_used (g.E.Environment.outside l.names).owner l.library (map seen_written l.written) (names_of (types_of (map seen_type l.part-items)))
