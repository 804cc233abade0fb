use Rattle.std.proofs.Common.{◌≡◌, drop}
use Rattle.std.specs.List.{list_any}
use Rattle.dy_widths.specs.Rows.{is_wide}
use Rattle.dy_library_names.proofs.rows.limit_in.Given as goal

abbrev pub invariant-loop-row : goal.invariant-loop-row
invariant-loop-row l = list_any is_wide l.row-items
    ≡ list_any is_wide (drop l.row-index l.row-items)
