use Rattle.std.proofs.Common.{◌≡◌, ◌≤◌, ◌⊎◌, ℕ, map, length}
use Rattle.dy_type_names.specs.RowTables.{declared_at, seen_written}
use Rattle.dy_type_names.proofs.row_table.reach.Given as goal

abbrev pub invariant-loop-row : goal.invariant-loop-row
invariant-loop-row l = record {
  at : (row : ℕ) → declared_at (map seen_written l.written.items) row ≡ declared_at (map seen_written l.fn.written.items) row;
  long : length l.written.items ≡ l._row;
  least : (l._row ≤ l.count) ⊎ (l._row ≡ length l.fn.written.items);
}
