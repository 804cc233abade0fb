use Rattle.std.proofs.Common.{◌≡◌, ◌+◌, ◌≤◌, take, length}
use Rattle.std.specs.List.{count_by}
use Rattle.dy_sources.specs.Layout.{is_line_feed}
use Rattle.dy_sources.specs.Points.{last_line}
use Rattle.dy_sources.proofs.point.point_behind.Given as goal

-- the place behind the bytes so far
abbrev pub invariant-loop-byte : goal.invariant-loop-byte
invariant-loop-byte l = record {
  line : l.point.line ≡ 1 + count_by is_line_feed (take l.byte-index l.bytes);
  column : l.point.column ≡ 1 + length (last_line (take l.byte-index l.bytes));
  few_lines : l.point.line ≤ 1 + l.byte-index;
  few_columns : l.point.column ≤ 1 + l.byte-index;
}
