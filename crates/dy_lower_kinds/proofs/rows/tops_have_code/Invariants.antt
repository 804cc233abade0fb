use Rattle.std.proofs.Common.{◌≡◌, ◌&&◌, drop}
use Rattle.std.specs.List.{list_all}
use Rattle.dy_lower_kinds.specs.Kinds.{top_has_code}
use Rattle.dy_lower_kinds.proofs.rows.tops_have_code.Given as goal

abbrev pub invariant-loop-row : goal.invariant-loop-row
invariant-loop-row l =
    list_all top_has_code l.row-items
    ≡ (l.all && list_all top_has_code (drop l.row-index l.row-items))
