use Rattle.std.proofs.Common.{◌≡◌, ◌&&◌, drop}
use Rattle.std.specs.List.{list_all}
use Rattle.dy_lower_kinds.specs.Kinds.{init_has_code}
use Rattle.dy_lower_kinds.proofs.rows.slots_have_code.Given as goal

abbrev pub invariant-loop-row : goal.invariant-loop-row
invariant-loop-row l =
    list_all (λ slot. init_has_code slot.init) l.row-items
    ≡ (l.all && list_all (λ slot. init_has_code slot.init) (drop l.row-index l.row-items))
