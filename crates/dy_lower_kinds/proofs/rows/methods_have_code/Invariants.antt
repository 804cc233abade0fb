use Rattle.std.proofs.Common.{◌≡◌, ◌&&◌, drop}
use Rattle.std.specs.List.{list_all}
use Rattle.dy_lower_kinds.specs.Kinds.{method_has_code}
use Rattle.dy_lower_kinds.proofs.rows.methods_have_code.Given as goal

abbrev pub invariant-loop-row : goal.invariant-loop-row
invariant-loop-row l =
    list_all (λ method. method_has_code method.code) l.row-items
    ≡ (l.all && list_all (λ method. method_has_code method.code) (drop l.row-index l.row-items))
