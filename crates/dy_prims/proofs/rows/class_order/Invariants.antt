use Rattle.std.proofs.Common.{◌≡◌, map, take}
use Rattle.dy_types.specs.Classes.{built_in}
use Rattle.dy_prims.proofs.rows.class_order.Given as goal

abbrev pub invariant-loop-row : goal.invariant-loop-row
invariant-loop-row l = l.ids.items ≡ map built_in (take l.row-index l.rows)
