use Rattle.std.proofs.Common.{◌≡◌, map, take}
use Rattle.dy_prims.specs.Rows.{type_row}
use Rattle.dy_prims.proofs.rows.types.Given as goal

abbrev pub invariant-loop-class : goal.invariant-loop-class
invariant-loop-class l = l.types ≡ map type_row (take l.class-index l.classes)
