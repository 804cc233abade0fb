use Rattle.std.proofs.Common.{◌≡◌, map, drop}
use Rattle.dy_widths.specs.Wide.{any_of}
use Rattle.dy_widths.specs.Rows.{is_wide_slot}
use Rattle.dy_widths.proofs.check.any_slot.Given as goal

abbrev pub invariant-loop-slot : goal.invariant-loop-slot
invariant-loop-slot l = any_of (map is_wide_slot l.slot-items)
    ≡ any_of (map is_wide_slot (drop l.slot-index l.slot-items))
