use Rattle.std.proofs.Common.{◌≡◌, map}
use Rattle.dy_lowered.specs.Units.{bare_slot}
use Rattle.dy_bare_rows.proofs.rows.bare_slots.Given as goal

abbrev pub invariant-loop-slot : goal.invariant-loop-slot
invariant-loop-slot l = l.bare ≡ map bare_slot l.yielded
