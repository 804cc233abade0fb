use Rattle.std.proofs.Common.{◌≡◌, map, drop}
use Rattle.dy_term.specs.Rows.{seen_slot}
use Rattle.dy_library_rows.specs.Names.{with_names, slots_names}
use Rattle.dy_library_rows.specs.Seen.{seen_names}
use Rattle.dy_library_rows.proofs.names.Names.define_slots.Given as goal

abbrev pub invariant-loop-slot : goal.invariant-loop-slot
invariant-loop-slot l =
    with_names (slots_names (map seen_slot l.slot-items)) (seen_names l.fn.self)
    ≡ with_names (slots_names (map seen_slot (drop l.slot-index l.slot-items))) (seen_names l.self)
