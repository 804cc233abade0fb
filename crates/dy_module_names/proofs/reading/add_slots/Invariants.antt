use Rattle.std.proofs.Common.{◌≡◌, map, drop}
use Rattle.dy_term.specs.Rows.{seen_slot}
use Rattle.dy_module_names.specs.Definitions.{slots_names}
use Rattle.dy_module_names.specs.Passes.{with_names}
use Rattle.dy_module_names.specs.Given.{modules_in}
use Rattle.dy_module_names.proofs.reading.add_slots.Given as goal

abbrev pub invariant-loop-slot : goal.invariant-loop-slot
invariant-loop-slot l =
    with_names (modules_in l.modules) l.place (slots_names (map seen_slot l.slot-items)) l.fn.list
    ≡ with_names (modules_in l.modules) l.place
    (slots_names (map seen_slot (drop l.slot-index l.slot-items))) l.list
