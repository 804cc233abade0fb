use Rattle.std.proofs.Common.{◌≡◌, map, drop, flat_map}
use Rattle.dy_term.specs.Rows.{seen_slot}
use Rattle.dy_assembly.specs.Generics.{made_by_slot}
use Rattle.dy_assembly.specs.Gathered.{gathered}
use Rattle.dy_assembly.proofs.generics.offer_slots.Given as goal

abbrev pub invariant-loop-slot : goal.invariant-loop-slot
invariant-loop-slot g l =
    gathered l.library (g.E.Environment.outside l.environment).owner l.fn.rows.entries
    (flat_map made_by_slot (map seen_slot l.slot-items))
    ≡ gathered l.library (g.E.Environment.outside l.environment).owner l.rows.entries
    (flat_map made_by_slot (map seen_slot (drop l.slot-index l.slot-items)))
