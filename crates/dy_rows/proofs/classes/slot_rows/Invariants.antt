use Rattle.std.proofs.Common.{◌≡◌, map, drop}
use Rattle.dy_term.specs.Rows.{seen_slot}
use Rattle.dy_binding.proofs.Turns.{Goes}
use Rattle.dy_rows.specs.Rows.{read_slots}
use Rattle.dy_rows.proofs.classes.slot_rows.Given as goal

abbrev pub invariant-loop-draft : goal.invariant-loop-draft
invariant-loop-draft g l = record {
  goes : Goes (read_slots (g.E.Environment.outside l.environment)
      (map seen_slot l.draft-items) l.fn.scope l.fn.progress) l.slots
      (read_slots (g.E.Environment.outside l.environment)
      (map seen_slot (drop l.draft-index l.draft-items)) l.scope l.progress);
  same : l.scope ≡ l.fn.scope;
}
