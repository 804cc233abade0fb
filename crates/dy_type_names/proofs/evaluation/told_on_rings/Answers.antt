use Rattle.std.proofs.Common.{◌≡◌, ◌++◌, ◌+◌, ℕ, List, map, drop, slice_get, get_or, sym, ap, ap₂, ◌∙◌, append_assoc}
use Rattle.std.proofs.lemmas.List.{at_drop_more}
use Rattle.dy_base.specs.declared.fault.Fault.{Fault}
use Rattle.dy_type_names.specs.RowTables.{seen_written, declared_at, truth, told_at, told_on}
use Rattle.dy_type_names.proofs.Setting.{Drafts}
use Rattle.dy_type_names.proofs.evaluation.told_on_rings.Goals as goal

pub loop-row-preserved : goal.loop-row-preserved
loop-row-preserved c =
    let items = c.deref-row-items.result.now in
    let i = c.loop-row.row-index in
    let row = get_or items i 0 in
    let written = map seen_written c.args.table.now.written.items in
    let on_ring = c.args.on_ring.now in
    let faults = c.loop-row.faults in
    let rest = told_on written on_ring (drop (i + 1) items) in
    let own = told_at (truth (slice_get on_ring row)) (declared_at written row) in
    let told : told_at c.is_on-is_on_ring.result (seen_written c.declared_in-declared.result) ≡ own =
    ap₂ told_at c.is_on-is_on_ring.ensures (c.declared_in-declared.ensures ∙ ap (λ (ws : Drafts). declared_at (map seen_written ws) row) c.as_slice.ensures.value) in
    ap (λ (fs : List Fault). fs ++ rest) (c.in_ok-tell_row.ensures ∙ ap (λ (fs : List Fault). faults ++ fs) told)
    ∙ append_assoc faults own rest
    ∙ sym (at_drop_more (λ (rows : List ℕ). faults ++ told_on written on_ring rows) items i 0 c.loop-row-test.true)
    ∙ c.loop-row.invariant
