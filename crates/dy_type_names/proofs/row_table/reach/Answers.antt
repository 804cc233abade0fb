use Rattle.std.proofs.Common.{ℕ, ◌+◌, map, length, None, inl, inr, refl, ap, ◌∙◌, arith}
use Rattle.std.proofs.lemmas.List.{length_push}
use Rattle.dy_type_names.specs.RowTables.{declared_at, seen_written}
use Rattle.dy_type_names.proofs.Setting.{Drafts, at_push}
use Rattle.dy_type_names.proofs.row_table.reach.Goals as goal

pub loop-row-init : goal.loop-row-init
loop-row-init c = record { at = λ row. refl; long = omega arith; least = inr (omega arith) }

pub loop-row-preserved : goal.loop-row-preserved
loop-row-preserved c = record {
  at = λ row.
      ap (λ (ws : Drafts). declared_at (map seen_written ws) row) c.in_ok-push.ensures.items
      ∙ at_push c.loop-row.written.items row ∙ c.loop-row.invariant.at row;
  long = ap length c.in_ok-push.ensures.items ∙ length_push c.loop-row.written.items None ∙ ap (λ (n : ℕ). n + 1) c.loop-row.invariant.long;
  least = inl (omega arith);
}

pub returns-clause-least : goal.returns-clause-least
returns-clause-least c old count =
    let long = c.loop-row.invariant.long in
    elim c.loop-row.invariant.least [ inl a ↦ omega (arith, a, count, long) | inr b ↦ omega (arith, b, old, long) ]
