use Rattle.std.proofs.Common.{◌≡◌, map, take}
use Rattle.dy_term.specs.declared.rows.VariableRow.{VariableRow}
use Rattle.dy_seen_rows.proofs.types.named_types_of.Given as goal

abbrev pub invariant-loop-variable : goal.invariant-loop-variable
invariant-loop-variable l = l.types ≡ map (λ (variable : VariableRow). variable.named) (take l.variable-index l.variable-items)
