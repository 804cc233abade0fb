use Rattle.std.proofs.Common.{◌≡◌, map}
use Rattle.dy_lowered.specs.Units.{bare_variable}
use Rattle.dy_linked_rows.specs.Rows.{linked_variable}
use Rattle.dy_join.specs.Numbering.{placed}
use Rattle.dy_join.proofs.rows.link_variables.Given as goal

abbrev pub invariant-loop-variable : goal.invariant-loop-variable
invariant-loop-variable l = l.linked ≡ map (linked_variable (placed l.places)) (map bare_variable l.yielded)
