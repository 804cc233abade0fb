use Rattle.std.proofs.Common.{◌≡◌, map, take}
use Rattle.dy_term.specs.Types.{seen_type}
use Rattle.dy_rules.specs.SeenTypes.{seen_variable}
use Rattle.dy_drafts.specs.Shapes.{declared_of}
use Rattle.dy_drafts.proofs.parameters.declared_in.Given as goal

abbrev pub invariant-loop-variable : goal.invariant-loop-variable
invariant-loop-variable l = map seen_type l.types.items ≡ map declared_of (map seen_variable (take l.variable-index l.variable-items))
