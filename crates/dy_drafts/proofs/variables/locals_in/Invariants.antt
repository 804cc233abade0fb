use Rattle.std.proofs.Common.{◌≡◌, map, take}
use Rattle.dy_term.specs.Types.{seen_typed}
use Rattle.dy_rules.specs.SeenTypes.{seen_variable}
use Rattle.dy_drafts.specs.Shapes.{local_of}
use Rattle.dy_drafts.proofs.variables.locals_in.Given as goal

abbrev pub invariant-loop-variable : goal.invariant-loop-variable
invariant-loop-variable l = map seen_typed l.locals.items ≡ map local_of (map seen_variable (take l.variable-index l.variable-items))
