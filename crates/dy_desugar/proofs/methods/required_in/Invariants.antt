use Rattle.std.proofs.Common.{◌≡◌, map, take}
use Rattle.dy_term.specs.Types.{seen_typed}
use Rattle.dy_rules.specs.SeenTypes.{seen_required}
use Rattle.dy_drafts.specs.Shapes.{required_of}
use Rattle.dy_desugar.proofs.methods.required_in.Given as goal

abbrev pub invariant-loop-one : goal.invariant-loop-one
invariant-loop-one l = map seen_typed l.found.items ≡ map required_of (map seen_required (take l.one-index l.one-items))
