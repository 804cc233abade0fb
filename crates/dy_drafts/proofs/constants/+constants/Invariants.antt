use Rattle.std.proofs.Common.{◌≡◌, map, take}
use Rattle.dy_drafts.specs.Literals.{literal_in}
use Rattle.dy_drafts.proofs.constants.+constants.Given as goal

abbrev pub invariant-constants_of-loop-form : goal.invariant-constants_of-loop-form
invariant-constants_of-loop-form l = l.literals ≡ map literal_in (take l.form-index l.form-items)
