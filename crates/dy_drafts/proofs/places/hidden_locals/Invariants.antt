use Rattle.std.proofs.Common.{◌≡◌, map}
use Rattle.dy_term.specs.Types.{seen_typed}
use Rattle.dy_drafts.specs.Parts.{hidden_locals}
use Rattle.dy_drafts.proofs.places.hidden_locals.Given as goal

abbrev pub invariant-loop-number : goal.invariant-loop-number
invariant-loop-number l = map seen_typed l.locals.items ≡ hidden_locals l.number
