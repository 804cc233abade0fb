use Rattle.std.proofs.Common.{◌≡◌, ◌++◌, map}
use Rattle.dy_term.specs.Drafts.{seen_term}
use Rattle.dy_drafts.specs.Parts.{hidden_terms}
use Rattle.dy_drafts.proofs.places.push_hidden.Given as goal

abbrev pub invariant-loop-number : goal.invariant-loop-number
invariant-loop-number l = map seen_term l.terms.items ≡ map seen_term l.fn.terms.items ++ hidden_terms l.number
