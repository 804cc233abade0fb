use Rattle.std.proofs.Common.{◌≡◌, map}
use Rattle.dy_term.specs.Drafts.{seen_term, seen_item}
use Rattle.dy_drafts.specs.Parts.{hide_from}
use Rattle.dy_drafts.proofs.places.hide_all.Given as goal

abbrev pub invariant-loop-term : goal.invariant-loop-term
invariant-loop-term l = map seen_item l.items.items ≡ hide_from 0 (map seen_term l.yielded)
