use Rattle.std.proofs.Common.{◌≡◌, drop}
use Rattle.dy_drafts.specs.Shapes.{has}
use Rattle.dy_drafts.proofs.names.has.Given as goal

abbrev pub invariant-loop-word : goal.invariant-loop-word
invariant-loop-word l = has l.text (drop l.word-index l.words) ≡ has l.text l.words
