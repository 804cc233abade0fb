use Rattle.std.proofs.Common.{◌≡◌, drop}
use Rattle.dy_fragment.specs.Words.{defined_from}
use Rattle.dy_fragment.proofs.word.defined_from.Given as goal

abbrev pub invariant-loop-at : goal.invariant-loop-at
invariant-loop-at l = defined_from l.words l.from (drop l.from l.tokens) ≡ defined_from l.words l.at (drop l.at l.tokens)
