use Rattle.std.proofs.Common.{◌≡◌, drop}
use Rattle.dy_rules.specs.Definitions.{suit_method}
use Rattle.dy_read_words.proofs.adjective.suit_method.Given as goal

abbrev pub invariant-loop-at : goal.invariant-loop-at
invariant-loop-at l = suit_method l.adjectives ≡ suit_method (drop l.at l.adjectives)
