use Rattle.std.proofs.Common.{◌≡◌, drop}
use Rattle.dy_rules.specs.Definitions.{suit_function}
use Rattle.dy_read_words.proofs.adjective.suit_function.Given as goal

abbrev pub invariant-loop-adjective : goal.invariant-loop-adjective
invariant-loop-adjective l = suit_function l.adjectives ≡ suit_function (drop l.adjective-index l.adjectives)
