use Rattle.std.proofs.Common.{◌≡◌, drop}
use Rattle.dy_rules.specs.Definitions.{has}
use Rattle.dy_read_words.specs.Words.{is_adjective}
use Rattle.dy_read_words.proofs.adjective.has.Given as goal

abbrev pub invariant-loop-adjective : goal.invariant-loop-adjective
invariant-loop-adjective l = has (is_adjective l.wanted) l.adjectives ≡ has (is_adjective l.wanted) (drop l.adjective-index l.adjectives)
