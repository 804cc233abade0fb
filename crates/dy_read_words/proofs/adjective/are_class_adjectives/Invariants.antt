use Rattle.std.proofs.Common.{◌≡◌, drop}
use Rattle.dy_rules.specs.Definitions.{all_are, is_class_adjective}
use Rattle.dy_read_words.proofs.adjective.are_class_adjectives.Given as goal

abbrev pub invariant-loop-adjective : goal.invariant-loop-adjective
invariant-loop-adjective l = all_are is_class_adjective l.adjectives ≡ all_are is_class_adjective (drop l.adjective-index l.adjectives)
