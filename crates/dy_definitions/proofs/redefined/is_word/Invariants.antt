use Rattle.std.proofs.Common.{◌≡◌, drop}
use Rattle.dy_definitions.specs.Redefined.{is_word}
use Rattle.dy_definitions.proofs.redefined.is_word.Given as goal

abbrev pub invariant-loop-word : goal.invariant-loop-word
invariant-loop-word l =
    is_word l.words l.text ≡ is_word (drop l.word-index l.words) l.text
