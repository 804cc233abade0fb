use Rattle.std.proofs.Common.{◌≡◌, drop}
use Rattle.dy_fragment.specs.Words.{is_one_of}
use Rattle.dy_fragment.proofs.word.is_one_of.Given as goal

abbrev pub invariant-loop-word : goal.invariant-loop-word
invariant-loop-word l = is_one_of l.kind l.token l.words ≡ is_one_of l.kind l.token (drop l.word-index l.words)
