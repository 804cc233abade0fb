use Rattle.std.proofs.Common.{◌≡◌, map, take}
use Rattle.dy_construct_parts.specs.Table.{first_absent}
use Rattle.dy_construct_parts.specs.Words.{adjective}
use Rattle.dy_constructs.proofs.forms.in_adjectives.Given as goal

abbrev pub invariant-loop-word : goal.invariant-loop-word
invariant-loop-word l = l.found ≡ first_absent (map adjective (take l.word-index l.word-items))
