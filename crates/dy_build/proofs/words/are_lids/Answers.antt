use Rattle.std.proofs.Common.{sym, ◌∙◌}
use Rattle.dy_build.proofs.LidWords.{some_lids}
use Rattle.dy_build.proofs.words.are_lids.Goals as goal

pub returns-then-not-is_empty : goal.returns-then-not-is_empty
returns-then-not-is_empty c =
    c.are_file_words.ensures ∙ some_lids c.args.words.now (sym c.is_empty.ensures ∙ c.if-not-is_empty.true)
