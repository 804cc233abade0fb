use Rattle.std.proofs.Common.{◌≤◌, length, arith}
use Rattle.std.proofs.Math.ListN.{drop_of_length-le}
use Rattle.dy_library_modules.proofs.LexedFiles.{lexed_all}
use Rattle.dy_library_modules.proofs.lexing.lex_all.Goals as goal

pub returns : goal.returns
returns c =
    let texts = c.args.texts.now in
    let past : length texts ≤ c.loop-number.number = omega arith in
    lexed_all texts c.loop-number.number c.loop-number.lexed.items (drop_of_length-le texts past) c.loop-number.invariant
