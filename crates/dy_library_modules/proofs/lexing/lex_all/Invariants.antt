use Rattle.dy_library_modules.proofs.LexedFiles.{LexedTo}
use Rattle.dy_library_modules.proofs.lexing.lex_all.Given as goal

abbrev pub invariant-loop-number : goal.invariant-loop-number
invariant-loop-number l = LexedTo l.texts l.number l.lexed.items
