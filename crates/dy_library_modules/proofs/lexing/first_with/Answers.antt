use Rattle.std.proofs.Common.{sym, ◌∙◌}
use Rattle.dy_library_modules.proofs.LexedFiles.{first_kept, first_new, first_alone}
use Rattle.dy_library_modules.proofs.lexing.first_with.Goals as goal

pub returns-then-is_told : goal.returns-then-is_told
returns-then-is_told c = λ faults is. first_kept c.args.fault c.in-Some.first (sym c.is_told.ensures ∙ c.if-is_told.true) faults (sym c.in-Some.is ∙ is)

pub returns-else-is_told : goal.returns-else-is_told
returns-else-is_told c = λ faults is. first_new c.args.fault c.in-Some.first (sym c.is_told.ensures ∙ c.if-is_told.false) faults (sym c.in-Some.is ∙ is)

pub returns-in-None : goal.returns-in-None
returns-in-None c = λ faults is. first_alone c.args.fault faults (sym c.in-None.is ∙ is)
