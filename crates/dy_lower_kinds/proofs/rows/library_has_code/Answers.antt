use Rattle.std.proofs.Common.{◌∙◌}
use Rattle.dy_lower_kinds.proofs.Lowered.{library_has}
use Rattle.dy_lower_kinds.proofs.rows.library_has_code.Goals as goal

pub returns-clause-lowered : goal.returns-clause-lowered
returns-clause-lowered c = λ lowered. c.all_have_code.ensures ∙ library_has c.args.library.now lowered
