use Rattle.std.proofs.Common.{◌∙◌}
use Rattle.dy_write_parts.proofs.Expressions.{under_minus}
use Rattle.dy_write_parts.proofs.brackets.minus_bracketed.Goals as goal

pub returns-in_default : goal.returns-in_default
returns-in_default c = c.operand_bracketed.ensures ∙ under_minus c.args.form.now c.in_default.not-Literal
