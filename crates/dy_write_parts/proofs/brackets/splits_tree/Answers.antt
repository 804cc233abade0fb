use Rattle.dy_write_parts.proofs.Expressions.{no_split}
use Rattle.dy_write_parts.proofs.brackets.splits_tree.Goals as goal

pub returns-in_default : goal.returns-in_default
returns-in_default c = no_split c.args.form.now c.in_default.not-Member c.in_default.not-Name
