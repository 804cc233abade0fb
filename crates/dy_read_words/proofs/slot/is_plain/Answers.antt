use Rattle.dy_read_words.proofs.Plain.{no_plain}
use Rattle.dy_read_words.proofs.slot.is_plain.Goals as goal

pub returns-in_default : goal.returns-in_default
returns-in_default c = no_plain c.args.expression.now c.in_default.not-Literal c.in_default.not-List
