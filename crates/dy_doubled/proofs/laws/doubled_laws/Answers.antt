use Rattle.dy_doubled.proofs.OneAnswer.{one_answer}
use Rattle.dy_doubled.proofs.laws.doubled_laws.Goals as goal

pub returns : goal.returns
returns c = one_answer
