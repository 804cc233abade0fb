use Rattle.dy_graph.proofs.OneAnswer.{one_answer}
use Rattle.dy_graph.proofs.laws.graph_laws.Goals as goal

pub returns : goal.returns
returns c = one_answer
