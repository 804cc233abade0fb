use Rattle.dy_printing.proofs.Costs.{value_costs, alone_costs, parts_cost}
use Rattle.dy_printing.proofs.laws.printing_laws.Goals as goal

pub returns : goal.returns
returns c = record { alone = alone_costs; values = value_costs; texts = parts_cost }
