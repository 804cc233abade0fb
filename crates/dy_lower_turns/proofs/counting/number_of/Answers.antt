use Rattle.std.proofs.Common.{ap, ◌∙◌}
use Rattle.dy_meaning.specs.Lambdas.{lambdas_in}
use Rattle.dy_lower_turns.proofs.ByKind.{in_literal}
use Rattle.dy_lower_turns.proofs.counting.number_of.Goals as goal

pub returns-in-Int-clause-alone : goal.returns-in-Int-clause-alone
returns-in-Int-clause-alone c = ap lambdas_in c.in-Lit.is ∙ in_literal _
