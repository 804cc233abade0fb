use Rattle.std.proofs.Common.{◌∙◌}
use Rattle.dy_tree.specs.declared.splitters.Splitting.TheVariants as splittings
use Rattle.dy_rules.specs.Reading as reading
use Rattle.dy_read_operators.specs.Machines.{seen_machine}
use Rattle.dy_read_operators.proofs.PassingSteps.{within_is}
use Rattle.dy_read_operators.proofs.passing.Value.token.Goals as goal

pub returns : goal.returns
returns c = c.with_machine.ensures ∙ within_is c.args.self.passed c.args.self.keyword _ (reading.at_token splittings.Nothing (seen_machine c.args.self.machine) c.args.token.now) c.in_ok-next.ensures
