use Rattle.std.proofs.Common.{option_map, ◌∙◌}
use Rattle.dy_rules.specs.Reading as reading
use Rattle.dy_read_outers.specs.Grown.{read_grown}
use Rattle.dy_read_outers.specs.Passed.{read_passed}
use Rattle.dy_read_operators.specs.Machines.{seen_machine}
use Rattle.dy_read_operators.proofs.PassingSteps.{within_is}
use Rattle.dy_read_operators.proofs.passing.Value.group.Goals as goal

pub returns : goal.returns
returns c = c.with_machine.ensures ∙ within_is c.args.self.passed c.args.self.keyword _ (reading.at_group (seen_machine c.args.self.machine) c.args.opener.now c.args.bracket (option_map read_grown c.args.tree) (option_map read_passed c.args.arguments)) c.in_ok-next.ensures
