use Rattle.dy_lowering_law.proofs.Arguments.{arguments_follow, values_taken}
use Rattle.dy_lowering_law.proofs.Bodies.{either_follows, body_follows}
use Rattle.dy_lowering_law.proofs.Cases.{read_follows, choice_follows}
use Rattle.dy_lowering_law.proofs.Lets.{let_prepares}
use Rattle.dy_lowering_law.proofs.Literals.{literal_follows, both_follows}
use Rattle.dy_lowering_law.proofs.Names.{names_follow}
use Rattle.dy_lowering_law.proofs.Operating.{operation_takes}
use Rattle.dy_lowering_law.proofs.Values.{branching_follows, assigning_follows}
use Rattle.dy_lowering_law.proofs.laws.lowering_laws.Goals as goal

pub returns : goal.returns
returns c = record {
  reads = read_follows;
  choices = choice_follows;
  branches = branching_follows;
  names = names_follow;
  literals = literal_follows;
  both = both_follows;
  either = either_follows;
  bodies = body_follows;
  lets = let_prepares;
  assignments = assigning_follows;
  arguments = arguments_follow;
  values = values_taken;
  operations = operation_takes;
}
