use Rattle.dy_complete_forms.proofs.Verdicts.{fault_behind, complete_one}
use Rattle.dy_complete_forms.proofs.laws.complete_laws.Goals as goal

pub returns : goal.returns
returns c = record {
  one = complete_one;
  behind = λ words tokens forms fault complete. fault_behind words tokens complete.count forms fault complete.forms;
}
