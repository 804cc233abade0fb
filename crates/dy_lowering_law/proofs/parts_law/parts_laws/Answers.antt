use Rattle.dy_lowering_law.proofs.parts.Answering.{applied_low, all_taken}
use Rattle.dy_lowering_law.proofs.parts.Binding.{all_lets_follow}
use Rattle.dy_lowering_law.proofs.parts.Bound.{let_items_follow}
use Rattle.dy_lowering_law.proofs.parts.Closing.{closing_follows, methods_follow, items_follow}
use Rattle.dy_lowering_law.proofs.parts.Looping.{loop_follows}
use Rattle.dy_lowering_law.proofs.parts.Selects.{select_follows}
use Rattle.dy_lowering_law.proofs.parts_law.parts_laws.Goals as goal

pub returns : goal.returns
returns c = record {
  lets = all_lets_follow;
  let_items = let_items_follow;
  low = applied_low;
  operations = all_taken;
  selects = select_follows;
  loops = loop_follows;
  closures = closing_follows;
  methods = methods_follow;
  method_items = items_follow;
}
