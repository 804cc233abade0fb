use Rattle.dy_lowered_examples.proofs.LoopCode as loops
use Rattle.dy_lowered_examples.proofs.ClosureCode as closures
use Rattle.dy_lowered_examples.proofs.laws.example_laws.Goals as goal

pub returns : goal.returns
returns c = record {
  loop_body = loops.main_is;
  counter_body = closures.counter_is;
  closure_body = closures.closure_is;
  main_body = closures.main_is;
}
