use Rattle.dy_tree.specs.Fragments.{seen_fragments}
use Rattle.dy_read_statements.proofs.TestedParts.{test_front}
use Rattle.dy_read_statements.proofs.tested.tested.Goals as goal

pub returns-clause-test : goal.returns-clause-test
returns-clause-test c = test_front (seen_fragments c.args.fragments.now) c.headed.result c.headed.ensures.front c.headed.ensures.is_round
