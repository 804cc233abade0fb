use Rattle.std.proofs.Common.{arith, ◌-◌}
use Rattle.dy_lower_turns.proofs.Listing.{operands_more}
use Rattle.dy_lower_turns.proofs.clauses.all_operands.Goals as goal

pub loop-index-preserved : goal.loop-index-preserved
loop-index-preserved c = λ layout.
    operands_more layout c.as_slice-all.result.now (c.loop-index.index - 1) c.loop-index.index _ _ _ _ (omega (arith, c.loop-index-test.true)) (omega (arith, c.loop-index-test.true, c.loop-index.auto.index)) c.index-all-index.is
    (c.loop-index.invariant layout) (c.operands_of.ensures layout) c.in_ok-count.ensures
