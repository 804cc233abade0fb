use Rattle.std.proofs.Common.{arith, ◌-◌}
use Rattle.dy_lower_turns.proofs.Listing.{operands_more, tests_more}
use Rattle.dy_lower_turns.proofs.clauses.put_tests.Goals as goal

pub loop-index-preserved : goal.loop-index-preserved
loop-index-preserved c =
    let all = c.as_slice-all.result.now in
    let index = c.loop-index.index in
    record {
      above = λ layout. operands_more layout all (index - 1) index _ _ _ _ (omega (arith, c.loop-index-test.true)) (omega (arith, c.loop-index-test.true, c.loop-index.auto.index)) c.index-all-index.is
          (c.loop-index.invariant.above layout) (c.operands_of.ensures layout) c.in_ok-above.ensures;
      code = λ layout. tests_more layout all (index - 1) index _ _ _ _ _ _ (omega (arith, c.loop-index-test.true)) (omega (arith, c.loop-index-test.true, c.loop-index.auto.index)) c.index-all-index.is
          (c.loop-index.invariant.above layout) (c.loop-index.invariant.code layout) (c.in_ok-put_clause_test.ensures layout);
    }
