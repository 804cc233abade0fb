use Rattle.std.proofs.Common.{arith, ◌-◌}
use Rattle.dy_layouts.specs.Views.{seen_layout}
use Rattle.dy_lower_turns.proofs.Listing.{operands_more, bindings_more}
use Rattle.dy_lower_turns.proofs.clauses.put_bindings.Goals as goal

pub loop-index-preserved : goal.loop-index-preserved
loop-index-preserved c =
    let all = c.as_slice-all.result.now in
    let index = c.loop-index.index in
    let l = seen_layout c.args.layout.now in
    record {
      place = λ layout. operands_more layout all (index - 1) index _ _ _ _ (omega (arith, c.loop-index-test.true)) (omega (arith, c.loop-index-test.true, c.loop-index.auto.index)) c.index-all-index.is
          (c.loop-index.invariant.place layout) (c.operands_of.ensures layout) c.in_ok-place.ensures;
      code = bindings_more l all (index - 1) index _ _ _ _ _ _ _ (omega (arith, c.loop-index-test.true)) (omega (arith, c.loop-index-test.true, c.loop-index.auto.index)) c.index-all-index.is
          (c.loop-index.invariant.place l) (c.operands_of.ensures l) c.in_ok-place.ensures c.loop-index.invariant.code c.in_ok-put_binding.ensures;
    }
