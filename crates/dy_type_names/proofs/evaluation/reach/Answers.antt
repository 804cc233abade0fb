use Rattle.std.proofs.Common.{◌∙◌, arith}
use Rattle.dy_type_names.proofs.NoTypes.{pushed_stays, pushed_longer}
use Rattle.dy_type_names.proofs.evaluation.reach.Goals as goal

pub loop-alloc-preserved : goal.loop-alloc-preserved
loop-alloc-preserved c = record {
  standing = λ b. pushed_stays c.loop-alloc.types c.push.new.self c.new.result.items 0 c.in_ok-push.ensures.ok c.new.ensures.items b ∙ c.loop-alloc.invariant.standing b;
  least = let longer = pushed_longer c.loop-alloc.types c.push.new.self c.new.result.items c.in_ok-push.ensures.ok in omega (arith, longer);
}
