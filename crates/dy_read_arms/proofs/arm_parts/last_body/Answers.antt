use Rattle.std.proofs.Common.{arith}
use Rattle.dy_read_arms.proofs.arm_parts.last_body.Goals as goal

pub invariant_of-result : goal.invariant_of-result
invariant_of-result c =
    let deep = c.requires c.if-alone.true in
    record { depth_is = rw (c.new.ensures.items, c.new-then-alone.ensures.items) (omega arith) }
