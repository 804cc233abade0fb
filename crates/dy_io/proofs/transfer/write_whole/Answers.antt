use Rattle.std.proofs.Common.{ℕ, arith, length-take, length-drop}
use Rattle.dy_io.proofs.Known.{took_more}
use Rattle.dy_io.proofs.transfer.write_whole.Goals as goal

-- the piece that this write took follows the pieces before it
pub loop-taken-preserved : goal.loop-taken-preserved
loop-taken-preserved g c =
    (omega (arith, c.in-Ok.ensures.bound, length-take {A = ℕ}, length-drop {A = ℕ}), took_more _ _ _ c.args.bytes.now c.loop-taken.taken c.in-Ok.count c.loop-taken.invariant.1 c.in-Ok.ensures.bytes)
