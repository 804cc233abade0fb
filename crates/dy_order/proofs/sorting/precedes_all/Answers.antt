use Rattle.std.proofs.Common.{◌≡◌, true, false, add-one}
use Rattle.dy_order.specs.Precedence.{Precedes}
use Rattle.dy_order.proofs.Told.{all_stops, all_more, all_ends}
use Rattle.dy_order.proofs.sorting.precedes_all.Goals as goal

pub returns-then-not-precedes : goal.returns-then-not-precedes
returns-then-not-precedes c =
    let f : c.precedes.result ≡ false = cc in
    all_stops (Precedes c.args.program.now c.args.args.now c.args.method) c.args.others.now c.loop-other.other-index _ c.loop-other-test.true c.precedes.result c.precedes.ensures f

pub loop-other-preserved : goal.loop-other-preserved
loop-other-preserved c =
    let t : c.precedes.result ≡ true = cc in
    rw add-one
    (all_more (Precedes c.args.program.now c.args.args.now c.args.method) c.args.others.now c.loop-other.other-index _ c.loop-other-test.true c.precedes.result c.precedes.ensures t c.loop-other.invariant)

pub returns : goal.returns
returns c = all_ends (Precedes c.args.program.now c.args.args.now c.args.method) c.args.others.now c.loop-other.other-index c.loop-other-test.false c.loop-other.invariant
