use Rattle.std.proofs.Common.{w64}
use mir.Val.{SFits}
use Rattle.std.proofs.lemmas.Int.{to_z-of_z}
use Rattle.dy_types.proofs.Ranges.{one_of}
use Rattle.dy_types.proofs.members.ranges_meet.Goals as goal

pub returns-else-share : goal.returns-else-share
returns-else-share c =
    let least : SFits w64 c.args.least = c.ranges.least in
    let greatest : SFits w64 c.args.greatest = c.ranges.greatest in
    let lower : SFits w64 c.args.lower = c.ranges.lower in
    let upper : SFits w64 c.args.upper = c.ranges.upper in
    let first = simp to_z-of_z at c.share.ensures in
    let second = simp to_z-of_z at c.share-else-share.ensures in
    one_of c.share.result c.share-else-share.result c.if-share.false first second
