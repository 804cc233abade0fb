use Rattle.std.proofs.Common.{rules, w64}
use mir.Val.{SFits}
use Rattle.std.proofs.lemmas.Int.{to_z-of_z}
use Rattle.dy_types.proofs.Ranges.{shared}
use Rattle.dy_types.proofs.members.can_meet.Goals as goal

pub returns-in-Range-other : goal.returns-in-Range-other
returns-in-Range-other c =
    let least : SFits w64 c.in-Range.least = search rules in
    let greatest : SFits w64 c.in-Range.greatest = search rules in
    let lower : SFits w64 c.in-Range-other.lower = search rules in
    let upper : SFits w64 c.in-Range-other.upper = search rules in
    let told = simp to_z-of_z at c.ranges_meet.ensures in
    rw (c.in-Range.is, c.in-Range-other.is) (shared c.ranges_meet.result c.in-Range.least c.in-Range.greatest c.in-Range-other.lower c.in-Range-other.upper told)
