use Rattle.std.proofs.Common.{w64}
use mir.Val.{SFits}
use Rattle.std.proofs.lemmas.Int.{to_z-of_z}
use Rattle.dy_types.proofs.members.share.Goals as goal

pub returns-then-is_within : goal.returns-then-is_within
returns-then-is_within c =
    let number : SFits w64 c.args.number = c.ranges.number in
    let least : SFits w64 c.args.least = c.ranges.least in
    let greatest : SFits w64 c.args.greatest = c.ranges.greatest in
    let lower : SFits w64 c.args.lower = c.ranges.lower in
    let upper : SFits w64 c.args.upper = c.ranges.upper in
    let first = simp to_z-of_z at c.is_within.ensures in
    let second = simp to_z-of_z at c.is_within-then-is_within.ensures in
    (λ t. (first.0 c.if-is_within.true, second.0 t), λ h. second.1 h.1)
