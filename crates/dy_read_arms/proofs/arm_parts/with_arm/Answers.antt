use Rattle.std.proofs.Common.{option_map, sym, ap, ◌∙◌}
use Rattle.dy_read_arms.specs.Arms.{read_behind}
use Rattle.dy_read_arms.specs.ReadArms.{read_tests, read_first}
use Rattle.dy_read_arms.proofs.ArmsBehind.{arm_reads}
use Rattle.dy_read_arms.proofs.ArmParts.{arm_suits, arm_fails}
use Rattle.dy_read_arms.proofs.Results.{read_as}
use Rattle.dy_read_arms.proofs.arm_parts.with_arm.Goals as goal

pub returns-then-suit : goal.returns-then-suit
returns-then-suit c =
    let rest = read_behind c.args.behind in
    read_as (option_map read_behind) c.arm_before.result _ _
    (arm_suits c.args.single rest (read_tests c.in-Some.tests) (read_first c.in-Some-first.first) c.if-suit.ensures
    ∙ arm_reads c.args.single rest (ap (option_map read_tests) (sym c.in-Some.is)) (ap (option_map read_first) (sym c.in-Some-first.is)))
    c.arm_before.ensures

pub returns-else-suit : goal.returns-else-suit
returns-else-suit c =
    let rest = read_behind c.args.behind in
    arm_fails c.args.single rest (read_tests c.in-Some.tests) (read_first c.in-Some-first.first) c.if-suit.ensures
    ∙ arm_reads c.args.single rest (ap (option_map read_tests) (sym c.in-Some.is)) (ap (option_map read_first) (sym c.in-Some-first.is))
