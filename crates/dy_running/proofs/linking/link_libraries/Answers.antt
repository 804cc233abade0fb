use Rattle.std.proofs.Common.{◌≡◌, List, map, ap, subst, ◌∙◌}
use Rattle.std.specs.Prelude.{IfOk}
use Rattle.dy_code.specs.declared.unit.Linked.{Linked}
use Rattle.dy_code.specs.declared.unit.Unit.{Unit as CodeUnit}
use Rattle.dy_lowered.specs.Linking.{linked}
use Rattle.dy_join.specs.Programs.{joined_program}
use Rattle.dy_running.specs.Runs.{viewed}
use Rattle.dy_running.proofs.Joined.{joined_same}
use Rattle.dy_running.proofs.Libraries.{all_lowered}
use Rattle.dy_running.proofs.linking.link_libraries.Goals as goal

pub lower_libraries-requires : goal.lower_libraries-requires
lower_libraries-requires c = all_lowered c.args.libraries.items c.requires.lowered

pub returns : goal.returns
returns c =
    let same = ap (λ (all : List CodeUnit). linked (joined_program all) all) c.in_ok-units.ensures
    ∙ joined_same (map viewed c.args.libraries.items) c.requires.apart in
    subst (λ (all : Linked). IfOk c.join.result (λ (one : Linked). one ≡ all)) same c.join.ensures
