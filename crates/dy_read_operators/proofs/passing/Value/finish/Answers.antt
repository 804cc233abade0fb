use Rattle.std.proofs.Common.{◌≡◌, map, Option, option_map, ◌∙◌}
use Rattle.std.proofs.lemmas.Result.{IfOk-weaker}
use Rattle.dy_rules.specs.Reading.{with_last, tree_of}
use Rattle.dy_rules_depth.specs.Changes.{changed_argument}
use Rattle.dy_rules_depth.specs.Capping.{capping}
use Rattle.dy_read_outers.specs.declared.passed.Passed.{Passed}
use Rattle.dy_read_outers.specs.Passed.{read_passed}
use Rattle.dy_read_operators.specs.Machines.{seen_machine}
use Rattle.dy_read_operators.proofs.PassingSteps.{with_tree_is}
use Rattle.dy_read_operators.proofs.passing.Value.finish.Goals as goal

pub returns : goal.returns
returns c =
    let tree = tree_of (seen_machine c.args.self.machine) in
    IfOk-weaker c.with_tree.result _ (λ (found : Option Passed). option_map read_passed found ≡ option_map (map (changed_argument capping)) (option_map (with_last (read_passed c.args.self.passed) c.args.self.keyword) tree))
    (λ found e. e ∙ with_tree_is c.args.self.passed c.args.self.keyword _ tree c.in_ok-tree.ensures) c.with_tree.ensures
