use Rattle.std.proofs.Common.{sym, ap, ◌∙◌}
use Rattle.dy_rules.specs.Depth.{depth}
use Rattle.dy_rules_depth.proofs.DeepTrees.{deep_tree_depth}
use Rattle.dy_read_outers.proofs.nodes.too_deep.Goals as goal

pub grown-requires : goal.grown-requires
grown-requires c = record { depth_is = sym (ap depth c.in_ok-absent.ensures.read ∙ deep_tree_depth); within = c.in_ok-absent.ensures.within }
