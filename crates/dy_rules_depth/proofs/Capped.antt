-- What stands in the place of parts that are too deep.
use Rattle.dy_rules_depth.specs.Capping.{capping}
use Rattle.dy_rules_depth.proofs.Caps.{Caps, caps_same, caps_leaf, caps_one, caps_two}
use Rattle.dy_rules_depth.proofs.DeepTrees.{caps_tree, caps_type, caps_constant}
use Rattle.dy_rules_depth.proofs.Parts.{Parts}

abbrev pub capped_parts : Parts
capped_parts = record { change = capping; Related = Caps; same = caps_same; leaf = caps_leaf; one = caps_one; two = caps_two; tree = caps_tree; type = caps_type; constant = caps_constant }
