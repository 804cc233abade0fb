use Rattle.std.proofs.Common.{rules}
use Rattle.dy_tree.specs.declared.types.ConstantForm.TheViews.{the_lemmas}
use Rattle.dy_rules.proofs.HeldTypes.{inner_constants}
use Rattle.dy_read_constants.proofs.constant_nodes.vector_of.Goals as goal

pub returns : goal.returns
returns c = search (rules, the_lemmas, inner_constants)
