use Rattle.std.proofs.Common.{rules}
use Rattle.dy_tree.specs.declared.expression.Argument.TheViews.{the_lemmas}
use Rattle.dy_rules.proofs.Held.{inner_arguments}
use Rattle.dy_read_outers.proofs.nodes.call_of.Goals as goal

pub returns : goal.returns
returns c = search (rules, the_lemmas, inner_arguments)
