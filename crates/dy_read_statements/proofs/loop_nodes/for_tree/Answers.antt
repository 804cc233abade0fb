use Rattle.std.proofs.Common.{rules}
use Rattle.dy_tree.specs.declared.expression.Argument.TheViews.{the_lemmas}
use Rattle.dy_rules.proofs.Held.{inner_items, inner_loop, inner_stop, inner_last}
use Rattle.dy_read_statements.proofs.loop_nodes.for_tree.Goals as goal

pub returns : goal.returns
returns c = search (rules, the_lemmas, inner_items, inner_loop, inner_stop, inner_last)
