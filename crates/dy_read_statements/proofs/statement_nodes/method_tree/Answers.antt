use Rattle.std.proofs.Common.{rules}
use Rattle.dy_tree.specs.declared.expression.Argument.TheViews.{the_lemmas}
use Rattle.dy_rules.proofs.Held.{inner_items}
use Rattle.dy_read_statements.proofs.statement_nodes.method_tree.Goals as goal

pub returns : goal.returns
returns c = search (rules, the_lemmas, inner_items)
