use Rattle.std.proofs.Common.{rules}
use Rattle.dy_tree.specs.declared.expression.Argument.TheViews.{the_lemmas}
use Rattle.dy_rules.proofs.Held.{inner_limit, inner_default}
use Rattle.dy_read_statements.proofs.clause_nodes.from_form.Goals as goal

pub returns : goal.returns
returns c = search (rules, the_lemmas, inner_limit, inner_default)
