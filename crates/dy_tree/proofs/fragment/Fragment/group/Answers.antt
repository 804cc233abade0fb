use Rattle.std.proofs.Common.{rules}
use Rattle.dy_tree.specs.declared.fragment.Fragment.TheViews.{the_lemmas}
use Rattle.dy_tree.proofs.Rows.{inner_packs}
use Rattle.dy_tree.proofs.fragment.Fragment.group.Goals as goal

pub returns : goal.returns
returns c = search (rules, the_lemmas, inner_packs)
