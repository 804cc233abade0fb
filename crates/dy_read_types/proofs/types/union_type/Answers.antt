use Rattle.std.proofs.Common.{rules}
use Rattle.dy_tree.specs.declared.types.TypeForm.TheViews.{the_lemmas}
use Rattle.dy_rules.proofs.HeldTypes.{inner_types}
use Rattle.dy_read_types.proofs.types.union_type.Goals as goal

pub returns : goal.returns
returns c = search (rules, the_lemmas, inner_types)
