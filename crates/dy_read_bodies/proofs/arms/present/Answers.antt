use Rattle.std.proofs.Common.{Option, subst}
use Rattle.dy_tree.specs.declared.expression.Item.{Item}
use Rattle.dy_read_arms.specs.BodyDepths.{ItemDepth}
use Rattle.dy_read_bodies.proofs.arms.present.Goals as goal

pub returns-in-Some-clause-depth : goal.returns-in-Some-clause-depth
returns-in-Some-clause-depth c = λ old new h. subst (λ (item : Option Item). ItemDepth old new item) c.in-Some.is h
