use Rattle.std.proofs.Common.{arith}
use Rattle.dy_generics.proofs.duplicates.are_equivalent.Goals as goal

pub returns-then-types-others : goal.returns-then-types-others
returns-then-types-others c = (λ t. (omega (arith, c.if-types-others.true), c.all_equivalent.ensures.0 t), λ h. c.all_equivalent.ensures.1 h.1)
