use Rattle.std.proofs.Common.{ap}
use Rattle.dy_term.specs.declared.types.DyType.{DyType}
use Rattle.dy_keys.proofs.types.is_same_type.Goals as goal

pub returns : goal.returns
returns c =
    (λ e. let h = c.are_same_members.ensures.0 e in λ i. record { members = h i }, λ e. c.are_same_members.ensures.1 (ap (λ (t : DyType). t.members) e))
