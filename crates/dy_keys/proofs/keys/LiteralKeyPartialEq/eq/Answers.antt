use Rattle.dy_lowered.specs.Sameness.{is_same_literal}
use Rattle.dy_sameness.proofs.Equivalence.{told}
use Rattle.dy_sameness.proofs.Sameness.{tells_literal}
use Rattle.dy_keys.proofs.keys.LiteralKeyPartialEq.eq.Goals as goal

pub returns : goal.returns
returns c = told is_same_literal tells_literal _ _ _ c.are_same.ensures
