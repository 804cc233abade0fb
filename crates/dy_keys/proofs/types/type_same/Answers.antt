use Rattle.dy_lowered.specs.Sameness.{is_same_type}
use Rattle.dy_sameness.proofs.Equivalence.{told}
use Rattle.dy_sameness.proofs.Sameness.{tells_type}
use Rattle.dy_keys.proofs.types.type_same.Goals as goal

pub returns : goal.returns
returns c = told is_same_type tells_type _ _ _ c.is_same_type.ensures
