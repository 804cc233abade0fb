use Rattle.dy_lowered.specs.Sameness.{are_same, is_same_type}
use Rattle.dy_sameness.proofs.Equivalence.{told}
use Rattle.dy_sameness.proofs.Sameness.{tells_types}
use Rattle.dy_keys.proofs.types.types_same.Goals as goal

pub returns : goal.returns
returns c = told (are_same is_same_type) tells_types _ _ _ c.are_same_types.ensures
