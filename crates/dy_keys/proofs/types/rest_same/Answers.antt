use Rattle.dy_lowered.specs.Sameness.{is_same_option, is_same_type}
use Rattle.dy_sameness.proofs.Equivalence.{told}
use Rattle.dy_sameness.proofs.Sameness.{tells_further}
use Rattle.dy_keys.proofs.types.rest_same.Goals as goal

pub returns : goal.returns
returns c = told (is_same_option is_same_type) tells_further _ _ _ c.is_same_rest.ensures
