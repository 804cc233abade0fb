use Rattle.std.specs.Prelude.{bytes_eq}
use Rattle.dy_lowered.specs.Sameness.{are_same, is_same_option}
use Rattle.dy_sameness.proofs.Equivalence.{told}
use Rattle.dy_sameness.proofs.Sameness.{tells_keys}
use Rattle.dy_keys.proofs.types.keys_same.Goals as goal

pub returns : goal.returns
returns c = told (is_same_option (are_same bytes_eq)) tells_keys _ _ _ c.are_same_keys.ensures
