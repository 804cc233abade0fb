use Rattle.dy_library_form.proofs.Firsts.{one_told}
use Rattle.dy_library_form.proofs.laws.one_is_told.Goals as goal

pub returns : goal.returns
returns c = one_told
