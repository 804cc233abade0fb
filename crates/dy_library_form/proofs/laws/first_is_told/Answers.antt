use Rattle.dy_library_form.proofs.Firsts.{best_of}
use Rattle.dy_library_form.proofs.laws.first_is_told.Goals as goal

pub returns : goal.returns
returns c = best_of
