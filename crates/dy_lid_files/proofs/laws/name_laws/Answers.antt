use Rattle.dy_lid_files.proofs.Agreement.{names_in_form, names_one}
use Rattle.dy_lid_files.proofs.laws.name_laws.Goals as goal

pub returns : goal.returns
returns c = record { one = names_one; in_form = names_in_form }
