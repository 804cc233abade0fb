use Rattle.dy_linked_rows.proofs.Joined.{programs_are_joined}
use Rattle.dy_linked_rows.proofs.joining.linked_programs_laws.Goals as goal

pub returns : goal.returns
returns c = record { joined = programs_are_joined }
