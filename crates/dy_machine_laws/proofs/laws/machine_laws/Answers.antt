use Rattle.dy_machine_laws.proofs.Built.{machine_orderly, thrifty, valid_programs_end}
use Rattle.dy_machine_laws.proofs.laws.machine_laws.Goals as goal

pub returns : goal.returns
returns c = record { orderly = machine_orderly; thrifty = thrifty; ends = valid_programs_end }
