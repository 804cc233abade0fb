use Rattle.dy_program_sizes.proofs.Pieces.{accepted_small}
use Rattle.dy_program_sizes.proofs.Programs.{programs_small}
use Rattle.dy_program_sizes.proofs.laws.program_size_laws.Goals as goal

pub returns : goal.returns
returns c = record { accepted = accepted_small; programs = programs_small }
