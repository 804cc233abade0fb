use Rattle.std.proofs.Common.{refl}
use Rattle.dy_program_world.proofs.Plain.{is_plain}
use Rattle.dy_program_world.proofs.laws.world_laws.Goals as goal

pub returns : goal.returns
returns c = record { world = λ w. refl; machine = λ program. refl; plain = is_plain }
