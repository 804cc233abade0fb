use Rattle.dy_bare_machines.proofs.BuiltIn.{built_in_is_alike}
use Rattle.dy_bare_machines.proofs.Alike.{steps_are_alike, runs_are_alike}
use Rattle.dy_bare_machines.proofs.laws.bare_machine_laws.Goals as goal

pub returns : goal.returns
returns c = record { built_in = built_in_is_alike; steps = steps_are_alike; runs = runs_are_alike }
