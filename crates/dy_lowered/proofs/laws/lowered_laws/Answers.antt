use Rattle.std.proofs.Common.{refl}
use Rattle.dy_lowered.proofs.Distinct.{holds_once}
use Rattle.dy_lowered.proofs.Joining.{joined}
use Rattle.dy_lowered.proofs.laws.lowered_laws.Goals as goal

pub returns : goal.returns
returns c = record { joined = joined; once = holds_once; bodies = λ places unit. refl }
