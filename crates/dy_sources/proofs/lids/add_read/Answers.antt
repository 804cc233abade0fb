use Rattle.dy_sources.proofs.Naming.{accepted_next}
use Rattle.dy_sources.proofs.lids.add_read.Goals as goal

pub add-requires-clause-next : goal.add-requires-clause-next
add-requires-clause-next c = accepted_next c.args.libraries.now c.args.read c.requires.libraries c.requires.accepted
