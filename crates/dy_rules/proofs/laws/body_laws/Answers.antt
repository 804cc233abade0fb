use Rattle.dy_rules.proofs.Whole.{reads_body, reads_all_bodies, one_body, body_written}
use Rattle.dy_rules.proofs.laws.body_laws.Goals as goal

pub returns : goal.returns
returns c = record { reads = reads_body; all = reads_all_bodies; one = one_body; writes = body_written }
