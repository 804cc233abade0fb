use Rattle.dy_verdict_laws.proofs.Accepted.{accepted_lowered, accepted_viewed, accepted_lower}
use Rattle.dy_verdict_laws.proofs.Uniqueness.{verdict_one}
use Rattle.dy_verdict_laws.proofs.laws.verdict_laws.Goals as goal

pub returns : goal.returns
returns c = record {
  one = verdict_one;
  lowered = accepted_lowered;
  viewed = accepted_viewed;
  lower = accepted_lower;
}
