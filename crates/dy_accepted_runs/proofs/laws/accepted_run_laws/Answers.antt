use Rattle.dy_accepted_runs.proofs.Accepted.{accepted_named, accepted_names_apart, accepted_apart, accepted_lowered, accepted_behave, accepted_may_run, accepted_run, accepted_end}
use Rattle.dy_accepted_runs.proofs.laws.accepted_run_laws.Goals as goal

pub returns : goal.returns
returns c = record {
  named = accepted_named;
  names = accepted_names_apart;
  apart = accepted_apart;
  lowered = accepted_lowered;
  behave = accepted_behave;
  valid = accepted_may_run;
  runs = accepted_run;
  ends = accepted_end;
}
