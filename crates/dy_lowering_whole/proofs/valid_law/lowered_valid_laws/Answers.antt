use Rattle.dy_lowering_whole.proofs.valid.Evenness.{even_code}
use Rattle.dy_lowering_whole.proofs.valid.Fetched.{written_holds}
use Rattle.dy_lowering_whole.proofs.valid.Securing.{ready_programs_may_run, scoped_bodies_fit, scoped_bodies_hold, scoped_programs_may_run}
use Rattle.dy_lowering_whole.proofs.valid.Soundness.{bodies_sound}
use Rattle.dy_lowering_whole.proofs.valid.Wholes.{all_whole}
use Rattle.dy_lowering_whole.proofs.valid_law.lowered_valid_laws.Goals as goal

pub returns : goal.returns
returns c = record {
  written = written_holds;
  terms = even_code;
  whole = all_whole;
  sound = bodies_sound;
  scoped = scoped_bodies_fit;
  holds = scoped_bodies_hold;
  ready = ready_programs_may_run;
  valid = scoped_programs_may_run;
}
