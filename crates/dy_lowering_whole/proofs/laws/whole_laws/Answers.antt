use Rattle.std.proofs.Common.{refl}
use Rattle.dy_lowering_whole.proofs.Calling.{no_term_exits}
use Rattle.dy_lowering_whole.proofs.Laid.{calls_stand, ready_calls_stand, terms_follow}
use Rattle.dy_lowering_whole.proofs.Programs.{lowered_programs_behave, programs_behave}
use Rattle.dy_lowering_whole.proofs.Terms.{lowered_terms_follow, ready_terms_follow}
use Rattle.dy_lowering_whole.proofs.laws.whole_laws.Goals as goal

pub returns : goal.returns
returns c = record {
  lowered_terms = lowered_terms_follow;
  lowered_calls = calls_stand;
  lowered_programs = lowered_programs_behave;
  built_in = (refl, refl);
  exits = no_term_exits;
  terms = ready_terms_follow;
  calls = ready_calls_stand;
  all = terms_follow;
  programs = programs_behave;
}
