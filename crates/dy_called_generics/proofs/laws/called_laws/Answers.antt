use Rattle.dy_called_generics.proofs.Programs.{own_generics_are_there, own_programs_may_run, own_programs_end}
use Rattle.dy_called_generics.proofs.laws.called_laws.Goals as goal

pub returns : goal.returns
returns c = record {
  generics = own_generics_are_there;
  valid = own_programs_may_run;
  ends = own_programs_end;
}
