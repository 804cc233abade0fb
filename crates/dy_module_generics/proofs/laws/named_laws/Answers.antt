use Rattle.dy_module_generics.proofs.Named.{faultless_are_read, named_generics_are_there, named_programs_may_run, named_programs_end}
use Rattle.dy_module_generics.proofs.laws.named_laws.Goals as goal

pub returns : goal.returns
returns c = record {
  read = faultless_are_read;
  generics = named_generics_are_there;
  valid = named_programs_may_run;
  ends = named_programs_end;
}
