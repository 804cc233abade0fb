use Rattle.dy_module_generics.proofs.BuiltIn.{built_in_are_there}
use Rattle.dy_module_generics.proofs.Behind.{faultless_are_read_behind, calls_are_there_behind, generics_are_there_behind, exports_are_there_behind, exports_stay, programs_may_run_behind, programs_end_behind}
use Rattle.dy_module_generics.proofs.Carried.{exports_are_carried}
use Rattle.dy_module_generics.proofs.laws.behind_laws.Goals as goal

pub returns : goal.returns
returns c = record {
  read = faultless_are_read_behind;
  calls = calls_are_there_behind;
  generics = generics_are_there_behind;
  exports = exports_are_there_behind;
  built_in = built_in_are_there;
  stay = exports_stay;
  carried = exports_are_carried;
  valid = programs_may_run_behind;
  ends = programs_end_behind;
}
