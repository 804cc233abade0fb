use Rattle.std.proofs.Common.{ap, sym, Some, ◌∙◌}
use Rattle.std.proofs.lemmas.Option.{slice_get-map}
use Rattle.std.specs.Option.{option_map}
use Rattle.dy_lowered.specs.Units.{lowered}
use Rattle.dy_lowering_whole.proofs.Programs.{lowered_programs_behave}
use Rattle.dy_lower.proofs.unit.lower_code.Goals as goal

pub returns-in-Ok-clause-behaves : goal.returns-in-Ok-clause-behaves
returns-in-Ok-clause-behaves c = λ program place fuel stands scoped lowers. (
  slice_get-map (lowered program) program.libraries place
      ∙ ap (option_map (lowered program)) stands
      ∙ ap Some (sym (c.in-Ok.ensures program)),
  lowered_programs_behave program fuel scoped lowers,
)
