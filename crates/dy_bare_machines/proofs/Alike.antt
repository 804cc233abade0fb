-- The machine of a program without terms is that of the program, with rows without terms; and so it
-- runs the same.
use Rattle.std.proofs.Common.{◌≡◌, sym, ap, ◌∙◌}
use Rattle.dy_term.specs.declared.rows.Program.{Program}
use Rattle.dy_steps.specs.Configurations.{Machine}
use Rattle.dy_steps.specs.Steps.{steps, start}
use Rattle.dy_lowering_law.specs.Machines.{machine_of}
use Rattle.dy_bare_machines.specs.Machines.{linked_without_terms, machine_without_terms, StepsAreAlike, RunsAreAlike}
use Rattle.dy_bare_machines.proofs.Effects.{bare}
use Rattle.dy_bare_machines.proofs.Steps.{steps_same, start_same}
use Rattle.dy_bare_machines.proofs.BuiltIn.{built_in_is_alike}

machine_is_bare : (program : Program) → machine_without_terms program ≡ bare (machine_of program)
machine_is_bare program =
    let same = built_in_is_alike program in
    λ j. record {
      linked = linked_without_terms program;
      is_instance = same.is_instance j;
      sorted = same.sorted j;
      operation = same.operation j;
      accessor = same.accessor j;
      variable = same.variable j;
      define = same.define j;
      line = same.line j;
    }

pub steps_are_alike : StepsAreAlike
steps_are_alike program count fuel =
    ap (λ (m : Machine). steps m count (start m fuel)) (machine_is_bare program)
    ∙ (λ j. steps_same (machine_of program) count (start_same (machine_of program) fuel j) j)

pub runs_are_alike : RunsAreAlike
runs_are_alike program fuel ending = (
  λ run. record { count = run.count; ends = sym (steps_are_alike program run.count fuel) ∙ run.ends },
  λ run. record { count = run.count; ends = steps_are_alike program run.count fuel ∙ run.ends },
)
