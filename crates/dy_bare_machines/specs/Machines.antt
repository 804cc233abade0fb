-- The machine of a program whose rows hold no terms: its code says all that is done.
use Rattle.std.specs.Prelude.{◌≡◌, ◌↔◌, ℕ, map}
use Rattle.dy_term.specs.declared.rows.Program.{Program}
use Rattle.dy_code.specs.declared.unit.Linked.{Linked}
use Rattle.dy_steps.specs.Configurations.{Ending, Machine}
use Rattle.dy_steps.specs.Steps.{steps, start, RunsTo}
use Rattle.dy_lowering_law.specs.Machines.{linked_program, machine_of}
use Rattle.dy_lowered.specs.Units.{bare_row}

-- a program without terms: each library as the row of its unit is
abbrev pub bare_program : Program → Program
bare_program program = record { libraries = map bare_row program.libraries }

-- the code of a program, with its rows without terms
abbrev pub linked_without_terms : Program → Linked
linked_without_terms program = record (linked_program program) { program = bare_program program }

-- the machine that runs it: what is built in, too, sees the rows without terms alone
abbrev pub machine_without_terms : Program → Machine
machine_without_terms program =
    record (machine_of (bare_program program)) { linked = linked_without_terms program }

-- the same is built into two machines
pub record HaveTheSameBuiltIn (left right : Machine) : Type 0 where
  pub is_instance : left.is_instance ≡ right.is_instance
  pub sorted : left.sorted ≡ right.sorted
  pub operation : left.operation ≡ right.operation
  pub accessor : left.accessor ≡ right.accessor
  pub variable : left.variable ≡ right.variable
  pub define : left.define ≡ right.define
  pub line : left.line ≡ right.line

-- What is built in does not look at terms.
abbrev pub BuiltInIsAlike : Type 0
BuiltInIsAlike = (program : Program)
    → HaveTheSameBuiltIn (machine_of (bare_program program)) (machine_of program)

-- After any number of steps a run is where it is with the terms.
abbrev pub StepsAreAlike : Type 0
StepsAreAlike = (program : Program) (count fuel : ℕ)
    → steps (machine_without_terms program) count (start (machine_without_terms program) fuel)
    ≡ steps (machine_of program) count (start (machine_of program) fuel)

-- So it ends as it does with them.
abbrev pub RunsAreAlike : Type 0
RunsAreAlike = (program : Program) (fuel : ℕ) (ending : Ending)
    → RunsTo (machine_without_terms program) fuel ending ↔ RunsTo (machine_of program) fuel ending
