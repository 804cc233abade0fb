-- The program of libraries, and what a run tells of it.
use Rattle.std.specs.Prelude.{◌≡◌, ℕ, List, [], map}
use Rattle.dy_term.specs.declared.rows.Program.{Program}
use Rattle.dy_values.specs.declared.answer.RunEnd.{RunEnd}
use Rattle.dy_values.specs.declared.answer.RunEnd.TheVariants as ends
use Rattle.dy_outcome.specs.declared.state.State.{State}
use Rattle.dy_outcome.specs.States.{Outcome, Gave, Exits, Ended, Spent}
use Rattle.dy_steps.specs.Configurations.{Ending}
use Rattle.dy_code.specs.declared.unit.Library.{Library}
use Rattle.dy_steps.specs.Steps.{RunsTo}
use Rattle.dy_lowering_law.specs.Machines.{machine_of}
use Rattle.dy_linked_rows.specs.Programs as linked_rows
use Rattle.dy_linked_rows.specs.Programs.{Viewed}
use Rattle.dy_bare_machines.specs.Machines.{linked_without_terms}
use Rattle.dy_loaded.specs.declared.loaded.Loaded.{Loaded}

-- A library as it is lowered: nothing is looked at of the others that it sees.
abbrev pub viewed : Library → Viewed
viewed library = record { view = record { libraries = [] }; library = library }

-- The program of libraries in load order: the rows of each, where the libraries that it sees are at
-- their places in the program.
abbrev pub program_of : List Library → Program
program_of libraries = linked_rows.program_of (map viewed libraries)

-- No two libraries that the code of one mentions come together.
abbrev pub AreApart : List Library → Type 0
AreApart libraries = linked_rows.AreApart (map viewed libraries)

-- An answer tells how a program ends, unless the output failed or memory was short. No exit leads
-- out of a program.
abbrev pub Tells : RunEnd → Outcome → Type 0
Tells end (Exits number values state) = ⊥
Tells ends.Finished (Gave values state) = Unit {0}
Tells (ends.Signalled given) (Ended line state) = given ≡ line
Tells ends.OutOfFuel (Spent state) = Unit {0}
Tells ends.WriteFault outcome = Unit {0}
Tells ends.NoMemory outcome = Unit {0}
Tells _ outcome = ⊥

-- what is left at the end: units, output and lines
abbrev pub left_by : Outcome → State
left_by (Gave values state) = state
left_by (Exits number values state) = state
left_by (Ended line state) = state
left_by (Spent state) = state

-- the machine's run on the program's code takes the sorted methods so often
pub record Counts (program : Program) (fuel searches : ℕ) : Type 0 where
  pub ending : Ending
  pub runs : RunsTo (machine_of program) fuel ending
  pub same : searches ≡ ending.searches

-- this is what a program is loaded as: its code, and its rows without their terms
abbrev pub IsOf : Program → Loaded → Type 0
IsOf program loaded = loaded.linked ≡ linked_without_terms program
