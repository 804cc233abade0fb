-- The theorem: the machine on the code of a program does what the program does.
use Rattle.std.specs.Prelude.{◌≡◌, ℕ, ◌+◌, ◌-◌, ◌<◌, true, List, length}
use Rattle.dy_term.specs.declared.term.Term.{Term}
use Rattle.dy_term.specs.declared.rows.Program.{Program}
use Rattle.dy_outcome.specs.declared.state.State.{State}
use Rattle.dy_outcome.specs.States.{Outcome, Gave, Exits, Ended, Spent}
use Rattle.dy_meaning.specs.Lambdas.{lambdas_in, lambdas_of}
use Rattle.dy_meaning.specs.Layouts.{Layout}
use Rattle.dy_meaning.specs.Programs.{meaning_within, program_meaning}
use Rattle.dy_steps.specs.Configurations.{End, Finished, Signalled, OutOfFuel, Ending}
use Rattle.dy_steps.specs.Steps.{RunsTo}
use Rattle.dy_lowered.specs.Terms.{code_of}
use Rattle.dy_lowered.specs.Readiness.{is_ready}
use Rattle.dy_lowering_law.specs.Following.{Follows}
use Rattle.dy_lowering_law.specs.Machines.{machine_of}
use Rattle.dy_lowering_law.specs.Ready.{IsReady}
use Rattle.dy_lowering_law.specs.Renumbering.{body_of, renumbered_store}

-- the same end, units, output and lines, and the same store but for the numbers of closures
pub record IsLeft (program : Program) (end : End) (state : State) (ending : Ending) : Type 0 where
  pub ends : ending.end ≡ end
  pub units : ending.units ≡ state.fuel.left
  pub store : ending.store ≡ renumbered_store (body_of program) state.store
  pub pieces : ending.pieces ≡ state.pieces
  pub lines : ending.lines ≡ state.lines

-- how a run ends that does what a program does; no exit leads out of a program
abbrev pub EndsAs : Program → Outcome → Ending → Type 0
EndsAs program (Gave values state) ending = IsLeft program Finished state ending
EndsAs program (Exits block values state) ending = ⊥
EndsAs program (Ended line state) ending = IsLeft program (Signalled line) state ending
EndsAs program (Spent state) ending = IsLeft program OutOfFuel state ending

pub record Behaves (program : Program) (fuel : ℕ) : Type 0 where
  pub ending : Ending
  pub runs : RunsTo (machine_of program) fuel ending
  pub same : EndsAs program (program_meaning program fuel) ending

-- The lambda is one of the program, and its body has this number in a library that stands behind so
-- many bodies of others.
pub record IsNumbered (program : Program) (before lambda body : ℕ) : Type 0 where
  pub known : lambda < length (lambdas_of program)
  pub same : body_of program lambda ≡ before + body

-- so many lambdas from one on, whose bodies follow each other
abbrev pub AreNumberedFrom : Program → (before lambda body count : ℕ) → Type 0
AreNumberedFrom program before lambda body count = (more : ℕ) → more < count
    → IsNumbered program before (lambda + more) (body + more)

-- so it is with the lambdas inside of a term
abbrev pub AreNumbered : Program → (before closure lambda : ℕ) → Term → Type 0
AreNumbered program before closure lambda term =
    AreNumberedFrom program before lambda closure (length (lambdas_in term))

-- The code of each term does what the term does, wherever it stands and for every number of units.
abbrev pub TermsFollow : Program → Type 0
TermsFollow program = (n before closure lambda last : ℕ) (layout : Layout) (term : Term)
    → is_ready layout.first last term ≡ true → AreNumbered program before closure lambda term
    → Follows program n before (last - layout.first) (code_of layout term closure)
    (meaning_within program n layout term lambda)

-- With every fuel a program's code behaves as the program.
abbrev pub ProgramsBehave : Type 0
ProgramsBehave = (program : Program) (fuel : ℕ) → IsReady program → Behaves program fuel
