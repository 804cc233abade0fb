-- What a run of the machine tells of the program that it behaves as.
use Rattle.std.proofs.Common.{◌≡◌, ℕ, List, refl, sym, ap, subst}
use Rattle.dy_term.specs.declared.rows.Program.{Program}
use Rattle.dy_values.specs.declared.answer.RunEnd.{RunEnd}
use Rattle.dy_values.specs.declared.answer.RunEnd.TheVariants as answers
use Rattle.dy_outcome.specs.States.{Outcome, Gave, Exits, Ended, Spent}
use Rattle.dy_steps.specs.Configurations.{End, Finished, Signalled, OutOfFuel, Ending}
use Rattle.dy_meaning.specs.Programs.{program_meaning}
use Rattle.dy_lowering_law.specs.Behaving.{EndsAs}
use Rattle.dy_lowering_whole.specs.valid.Scoped.{IsScoped}
use Rattle.dy_lowering_whole.specs.Lowered.{IsLowered}
use Rattle.dy_machine.specs.Ends as machine
use Rattle.dy_running.specs.Runs.{Tells, left_by}
use Rattle.dy_running.proofs.Courses.{course_of, goes}

finished : (end : RunEnd) (vs : _) (s : _) → machine.EndsAs end Finished → Tells end (Gave vs s)
finished answers.Finished vs s ends = tt
finished (answers.Signalled line) vs s ends = absurd ends
finished answers.OutOfFuel vs s ends = absurd ends
finished answers.WriteFault vs s ends = tt
finished answers.NoMemory vs s ends = tt

signalled : (end : RunEnd) (line : List ℕ) (s : _) → machine.EndsAs end (Signalled line)
    → Tells end (Ended line s)
signalled answers.Finished line s ends = absurd ends
signalled (answers.Signalled given) line s ends = ends
signalled answers.OutOfFuel line s ends = absurd ends
signalled answers.WriteFault line s ends = tt
signalled answers.NoMemory line s ends = tt

exhausted : (end : RunEnd) (s : _) → machine.EndsAs end OutOfFuel → Tells end (Spent s)
exhausted answers.Finished s ends = absurd ends
exhausted (answers.Signalled line) s ends = absurd ends
exhausted answers.OutOfFuel s ends = tt
exhausted answers.WriteFault s ends = tt
exhausted answers.NoMemory s ends = tt

-- what the machine's answer tells of the program
pub told : (program : Program) (outcome : Outcome) (ending : Ending) (end : RunEnd)
    → EndsAs program outcome ending → machine.EndsAs end ending.end → Tells end outcome
told program (Gave vs s) ending end same ends =
    finished end vs s (subst (λ (e : End). machine.EndsAs end e) same.ends ends)
told program (Exits number vs s) ending end same ends = absurd same
told program (Ended line s) ending end same ends =
    signalled end line s (subst (λ (e : End). machine.EndsAs end e) same.ends ends)
told program (Spent s) ending end same ends =
    exhausted end s (subst (λ (e : End). machine.EndsAs end e) same.ends ends)

pub units_left : (program : Program) (outcome : Outcome) (ending : Ending)
    → EndsAs program outcome ending → ending.units ≡ (left_by outcome).fuel.left
units_left program (Gave vs s) ending same = same.units
units_left program (Exits number vs s) ending same = absurd same
units_left program (Ended line s) ending same = same.units
units_left program (Spent s) ending same = same.units

pub pieces_left : (program : Program) (outcome : Outcome) (ending : Ending)
    → EndsAs program outcome ending → ending.pieces ≡ (left_by outcome).pieces
pieces_left program (Gave vs s) ending same = same.pieces
pieces_left program (Exits number vs s) ending same = absurd same
pieces_left program (Ended line s) ending same = same.pieces
pieces_left program (Spent s) ending same = same.pieces

pub lines_left : (program : Program) (outcome : Outcome) (ending : Ending)
    → EndsAs program outcome ending → ending.lines ≡ (left_by outcome).lines
lines_left program (Gave vs s) ending same = same.lines
lines_left program (Exits number vs s) ending same = absurd same
lines_left program (Ended line s) ending same = same.lines
lines_left program (Spent s) ending same = same.lines

-- where memory was short, no exit led out of the program either
pub memory_told : (program : Program) (fuel : ℕ) → IsScoped program → IsLowered program
    → Tells answers.NoMemory (program_meaning program fuel)
memory_told program fuel scoped lowered =
    let is = goes program fuel scoped lowered in
    told program (program_meaning program fuel) (course_of program fuel).ending answers.NoMemory is.same tt
