-- The machine of what a program is loaded as takes the course of the program's machine.
use Rattle.std.proofs.Common.{◌≡◌, ℕ, sym, ap, subst, ◌∙◌}
use Rattle.dy_term.specs.declared.rows.Program.{Program}
use Rattle.dy_code.specs.declared.unit.Linked.{Linked}
use Rattle.dy_lowering_law.specs.Machines as law
use Rattle.dy_bare_machines.specs.Machines.{bare_program, linked_without_terms}
use Rattle.dy_bare_machines.proofs.Alike.{steps_are_alike}
use Rattle.dy_world.specs.BuiltIn.{machine_of}
use Rattle.dy_program_world.specs.ProgramWorlds.{built_in_of}
use Rattle.dy_machine.specs.Ends.{Course, TakesCourse}

pub takes_course : (program rows : Program) (loaded : Linked) (fuel : ℕ) (course : Course)
    → loaded ≡ linked_without_terms program → rows ≡ loaded.program
    → TakesCourse (law.machine_of program) fuel course
    → TakesCourse (machine_of loaded (built_in_of rows)) fuel course
takes_course program rows loaded fuel course is seen takes =
    let bare : rows ≡ bare_program program = seen ∙ ap (λ (l : Linked). l.program) is in
    subst (λ (l : Linked). TakesCourse (machine_of l (built_in_of rows)) fuel course) (sym is)
    (subst (λ (p : Program). TakesCourse (machine_of (linked_without_terms program) (built_in_of p)) fuel course) (sym bare)
    (steps_are_alike program course.count fuel ∙ takes))
