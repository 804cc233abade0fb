-- How the run of a program goes whose code behaves as it does.
use Rattle.std.proofs.Common.{◌≡◌, ℕ, Bool, true, false, [], refl}
use Rattle.std.proofs.lemmas.Bool.{false≢true}
use Rattle.std.specs.List.{list_all}
use Rattle.dy_term.specs.declared.rows.Program.{Program}
use Rattle.dy_values.specs.Stores.{empty_store}
use Rattle.dy_meaning.specs.Programs.{program_meaning}
use Rattle.dy_steps.specs.Configurations.{Ending, Finished}
use Rattle.dy_steps.specs.Steps.{RunsTo}
use Rattle.dy_lowering_law.specs.Machines.{machine_of}
use Rattle.dy_lowering_law.specs.Behaving.{EndsAs, Behaves}
use Rattle.dy_lowering_whole.specs.valid.Scoped.{is_library_scoped, IsScoped}
use Rattle.dy_lowering_whole.specs.Lowered.{is_library_lowered, IsLowered}
use Rattle.dy_lowering_whole.proofs.Programs.{lowered_programs_behave}
use Rattle.dy_machine.specs.Ends.{Course, TakesCourse}

abbrev pub no_ending : Ending
no_ending = record {
  end = Finished;
  units = 0;
  store = empty_store;
  pieces = [];
  lines = [];
  searches = 0;
}

abbrev pub no_course : Course
no_course = record { count = 0; ending = no_ending }

abbrev pub behaving_course : (program : Program) (fuel : ℕ) → Behaves program fuel → Course
behaving_course program fuel behaves = record { count = behaves.runs.count; ending = behaves.ending }

module _ (program : Program) (fuel : ℕ) where
  course_if : (scoped lowered : Bool) → list_all is_library_scoped program.libraries ≡ scoped
      → list_all is_library_lowered program.libraries ≡ lowered → Course
  course_if true true is_scoped is_lowered =
      behaving_course program fuel (lowered_programs_behave program fuel is_scoped is_lowered)
  course_if true false is_scoped is_lowered = no_course
  course_if false true is_scoped is_lowered = no_course
  course_if false false is_scoped is_lowered = no_course

  -- the run of a program that is in scope and lowered
  pub course_of : Course
  course_of = course_if (list_all is_library_scoped program.libraries)
      (list_all is_library_lowered program.libraries) refl refl

  -- it is one, and ends as the program does
  pub record Goes (course : Course) : Type 0 where
    pub takes : TakesCourse (machine_of program) fuel course
    pub same : EndsAs program (program_meaning program fuel) course.ending

  goes_if : (scoped lowered : Bool) (is_scoped : list_all is_library_scoped program.libraries ≡ scoped)
      (is_lowered : list_all is_library_lowered program.libraries ≡ lowered) → scoped ≡ true
      → lowered ≡ true → Goes (course_if scoped lowered is_scoped is_lowered)
  unfolding course_if
  goes_if true true is_scoped is_lowered s l =
      let behaves = lowered_programs_behave program fuel is_scoped is_lowered in
      record { takes = behaves.runs.ends; same = behaves.same }
  goes_if true false is_scoped is_lowered s l = absurd (false≢true l)
  goes_if false true is_scoped is_lowered s l = absurd (false≢true s)
  goes_if false false is_scoped is_lowered s l = absurd (false≢true s)

  pub goes : IsScoped program → IsLowered program → Goes course_of
  unfolding course_of
  goes scoped lowered = goes_if (list_all is_library_scoped program.libraries)
      (list_all is_library_lowered program.libraries) refl refl scoped lowered
