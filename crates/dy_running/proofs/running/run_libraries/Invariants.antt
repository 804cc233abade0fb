use Rattle.dy_running.specs.Runs.{program_of}
use Rattle.dy_running.proofs.Courses.{course_of}
use Rattle.dy_running.proofs.running.run_libraries.Given as goal

abbrev pub ghost-load_and_run : goal.ghost-load_and_run
ghost-load_and_run g a = course_of (program_of a.libraries.items) a.fuel
