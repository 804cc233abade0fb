use Rattle.dy_running.proofs.running.load_and_run.Given as goal

abbrev pub ghost-run : goal.ghost-run
ghost-run g a = g.course
