use Rattle.dy_meaning.specs.Programs.{program_meaning}
use Rattle.dy_running.specs.Runs.{program_of}
use Rattle.dy_build.proofs.Closings.{closed_runs}
use Rattle.dy_build.proofs.command.run.Goals as goal

pub returns-clause-runs : goal.returns-clause-runs
returns-clause-runs g c =
    let e = c.run_libraries-ran.ensures in
    closed_runs (program_meaning (program_of c.args.libraries.items) c.args.fuel) c.run_libraries-ran.result.end
    c.finish.result (g.O.Sink.contents c.args.out.now) (g.O.Sink.contents c.run_libraries-ran.new.out)
    (g.E.Sink.contents c.args.err.now) (g.E.Sink.contents c.run_libraries-ran.new.err)
    (g.E.Sink.contents c.finish.new.err)
    e.end e.out e.err e.out_front e.err_front c.finish.ensures.closes
