use Rattle.std.proofs.Common.{map, option_map, string_bytes, arith}
use Rattle.dy_meaning.specs.Programs.{program_meaning}
use Rattle.dy_running.specs.Runs.{program_of}
use Rattle.dy_build.specs.Words.{build}
use Rattle.dy_build.proofs.Closings.{no_run, most_run}
use Rattle.dy_build.proofs.Halts.{build_stops, halt_completes, halt_refuses, halt_unended, halt_understood, halt_most, halt_failed, halt_line}
use Rattle.dy_build.proofs.Programs.{program_apart, program_lowered, run_completes, run_accepted}
use Rattle.dy_build.proofs.command.build.Goals as goal

-- the program of the main library is run

pub run-requires-clause-apart : goal.run-requires-clause-apart
run-requires-clause-apart g c = program_apart _ c.in-Ok.program.items c.in-Ok.ensures.accepted

pub run-requires-clause-scoped : goal.run-requires-clause-scoped
run-requires-clause-scoped g c = (program_lowered _ c.in-Ok.program.items c.in-Ok.ensures.accepted).0

pub run-requires-clause-lowered : goal.run-requires-clause-lowered
run-requires-clause-lowered g c = (program_lowered _ c.in-Ok.program.items c.in-Ok.ensures.accepted).1

pub returns-in-Ok-clause-completes : goal.returns-in-Ok-clause-completes
returns-in-Ok-clause-completes g c = λ held told.
    run_completes held c.args.fuel (option_map (λ name. name.now) c.args.main) (map string_bytes c.args.lids.now) c.in-Ok.program.items c.run.result _ (c.in-Ok.ensures.program held told) c.run.ensures.runs

pub returns-in-Ok-clause-ran : goal.returns-in-Ok-clause-ran
returns-in-Ok-clause-ran g c = λ ended.
    run_accepted c.args.fuel (option_map (λ name. name.now) c.args.main) (map string_bytes c.args.lids.now) c.in-Ok.program.items c.run.result _ c.in-Ok.ensures.accepted c.run.ensures.runs ended

pub returns-in-Ok-clause-refused : goal.returns-in-Ok-clause-refused
returns-in-Ok-clause-refused g c = λ is. no_run 2 (program_meaning (program_of c.in-Ok.program.items) c.args.fuel) c.run.result _ (omega arith) (omega arith) c.run.ensures.runs is

pub returns-in-Ok-clause-understood : goal.returns-in-Ok-clause-understood
returns-in-Ok-clause-understood g c = λ is. no_run 3 (program_meaning (program_of c.in-Ok.program.items) c.args.fuel) c.run.result _ (omega arith) (omega arith) c.run.ensures.runs is

pub returns-in-Ok-clause-failed : goal.returns-in-Ok-clause-failed
returns-in-Ok-clause-failed g c = λ is. no_run 4 (program_meaning (program_of c.in-Ok.program.items) c.args.fuel) c.run.result _ (omega arith) (omega arith) c.run.ensures.runs is

pub returns-in-Ok-clause-failed_line : goal.returns-in-Ok-clause-failed_line
returns-in-Ok-clause-failed_line g c = λ is. no_run 4 (program_meaning (program_of c.in-Ok.program.items) c.args.fuel) c.run.result _ (omega arith) (omega arith) c.run.ensures.runs is

pub returns-in-Ok-clause-status : goal.returns-in-Ok-clause-status
returns-in-Ok-clause-status g c = most_run (program_meaning (program_of c.in-Ok.program.items) c.args.fuel) c.run.result _ c.run.ensures.runs

-- there is a reason to stop

pub returns-in-Err-clause-completes : goal.returns-in-Err-clause-completes
returns-in-Err-clause-completes g c = λ held told.
    halt_completes (build c.args.fuel (option_map (λ name. name.now) c.args.main) (map string_bytes c.args.lids.now)) held c.in-Err.halt c.tell_halt.result _ _ _ (build_stops held c.args.fuel (option_map (λ name. name.now) c.args.main) (map string_bytes c.args.lids.now) c.in-Err.halt (c.in-Err.ensures.lacks held told)) c.tell_halt.ensures.tells

pub returns-in-Err-clause-ran : goal.returns-in-Err-clause-ran
returns-in-Err-clause-ran g c = λ ended. halt_unended c.in-Err.halt c.tell_halt.result _ _ c.tell_halt.ensures.tells ended

pub returns-in-Err-clause-refused : goal.returns-in-Err-clause-refused
returns-in-Err-clause-refused g c = λ is. halt_refuses _ _ c.in-Err.halt c.tell_halt.result _ _ _ c.in-Err.ensures.missed c.tell_halt.ensures.tells is

pub returns-in-Err-clause-understood : goal.returns-in-Err-clause-understood
returns-in-Err-clause-understood g c = halt_understood c.in-Err.halt c.tell_halt.result _ _ c.tell_halt.ensures.tells

pub returns-in-Err-clause-failed : goal.returns-in-Err-clause-failed
returns-in-Err-clause-failed g c = λ is. halt_failed _ _ c.in-Err.halt c.tell_halt.result _ _ c.in-Err.ensures.failed c.tell_halt.ensures.tells is

pub returns-in-Err-clause-failed_line : goal.returns-in-Err-clause-failed_line
returns-in-Err-clause-failed_line g c = λ is. halt_line _ _ c.in-Err.halt c.tell_halt.result _ _ _ c.in-Err.ensures.named c.tell_halt.ensures.tells is

pub returns-in-Err-clause-status : goal.returns-in-Err-clause-status
returns-in-Err-clause-status g c = halt_most c.in-Err.halt c.tell_halt.result _ _ c.tell_halt.ensures.tells
