use Rattle.std.proofs.Common.{map, string_bytes}
use Rattle.dy_build.specs.Words.{check}
use Rattle.dy_build.proofs.Halts.{check_stops, halt_completes, halt_refuses, halt_unended, halt_understood, halt_most, halt_failed, halt_line}
use Rattle.dy_build.proofs.Programs.{check_completes, check_accepted}
use Rattle.dy_build.proofs.command.check_lids.Goals as goal

pub returns-in-Ok-clause-completes : goal.returns-in-Ok-clause-completes
returns-in-Ok-clause-completes g c = λ out held told. check_completes held (map string_bytes c.args.lids.now) out _ (c.in-Ok.ensures.verdict held told)

pub returns-in-Ok-clause-ran : goal.returns-in-Ok-clause-ran
returns-in-Ok-clause-ran g c = λ out ended. check_accepted (map string_bytes c.args.lids.now) out _

-- there is a reason to stop

pub returns-in-Err-clause-completes : goal.returns-in-Err-clause-completes
returns-in-Err-clause-completes g c = λ out held told.
    halt_completes (check (map string_bytes c.args.lids.now)) held c.in-Err.halt c.tell_halt.result out _ _ (check_stops held (map string_bytes c.args.lids.now) c.in-Err.halt (c.in-Err.ensures.verdict held told)) c.tell_halt.ensures.tells

pub returns-in-Err-clause-ran : goal.returns-in-Err-clause-ran
returns-in-Err-clause-ran g c = λ out ended. halt_unended c.in-Err.halt c.tell_halt.result _ _ c.tell_halt.ensures.tells ended

pub returns-in-Err-clause-refused : goal.returns-in-Err-clause-refused
returns-in-Err-clause-refused g c = λ out is. halt_refuses _ _ c.in-Err.halt c.tell_halt.result out _ _ c.in-Err.ensures.missed c.tell_halt.ensures.tells is

pub returns-in-Err-clause-understood : goal.returns-in-Err-clause-understood
returns-in-Err-clause-understood g c = halt_understood c.in-Err.halt c.tell_halt.result _ _ c.tell_halt.ensures.tells

pub returns-in-Err-clause-failed : goal.returns-in-Err-clause-failed
returns-in-Err-clause-failed g c = λ is. halt_failed _ _ c.in-Err.halt c.tell_halt.result _ _ c.in-Err.ensures.failed c.tell_halt.ensures.tells is

pub returns-in-Err-clause-failed_line : goal.returns-in-Err-clause-failed_line
returns-in-Err-clause-failed_line g c = λ out is. halt_line _ _ c.in-Err.halt c.tell_halt.result out _ _ c.in-Err.ensures.named c.tell_halt.ensures.tells is

pub returns-in-Err-clause-status : goal.returns-in-Err-clause-status
returns-in-Err-clause-status g c = halt_most c.in-Err.halt c.tell_halt.result _ _ c.tell_halt.ensures.tells
