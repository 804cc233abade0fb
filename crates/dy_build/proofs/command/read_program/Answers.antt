use Rattle.std.proofs.Common.{map, option_map, string_bytes}
use Rattle.dy_libraries.specs.Commands.{built_in}
use Rattle.dy_sources.specs.Libraries.{AreRead}
use Rattle.std.proofs.lemmas.Result.{err_from_is_err_and}
use Rattle.dy_build.proofs.Halts.{unread_lacks, main_lacks}
use Rattle.dy_build.proofs.command.read_program.Goals as goal

pub returns-in_err-libraries-clause-lacks : goal.returns-in_err-libraries-clause-lacks
returns-in_err-libraries-clause-lacks g c = λ held told.
    let p = err_from_is_err_and c.from_residual.result c.from_residual.ensures.1 in
    rw (p.1, p.2) (unread_lacks (AreRead held built_in (map string_bytes c.args.lids.now)) (option_map (λ name. name.now) c.args.main) c.in_err-libraries.field-0.0 (c.in_err-libraries.ensures.verdict held told))

pub returns-in_err-number-clause-lacks : goal.returns-in_err-number-clause-lacks
returns-in_err-number-clause-lacks g c = λ held told.
    let p = err_from_is_err_and c.from_residual-in_err-number.result c.from_residual-in_err-number.ensures.1 in
    rw (p.1, p.2) (main_lacks (AreRead held built_in (map string_bytes c.args.lids.now)) c.in_ok-libraries.libraries (option_map (λ name. name.now) c.args.main) c.in_err-number.field-0.0 (c.in_ok-libraries.ensures.verdict held told) c.in_err-number.ensures.main)
