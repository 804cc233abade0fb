use Rattle.std.proofs.Common.{Err}
use Rattle.std.proofs.lemmas.Result.{err_from_is_err_and}
use Rattle.dy_verdict.proofs.Accepted.{judged_seen, judged_lower}
use Rattle.dy_verdict.proofs.PlainForms.{judged_plain}
use Rattle.dy_verdict.proofs.Verdicts.{texts_refused, texts_read}
use Rattle.dy_verdict.proofs.verdict.read_sources.Goals as goal

pub returns-in_err-sources-clause-verdict : goal.returns-in_err-sources-clause-verdict
returns-in_err-sources-clause-verdict c =
    let p = err_from_is_err_and c.from_residual.result c.from_residual.ensures.1 in
    rw (p.1, p.2)
    (texts_refused c.args.compiled.now c.args.library.now c.args.texts.now c.in_err-sources.field-0.0 c.in_err-sources.ensures)

pub returns-in_err-sources-clause-plain : goal.returns-in_err-sources-clause-plain
returns-in_err-sources-clause-plain c =
    let p = err_from_is_err_and c.from_residual.result c.from_residual.ensures.1 in
    rw (p.1, p.2)
    (judged_plain c.args.compiled.now c.args.library.now c.args.texts.now (Err c.in_err-sources.field-0.0)
    (texts_refused c.args.compiled.now c.args.library.now c.args.texts.now c.in_err-sources.field-0.0 c.in_err-sources.ensures))

pub returns-clause-verdict : goal.returns-clause-verdict
returns-clause-verdict c = texts_read c.args.compiled.now c.args.library.now c.args.texts.now c.in_ok-sources.sources c.judge_sources.result c.in_ok-sources.ensures c.judge_sources.ensures

pub returns-clause-plain : goal.returns-clause-plain
returns-clause-plain c =
    judged_plain c.args.compiled.now c.args.library.now c.args.texts.now c.judge_sources.result
    (texts_read c.args.compiled.now c.args.library.now c.args.texts.now c.in_ok-sources.sources c.judge_sources.result c.in_ok-sources.ensures c.judge_sources.ensures)

pub returns-clause-next : goal.returns-clause-next
returns-clause-next c =
    judged_seen c.args.compiled.now c.args.library.now c.args.texts.now c.judge_sources.result
    (texts_read c.args.compiled.now c.args.library.now c.args.texts.now c.in_ok-sources.sources c.judge_sources.result c.in_ok-sources.ensures c.judge_sources.ensures)

pub returns-clause-still_lower : goal.returns-clause-still_lower
returns-clause-still_lower c =
    judged_lower c.args.compiled.now c.args.library.now c.args.texts.now c.judge_sources.result c.requires.lower
    (texts_read c.args.compiled.now c.args.library.now c.args.texts.now c.in_ok-sources.sources c.judge_sources.result c.in_ok-sources.ensures c.judge_sources.ensures)
