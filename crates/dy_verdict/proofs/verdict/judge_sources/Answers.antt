use Rattle.std.proofs.lemmas.Result.{err_from_is_err_and}
use Rattle.dy_verdict.proofs.Ready.{modules_ready}
use Rattle.dy_verdict.proofs.Verdicts.{sources_refused, sources_read}
use Rattle.dy_verdict.proofs.verdict.judge_sources.Goals as goal

pub returns-in_err-modules : goal.returns-in_err-modules
returns-in_err-modules c =
    let p = err_from_is_err_and c.from_residual-in_err-modules.result c.from_residual-in_err-modules.ensures.1 in
    rw (p.1, p.2)
    (sources_refused c.args.compiled.now c.args.library.now c.in_ok-words.words c.args.sources c.as_slice.result.now c.in_err-modules.field-0.0 c.in_ok-words.ensures c.as_slice.ensures c.in_err-modules.ensures)

pub judge_groups-requires-clause-ready : goal.judge_groups-requires-clause-ready
judge_groups-requires-clause-ready c =
    modules_ready c.in_ok-words.words c.args.library.now c.as_slice.result.now c.args.compiled.now c.in_ok-modules.modules c.requires.compiled c.requires.lower c.in_ok-modules.ensures

pub returns : goal.returns
returns c =
    sources_read c.args.compiled.now c.args.library.now c.in_ok-words.words c.args.sources c.as_slice.result.now c.in_ok-modules.modules c.judge_groups.result c.in_ok-words.ensures c.as_slice.ensures c.in_ok-modules.ensures c.judge_groups.ensures
