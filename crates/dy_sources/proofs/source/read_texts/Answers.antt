use Rattle.std.proofs.Common.{ap, ◌∙◌}
use Rattle.std.proofs.lemmas.Result.{err_from_is_err_and}
use Rattle.dy_sources.specs.Layout.{source_name}
use Rattle.dy_sources.proofs.Reading.{err_read}
use Rattle.dy_sources.proofs.source.read_texts.Goals as goal

pub returns-in_err-read_text-clause-read : goal.returns-in_err-read_text-clause-read
returns-in_err-read_text-clause-read g c = λ held told.
    let p = err_from_is_err_and c.from_residual-in_err-read_text.result c.from_residual-in_err-read_text.ensures.1 in
    let name = c.as_str.ensures.value ∙ (c.in_ok-name.ensures ∙ ap (source_name c.args.lid.now) c.bytes.ensures) in
    rw (p.1, p.2) (err_read held c.args.lid.now c.args.library.now c.args.names.now c.loop-file.texts c.loop-file.file-index c.file-item.result c.as_str.result.now c.in_err-read_text.field-0.0
    c.loop-file-test.true c.file-item.is (c.loop-file.invariant.read held told) name (c.in_err-read_text.ensures.read held (c.loop-file.invariant.contents ∙ told)))
