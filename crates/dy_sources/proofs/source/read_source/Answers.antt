use Rattle.std.proofs.Common.{◌++◌, List, ℕ, Some, take, sym, ap, ◌∙◌}
use Rattle.dy_sources.specs.Verdicts.{source_of}
use Rattle.dy_sources.proofs.Sources.{source_of-front}
use Rattle.dy_sources.proofs.source.read_source.Goals as goal

pub returns-in-Ok-Here-clause-source : goal.returns-in-Ok-Here-clause-source
returns-in-Ok-Here-clause-source g c = λ held told.
    let answers = rw told at (rw c.in-Ok-Here.field-0-is at c.in-Ok-Here.ensures.answers) in
    let (bytes, got, read) = answers in
    c.source_of.ensures.source
    ∙ ap (λ (bs : List ℕ). source_of (Some bs)) (read ∙ ap (λ (bs : List ℕ). bs ++ take 4194305 bytes) c.new-bytes.ensures.items)
    ∙ source_of-front bytes
    ∙ sym (ap source_of got)
