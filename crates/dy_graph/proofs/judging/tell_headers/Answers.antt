use Rattle.std.proofs.Common.{◌≡◌, ◌+◌, ◌++◌, ◌%◌, length, drop, Some, slice_get, refl, ap, ◌∙◌}
use Rattle.std.proofs.lemmas.Option.{slice_get_read}
use Rattle.dy_library_form.specs.Told.{unknown_headers}
use Rattle.dy_graph.proofs.Steps.{header_more}
use Rattle.dy_graph.proofs.judging.tell_headers.Goals as goal

pub loop-name-preserved : goal.loop-name-preserved
loop-name-preserved c =
    let own = c.args.naming.now.own in
    let headers = c.args.headers.now in
    let i = c.loop-name.name-index in
    let name = c.name-item.result in
    let old = c.loop-name.found in
    let file = c.loop-name.file in
    let at : slice_get headers i ≡ Some name = slice_get_read headers (length headers) i name refl c.loop-name-test.true c.name-item.is in
    ap (λ l. l ++ unknown_headers own ((file + 1) % 4294967296) (drop (i + 1) headers)) c.in_ok-tell_header.ensures
    ∙ header_more own old file headers i name at ∙ c.loop-name.invariant
