use Rattle.std.proofs.Common.{◌≡◌, ◌+◌, ◌++◌, [], ◌∷◌, length, map, drop, Some, slice_get, refl, ap, ◌∙◌}
use Rattle.std.proofs.lemmas.Option.{slice_get_read}
use Rattle.dy_base.specs.Folding.{folded}
use Rattle.dy_graph.specs.Judged.{promise_of}
use Rattle.dy_graph.proofs.Steps.{names_promised}
use Rattle.dy_graph.proofs.promises.promise_names.Goals as goal

pub loop-name-preserved : goal.loop-name-preserved
loop-name-preserved c =
    let m = c.args.number in
    let place = c.args.place in
    let names = c.args.names.now in
    let i = c.loop-name.name-index in
    let name = c.name-item.result in
    let old = c.loop-name.promises in
    let at : slice_get names i ≡ Some name = slice_get_read names (length names) i name refl c.loop-name-test.true c.name-item.is in
    let same : c.in_ok-fold.field-0 ≡ name = c.in_ok-fold.ensures.folded ∙ ap folded c.bytes.ensures.bytes ∙ c.bytes.ensures.folded in
    ap (λ l. l ++ map (promise_of m place) (drop (i + 1) names)) (c.in_ok-push.ensures.ok ∙ ap (λ n. old ++ promise_of m place n ∷ []) same)
    ∙ names_promised m place old names i name at ∙ c.loop-name.invariant
