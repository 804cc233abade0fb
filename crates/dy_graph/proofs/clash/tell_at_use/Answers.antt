use Rattle.std.proofs.Common.{◌≡◌, ◌++◌, [], ◌∷◌, None, Some, slice_get, sym, ap, ◌∙◌}
use Rattle.std.proofs.lemmas.List.{append-nil}
use Rattle.std.proofs.lemmas.Result.{on_ok_weaker}
use Rattle.dy_base.specs.declared.kind.Kind.TheVariants.{NameClash}
use Rattle.dy_library_form.specs.Told.{found}
use Rattle.dy_graph.specs.Faults.{use_places, told_clash}
use Rattle.dy_graph.proofs.Lent.{item_some, item_none}
use Rattle.dy_graph.proofs.clash.tell_at_use.Goals as goal

pub returns-in-Some : goal.returns-in-Some
returns-in-Some c =
    let old = c.args.found.now in
    let places = c.as_slice.result.now in
    let i = c.args.number in
    let here : slice_get (use_places c.args.clauses.now) i ≡ Some c.in-Some.place.now =
    ap (λ l. slice_get l i) (sym (c.as_slice.ensures ∙ c.in_ok-places.ensures)) ∙ item_some places i c.get.result c.in-Some.place c.get.ensures.lookup c.in-Some.is in
    on_ok_weaker c.tell.result (λ is. is ∙ ap (λ n. old ++ found NameClash c.in-Some.place.now n ∷ []) c.bytes.ensures ∙ ap (λ o. old ++ told_clash o c.args.name.now) (sym here)) c.tell.ensures

pub returns : goal.returns
returns c =
    let old = c.args.found.now in
    let places = c.as_slice.result.now in
    let i = c.args.number in
    let here : slice_get (use_places c.args.clauses.now) i ≡ None =
    ap (λ l. slice_get l i) (sym (c.as_slice.ensures ∙ c.in_ok-places.ensures)) ∙ item_none places i c.get.result c.get.ensures.lookup c.in-None.is in
    sym (append-nil old) ∙ ap (λ o. old ++ told_clash o c.args.name.now) (sym here)
