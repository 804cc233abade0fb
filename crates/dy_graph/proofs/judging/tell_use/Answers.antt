use Rattle.std.proofs.Common.{◌≡◌, ◌++◌, [], ◌∷◌, true, false, slice_get, refl, sym, ap, ◌∙◌}
use Rattle.std.proofs.lemmas.Result.{on_ok_weaker}
use Rattle.dy_base.specs.declared.kind.Kind.TheVariants.{UnknownModule}
use Rattle.dy_modules.specs.Order.{is_made}
use Rattle.dy_library_form.specs.Told.{found}
use Rattle.dy_graph.proofs.Clauses.{adds_unknown, adds_missing, adds_stuck, ready_source_of}
use Rattle.dy_graph.proofs.judging.tell_use.Goals as goal

pub tell_options-requires-clause-ready : goal.tell_options-requires-clause-ready
tell_options-requires-clause-ready c =
    let ms = c.args.made.modules.now in
    let done = c.args.made.tables.now in
    let old = c.args.found.now in
    let here : is_made (slice_get done c.args.number) ≡ true = sym c.is_made.ensures ∙ c.if-is_made.true in
    ready_source_of ms c.args.number c.args.place c.args.name.now c.args.options.now old old done c.requires.made c.args.source c.in-Some.source c.in-Some.is c.requires.ready here

pub returns-then-is_made : goal.returns-then-is_made
returns-then-is_made c =
    let ms = c.args.made.modules.now in
    let done = c.args.made.tables.now in
    let here : is_made (slice_get done c.args.number) ≡ true = sym c.is_made.ensures ∙ c.if-is_made.true in
    on_ok_weaker c.tell_options.result (adds_missing ms c.args.number c.args.place c.args.name.now c.args.options.now c.args.found.now c.tell_options.new.found done c.requires.made c.args.source c.in-Some.source c.in-Some.is here) c.tell_options.ensures

pub returns-else-is_made : goal.returns-else-is_made
returns-else-is_made c =
    let ms = c.args.made.modules.now in
    let done = c.args.made.tables.now in
    let old = c.args.found.now in
    let never : is_made (slice_get done c.args.number) ≡ false = sym c.is_made.ensures ∙ c.if-is_made.false in
    adds_stuck ms c.args.number c.args.place c.args.name.now c.args.options.now old old done c.requires.made c.args.source c.in-Some.source c.in-Some.is never refl

pub returns-in-None : goal.returns-in-None
returns-in-None c =
    let ms = c.args.made.modules.now in
    let old = c.args.found.now in
    on_ok_weaker c.tell.result (λ is. adds_unknown ms c.args.number c.args.place c.args.name.now c.args.options.now old c.tell.new.list c.args.source c.in-None.is (is ∙ ap (λ n. old ++ found UnknownModule c.args.place n ∷ []) c.bytes.ensures.bytes)) c.tell.ensures
