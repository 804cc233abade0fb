use Rattle.std.proofs.Common.{refl, sym, ap, subst, ◌∙◌}
use Rattle.std.proofs.lemmas.Result.{on_ok_weaker}
use Rattle.dy_module_numbers.specs.Numbers.{number_of}
use Rattle.dy_graph.specs.Faults.{IsReadySource, IsReadyClause, IsUseFault, Adds}
use Rattle.dy_graph.proofs.Clauses.{adds_use, adds_export, adds_create}
use Rattle.dy_graph.proofs.judging.tell_clause.Goals as goal

pub tell_use-requires-clause-ready : goal.tell_use-requires-clause-ready
tell_use-requires-clause-ready c =
    let ms = c.args.made.modules.now in
    let done = c.args.made.tables.now in
    let naming = c.args.naming.now in
    let source = c.number_of-source.ensures ∙ ap (number_of naming.own naming.imported) c.bytes.ensures.bytes in
    subst (IsReadySource ms done c.args.number) (sym source) (subst (IsReadyClause naming.own naming.imported ms done c.args.number) c.in-Use.is c.requires.ready)

pub returns-in-Use : goal.returns-in-Use
returns-in-Use c =
    let ms = c.args.made.modules.now in
    let naming = c.args.naming.now in
    let placed = c.args.placed.now in
    let old = c.args.found.now in
    let new = c.tell_use.new.found in
    let name = c.in-Use.name in
    let options = c.in-Use.options in
    let source = c.number_of-source.ensures ∙ ap (number_of naming.own naming.imported) c.bytes.ensures.bytes in
    on_ok_weaker c.tell_use.result (λ adds. adds_use naming.own naming.imported ms c.args.number placed.place placed.clause old new name options c.in-Use.is
    (subst (λ o. Adds old new (IsUseFault ms c.args.number placed.place name options o)) source
    (subst (λ l. Adds old new (IsUseFault ms c.args.number placed.place name l c.number_of-source.result)) c.as_slice.ensures adds))) c.tell_use.ensures

pub returns-in-Export : goal.returns-in-Export
returns-in-Export c =
    let naming = c.args.naming.now in
    let placed = c.args.placed.now in
    let old = c.args.found.now in
    adds_export naming.own naming.imported c.args.made.modules.now c.args.number placed.place placed.clause old old c.in-Export.field-0 c.in-Export.is refl

pub returns-in-Create : goal.returns-in-Create
returns-in-Create c =
    let naming = c.args.naming.now in
    let placed = c.args.placed.now in
    let old = c.args.found.now in
    adds_create naming.own naming.imported c.args.made.modules.now c.args.number placed.place placed.clause old old c.in-Create.field-0 c.in-Create.is refl
