use Rattle.std.proofs.Common.{◌≡◌, ◌++◌, true, map, slice_get, sym, ap, subst, ◌∙◌}
use Rattle.std.proofs.lemmas.Result.{on_ok_weaker}
use Rattle.dy_modules.specs.Order.{is_made}
use Rattle.dy_module_numbers.specs.Options.{use_clause, exported}
use Rattle.dy_module_numbers.specs.Modules.{source_of}
use Rattle.dy_graph.specs.Judged.{promise_of, AreAgain, Promises}
use Rattle.dy_graph.proofs.Promised.{by_export, by_create, by_use}
use Rattle.dy_graph.proofs.promises.promise_clause.Goals as goal

pub returns-in-Export : goal.returns-in-Export
returns-in-Export c =
    let naming = c.args.naming.now in
    let placed = c.args.placed.now in
    let old = c.args.promises.now in
    on_ok_weaker c.promise_names.result (λ is. by_export naming.own naming.imported naming.nothing c.args.made.modules.now c.args.number placed.place placed.clause old c.promise_names.new.promises c.in-Export.names c.in-Export.is
    (is ∙ ap (λ l. old ++ map (promise_of c.args.number placed.place) l) c.as_slice.ensures)) c.promise_names.ensures

pub returns-in-Create : goal.returns-in-Create
returns-in-Create c =
    let naming = c.args.naming.now in
    let placed = c.args.placed.now in
    let old = c.args.promises.now in
    on_ok_weaker c.promise_names-in-Create.result (λ is. by_create naming.own naming.imported naming.nothing c.args.made.modules.now c.args.number placed.place placed.clause old c.promise_names-in-Create.new.promises c.in-Create.names c.in-Create.is
    (is ∙ ap (λ l. old ++ map (promise_of c.args.number placed.place) l) c.as_slice-in-Create.ensures)) c.promise_names-in-Create.ensures

pub promise_again-requires-clause-ready : goal.promise_again-requires-clause-ready
promise_again-requires-clause-ready c =
    let naming = c.args.naming.now in
    let done = c.args.made.tables.now in
    let source = c.source_of-source.ensures ∙ ap (source_of naming.own naming.imported naming.nothing) c.bytes.ensures.bytes in
    subst (λ s. is_made (slice_get done s) ≡ true) (sym source) (c.requires.ready c.in-Use.name)

pub returns-in-Use : goal.returns-in-Use
returns-in-Use c =
    let naming = c.args.naming.now in
    let placed = c.args.placed.now in
    let ms = c.args.made.modules.now in
    let m = c.args.number in
    let old = c.args.promises.now in
    let new = c.promise_again.new.promises in
    let options = c.in-Use.options in
    let source = c.source_of-source.ensures ∙ ap (source_of naming.own naming.imported naming.nothing) c.bytes.ensures.bytes in
    on_ok_weaker c.promise_again.result (λ p. by_use naming.own naming.imported naming.nothing ms m placed.place placed.clause old new c.in-Use.name options c.source_of-source.result c.in-Use.is source
    (subst (λ l. Promises m placed.place old new (AreAgain ms (use_clause c.source_of-source.result l) (exported l))) c.as_slice-in-Use.ensures p)) c.promise_again.ensures
