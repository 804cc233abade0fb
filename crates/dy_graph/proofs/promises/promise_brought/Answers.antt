use Rattle.std.proofs.lemmas.Result.{on_ok_weaker}
use Rattle.dy_graph.proofs.Lent.{made_none, made_nothing, tables_at}
use Rattle.dy_graph.proofs.Promised.{again_brought}
use Rattle.dy_graph.proofs.promises.promise_brought.Goals as goal

pub returns-in_ok-u-in-Some-Some : goal.returns-in_ok-u-in-Some-Some
returns-in_ok-u-in-Some-Some c =
    let ms = c.args.made.modules.now in
    let done = c.args.made.tables.now in
    let source = c.args.source in
    let t = c.in-Some-Some.tables in
    let at = tables_at done source c.get.result c.in-Some-Some.field-0 t c.get.ensures.lookup c.in-Some-Some.is c.in-Some-Some.field-0-is in
    on_ok_weaker c.promise_all.result (again_brought ms c.args.number c.args.place c.args.promises.now c.promise_all.new.promises done c.requires.made source c.args.options.now t at c.in_ok-u-in-Some-Some.u c.in_ok-u-in-Some-Some.ensures) c.promise_all.ensures

pub returns-in-Some-None : goal.returns-in-Some-None
returns-in-Some-None c =
    let done = c.args.made.tables.now in
    absurd (made_nothing done c.args.source c.requires.ready c.get.result c.in-Some-None.field-0 c.get.ensures.lookup c.in-Some-None.is c.in-Some-None.field-0-is)

pub returns-in-None : goal.returns-in-None
returns-in-None c =
    let done = c.args.made.tables.now in
    absurd (made_none done c.args.source c.requires.ready c.get.result c.get.ensures.lookup c.in-None.is)
