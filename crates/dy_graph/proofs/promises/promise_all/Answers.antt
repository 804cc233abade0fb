use Rattle.std.proofs.Common.{◌++◌, Some, map, ap, ◌∙◌}
use Rattle.std.proofs.lemmas.Result.{on_ok_weaker}
use Rattle.std.specs.FinMap as finite
use Rattle.dy_base.specs.Tables.{table_of}
use Rattle.dy_graph.specs.Judged.{promises_of_rows}
use Rattle.dy_graph.proofs.promises.promise_all.Goals as goal

pub returns : goal.returns
returns c =
    let old = c.args.promises.now in
    on_ok_weaker c.promise_rows.result (λ is. is ∙ ap (λ l. old ++ promises_of_rows c.args.number c.args.place (map Some (finite.entries (table_of l)))) c.in_ok-list.ensures) c.promise_rows.ensures
