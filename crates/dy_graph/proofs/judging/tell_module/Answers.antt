use Rattle.std.proofs.lemmas.Result.{on_ok_weaker}
use Rattle.dy_graph.specs.Faults.{AreClauseFaults, IsOwnClash}
use Rattle.dy_graph.proofs.Added.{adds_both}
use Rattle.dy_graph.proofs.judging.tell_module.Goals as goal

pub returns-clause-adds : goal.returns-clause-adds
returns-clause-adds c =
    let ms = c.args.made.modules.now in
    let naming = c.args.naming.now in
    let m = c.args.number in
    let form = c.args.form.now in
    on_ok_weaker c.tell_clash.result
    (adds_both c.args.found.now c.tell_clauses.new.found c.tell_clash.new.found (AreClauseFaults naming.own naming.imported ms m form.clauses) (IsOwnClash ms m form) c.in_ok-tell_clauses.ensures) c.tell_clash.ensures.adds
