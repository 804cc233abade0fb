use Rattle.std.proofs.lemmas.Result.{IfOk-weaker}
use Rattle.dy_libraries.proofs.Picking.{all_at}
use Rattle.dy_libraries.proofs.program.all_libraries.Goals as goal

pub returns : goal.returns
returns c =
    IfOk-weaker c.joined.result _ _
    (λ all is. all_at c.args.libraries c.in_ok-others.others.items all.items c.requires c.in_ok-others.ensures.count c.in_ok-others.ensures.others is)
    c.joined.ensures
