use Rattle.std.proofs.Common.{subst}
use Rattle.dy_modules.specs.Clash.{Clashes}
use Rattle.dy_graph.proofs.clash.clash_of.Goals as goal

pub clash_at-requires-clause-clashes : goal.clash_at-requires-clause-clashes
clash_at-requires-clause-clashes c =
    let ms = c.args.made.modules.now in
    subst (Clashes ms c.args.uses.now) c.in-Some.is (c.in_ok-first.ensures ms c.requires.made.right c.requires.ready)

pub returns-in-None : goal.returns-in-None
returns-in-None c =
    let ms = c.args.made.modules.now in
    subst (Clashes ms c.args.uses.now) c.in-None.is (c.in_ok-first.ensures ms c.requires.made.right c.requires.ready)
