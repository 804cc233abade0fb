use Rattle.dy_modules.proofs.TwoOwners.{clashes}
use Rattle.dy_modules.proofs.clash.first_clash.Goals as goal

pub returns : goal.returns
returns c = λ ms right ready. clashes ms c.args.done.now right c.args.uses.now c.in_ok-found.found ready c.in_ok-found.ensures
