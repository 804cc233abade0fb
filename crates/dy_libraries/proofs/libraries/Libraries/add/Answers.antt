use Rattle.dy_libraries.proofs.Growing.{one_more}
use Rattle.dy_libraries.proofs.libraries.Libraries.add.Goals as goal

pub returns-clause-libraries : goal.returns-clause-libraries
returns-clause-libraries c =
    rw (c.in_ok-add.ensures.added, c.in_ok-push.ensures.ok)
    (one_more c.args.self.now c.args.row c.args.exports c.args.uses c.args.order c.requires.libraries c.requires.fits c.requires.next)
