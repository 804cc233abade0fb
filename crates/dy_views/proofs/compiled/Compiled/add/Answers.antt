use Rattle.dy_views.proofs.Standing.{one_more_made}
use Rattle.dy_views.proofs.compiled.Compiled.add.Goals as goal

pub returns-clause-compiled : goal.returns-clause-compiled
returns-clause-compiled c =
    one_more_made c.args.self.now c.args.exports c.args.uses c.args.order c.requires.compiled c.requires.there c.requires.order c.push.new.self c.push-2.new.self c.push-3.new.self
    c.in_ok-push.ensures.ok c.in_ok-push-2.ensures.ok c.in_ok-push-3.ensures.ok c.requires.fits
