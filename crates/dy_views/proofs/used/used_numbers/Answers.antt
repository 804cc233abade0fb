use Rattle.std.proofs.Common.{◌∙◌}
use Rattle.dy_views.proofs.Naming.{numbers_next}
use Rattle.dy_views.proofs.used.used_numbers.Goals as goal

pub loop-placed-preserved : goal.loop-placed-preserved
loop-placed-preserved c =
    c.loop-placed.invariant
    ∙ numbers_next c.args.compiled.now c.loop-placed.numbers c.args.clauses.now c.loop-placed.placed-index
    c.placed-item.result c.loop-placed-test.true c.placed-item.is c.add_used.new.numbers
    c.in_ok-add_used.ensures
