use Rattle.std.proofs.Common.{◌∙◌}
use Rattle.dy_doubled.proofs.Names.{imports_next}
use Rattle.dy_doubled.proofs.imported.imported.Goals as goal

pub loop-placed-preserved : goal.loop-placed-preserved
loop-placed-preserved c =
    c.loop-placed.invariant
    ∙ imports_next c.args.used.now c.loop-placed.set c.args.clauses.now c.loop-placed.placed-index
    c.placed-item.result c.loop-placed-test.true c.placed-item.is c.add_clause.new.set
    c.in_ok-add_clause.ensures
