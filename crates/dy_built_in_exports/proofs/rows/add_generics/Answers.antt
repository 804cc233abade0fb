use Rattle.std.proofs.Common.{◌∙◌}
use Rattle.dy_base.specs.declared.ids.What.TheVariants.{Generic}
use Rattle.dy_built_in_exports.proofs.Listing.{lists_next}
use Rattle.dy_built_in_exports.proofs.rows.add_generics.Goals as goal

pub loop-generic-preserved : goal.loop-generic-preserved
loop-generic-preserved c =
    c.loop-generic.invariant
    ∙ lists_next (λ r. r.name) c.args.library Generic c.loop-generic.next c.add_row.new.row
    c.args.generics.now c.loop-generic.generic-index c.generic-item.result c.bytes.result.now
    c.loop-generic-test.true c.generic-item.is c.bytes.ensures.bytes c.in_ok-add_row.ensures.row
    c.loop-generic.list c.add_row.new.list c.in_ok-add_row.ensures.list
