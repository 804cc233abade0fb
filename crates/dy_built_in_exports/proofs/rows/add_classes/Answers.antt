use Rattle.std.proofs.Common.{◌∙◌}
use Rattle.dy_base.specs.declared.ids.What.TheVariants.{Class}
use Rattle.dy_built_in_exports.proofs.Listing.{lists_next}
use Rattle.dy_built_in_exports.proofs.rows.add_classes.Goals as goal

pub loop-class-preserved : goal.loop-class-preserved
loop-class-preserved c =
    c.loop-class.invariant
    ∙ lists_next (λ r. r.name) c.args.library Class c.loop-class.next c.add_row.new.row
    c.args.classes.now c.loop-class.class-index c.class-item.result c.bytes.result.now
    c.loop-class-test.true c.class-item.is c.bytes.ensures.bytes c.in_ok-add_row.ensures.row
    c.loop-class.list c.add_row.new.list c.in_ok-add_row.ensures.list
