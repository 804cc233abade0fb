use Rattle.std.proofs.Common.{◌∙◌}
use Rattle.dy_base.specs.declared.ids.What.TheVariants.{Function}
use Rattle.dy_built_in_exports.proofs.Listing.{lists_next}
use Rattle.dy_built_in_exports.proofs.rows.add_functions.Goals as goal

pub loop-function-preserved : goal.loop-function-preserved
loop-function-preserved c =
    c.loop-function.invariant
    ∙ lists_next (λ r. r.name) c.args.library Function c.loop-function.next c.add_row.new.row
    c.args.functions.now c.loop-function.function-index c.function-item.result c.bytes.result.now
    c.loop-function-test.true c.function-item.is c.bytes.ensures.bytes c.in_ok-add_row.ensures.row
    c.loop-function.list c.add_row.new.list c.in_ok-add_row.ensures.list
