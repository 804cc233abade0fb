use Rattle.std.proofs.Common.{◌∙◌}
use Rattle.dy_base.specs.declared.ids.What.TheVariants.{Function}
use Rattle.dy_names.specs.Tables.{owner_in}
use Rattle.dy_library_rows.proofs.Owning.{owns_next}
use Rattle.dy_library_rows.proofs.exports.own_functions.Goals as goal

pub loop-function-preserved : goal.loop-function-preserved
loop-function-preserved c =
    c.loop-function.invariant
    ∙ owns_next (λ r. r.name) c.args.library Function c.loop-function.rows c.take_row.new.rows
    c.in_ok-row.row c.args.functions.now c.loop-function.function-index c.function-item.result
    c.bytes.result.now c.loop-function-test.true c.function-item.is c.bytes.ensures.bytes
    c.in_ok-row.ensures.row c.in_ok-row.ensures.after (owner_in c.loop-function.owners)
    (owner_in c.set.new.self) c.in_ok-set.ensures
