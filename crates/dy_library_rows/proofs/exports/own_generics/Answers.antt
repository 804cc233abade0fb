use Rattle.std.proofs.Common.{◌∙◌}
use Rattle.dy_base.specs.declared.ids.What.TheVariants.{Generic}
use Rattle.dy_names.specs.Tables.{owner_in}
use Rattle.dy_library_rows.proofs.Owning.{owns_next}
use Rattle.dy_library_rows.proofs.exports.own_generics.Goals as goal

pub loop-generic-preserved : goal.loop-generic-preserved
loop-generic-preserved c =
    c.loop-generic.invariant
    ∙ owns_next (λ r. r.name) c.args.library Generic c.loop-generic.rows c.take_row.new.rows
    c.in_ok-row.row c.args.generics.now c.loop-generic.generic-index c.generic-item.result
    c.bytes.result.now c.loop-generic-test.true c.generic-item.is c.bytes.ensures.bytes
    c.in_ok-row.ensures.row c.in_ok-row.ensures.after (owner_in c.loop-generic.owners)
    (owner_in c.set.new.self) c.in_ok-set.ensures
