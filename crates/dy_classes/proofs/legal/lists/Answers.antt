use Rattle.std.proofs.Common.{◌≡◌, Option, Some, List, [], sym, ap, ◌∙◌}
use Rattle.std.specs.Option.{option_copied, option_map_or}
use Rattle.dy_base.specs.declared.ids.ClassId.{ClassId}
use Rattle.dy_term.specs.declared.rows.ClassRow.{ClassRow}
use Rattle.dy_classes.specs.Rows.{row_at, order_at}
use Rattle.dy_classes.specs.Merge.{mem}
use Rattle.dy_classes.proofs.Listed.{mem_of}
use Rattle.dy_classes.proofs.legal.lists.Goals as goal

abbrev order_in : Option ClassRow → List ClassId
order_in row = option_map_or (λ row. row.order) row []

pub returns-in-Some : goal.returns-in-Some
returns-in-Some c =
    let row : Some c.in-Some.row.now ≡ row_at c.args.program.now c.args.class =
    sym (ap option_copied c.in-Some.is) ∙ c.row_of.ensures in
    mem_of c.holds.result c.args.other c.in-Some.row.now.order c.holds.ensures.0 c.holds.ensures.1
    ∙ ap (mem c.args.other) (ap order_in row)
