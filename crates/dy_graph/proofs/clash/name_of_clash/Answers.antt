use Rattle.std.proofs.Common.{◌≡◌, ◌+◌, ◌≤◌, false, length, drop, map, slice_get, Some, refl, sym, ap, subst, ◌∙◌, arith}
use Rattle.std.proofs.lemmas.Option.{slice_get_read}
use Rattle.std.specs.FinMap as finite
use Rattle.dy_base.specs.Tables.{table_of}
use Rattle.dy_modules.specs.Cells.{at, after_uses}
use Rattle.dy_modules.specs.Order.{all_rows}
use Rattle.dy_modules.proofs.Rows.{at_none, drop_end}
use Rattle.dy_library_form.specs.Told.{first_of_two}
use Rattle.dy_graph.specs.Faults.{LeastTwo}
use Rattle.dy_graph.proofs.Rising.{least_at}
use Rattle.dy_graph.proofs.Steps.{uses_more}
use Rattle.dy_graph.proofs.TwoNames.{least_of}
use Rattle.dy_graph.proofs.clash.name_of_clash.Goals as goal

pub loop-u-init : goal.loop-u-init
loop-u-init c = λ n.
    let us = c.args.uses.now in
    let ts = all_rows c.args.tables.now in
    ap (after_uses false us ts n) (ap (λ t. at t n) c.new-table.ensures ∙ at_none n)

pub loop-u-preserved : goal.loop-u-preserved
loop-u-preserved c = λ n.
    let us = c.args.uses.now in
    let ts = all_rows c.args.tables.now in
    let i = c.loop-u.u-index in
    let u = c.u-item.result in
    let place : slice_get us i ≡ Some u = slice_get_read us (length us) i u refl c.loop-u-test.true c.u-item.is in
    ap (after_uses false (drop (i + 1) us) ts n) (c.in_ok-bring_from.ensures n) ∙ uses_more us ts n i u (at c.loop-u.table n) place ∙ c.loop-u.invariant n

pub returns : goal.returns
returns c =
    let us = c.args.uses.now in
    let ts = all_rows c.args.tables.now in
    let t = c.loop-u.table in
    let past : length us ≤ c.loop-u.u-index = omega arith in
    subst (LeastTwo ts us) (sym c.in_ok-name.ensures)
    (least_of t us ts (λ n. sym (ap (λ l. after_uses false l ts n (at t n)) (drop_end us c.loop-u.u-index past)) ∙ c.loop-u.invariant n) (first_of_two (map Some (finite.entries (table_of t)))) (least_at t))
