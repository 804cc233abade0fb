use Rattle.std.proofs.Common.{◌≡◌, ◌≤◌, ◌∙◌, false, sym, ap, length, slice_get, Some, None, refl, arith}
use Rattle.std.proofs.lemmas.Option.{slice_get_read}
use Rattle.dy_modules.specs.declared.table.Cell.TheVariants.{Many}
use Rattle.dy_modules.specs.Clauses.{Name}
use Rattle.dy_modules.specs.Cells.{at, after_uses}
use Rattle.dy_modules.specs.Order.{all_rows}
use Rattle.dy_modules.proofs.Rows.{none_is, at_none, take_end}
use Rattle.dy_modules.proofs.TwoOwners.{says_more}
use Rattle.dy_modules.proofs.clash.find_clash.Goals as goal

pub returns-then-has_many : goal.returns-then-has_many
returns-then-has_many c =
    let us = c.args.uses.now in
    let ts = all_rows c.args.done.now in
    let i = c.loop-i.i in
    let u = c.index-uses-i.result in
    let place : slice_get us i ≡ Some u = slice_get_read us (length us) i u refl c.loop-i-test.true c.index-uses-i.is in
    let more = says_more ts us i u (at c.loop-i.table) (at c.bring_from.new.into) place c.loop-i.invariant.table c.in_ok-bring_from.ensures in
    let many = c.has_many.ensures.yes c.if-has_many.true in
    ((many.0, sym (more many.0) ∙ many.1), λ n e. c.loop-i.invariant.clear n (c.loop-i.invariant.table n ∙ e))

pub loop-i-preserved : goal.loop-i-preserved
loop-i-preserved c =
    let us = c.args.uses.now in
    let ts = all_rows c.args.done.now in
    let i = c.loop-i.i in
    let u = c.index-uses-i.result in
    let place : slice_get us i ≡ Some u = slice_get_read us (length us) i u refl c.loop-i-test.true c.index-uses-i.is in
    let more = says_more ts us i u (at c.loop-i.table) (at c.bring_from.new.into) place c.loop-i.invariant.table c.in_ok-bring_from.ensures in
    record { table = more; clear = c.has_many.ensures.never c.if-has_many.false }

pub loop-i-init : goal.loop-i-init
loop-i-init c =
    let nothing : (n : Name) → at c.new-table.result n ≡ None = λ n. ap (λ t. at t n) c.new-table.ensures ∙ at_none n in
    record { table = nothing; clear = λ n e. none_is Many (sym (nothing n) ∙ e) }

pub returns : goal.returns
returns c = λ n e.
    let us = c.args.uses.now in
    let ts = all_rows c.args.done.now in
    let past : length us ≤ c.loop-i.i = omega arith in
    c.loop-i.invariant.clear n (c.loop-i.invariant.table n ∙ ap (λ l. after_uses false l ts n None) (take_end us c.loop-i.i past) ∙ e)
