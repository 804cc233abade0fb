use Rattle.std.proofs.Common.{◌≡◌, ◌≤◌, length, Some, slice_get, refl, arith}
use Rattle.std.proofs.lemmas.Option.{slice_get_read}
use Rattle.dy_graph.proofs.Promised.{coming_start, coming_more, coming_end}
use Rattle.dy_graph.proofs.promises.promises.Goals as goal

pub loop-number-init : goal.loop-number-init
loop-number-init c =
    let naming = c.args.naming.now in
    coming_start naming.own naming.imported naming.nothing c.args.made.modules.now c.args.forms.now c.new-promises.result c.new-promises.ensures

pub loop-number-preserved : goal.loop-number-preserved
loop-number-preserved c =
    let naming = c.args.naming.now in
    let forms = c.args.forms.now in
    let i = c.loop-number.number in
    let form = c.index-forms-number.result in
    let at : slice_get forms i ≡ Some form = slice_get_read forms (length forms) i form refl c.loop-number-test.true c.index-forms-number.is in
    coming_more naming.own naming.imported naming.nothing c.args.made.modules.now forms c.loop-number.promises c.promise_form.new.promises i form at c.in_ok-promise_form.ensures c.loop-number.invariant

pub returns : goal.returns
returns c =
    let naming = c.args.naming.now in
    let forms = c.args.forms.now in
    let i = c.loop-number.number in
    let past : length forms ≤ i = omega arith in
    coming_end naming.own naming.imported naming.nothing c.args.made.modules.now forms c.loop-number.promises i past c.loop-number.invariant
