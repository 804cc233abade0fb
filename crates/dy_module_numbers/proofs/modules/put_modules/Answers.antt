use Rattle.std.proofs.Common.{◌≡◌, ◌<◌, length, Some, slice_get, slice_set, refl, ap, ◌∙◌, arith}
use Rattle.std.proofs.lemmas.Option.{slice_get_read}
use Rattle.dy_module_numbers.proofs.Puts.{put_more, set_count}
use Rattle.dy_module_numbers.proofs.modules.put_modules.Goals as goal

pub loop-m-preserved : goal.loop-m-preserved
loop-m-preserved c =
    let naming = c.args.naming.now in
    let forms = c.args.forms.now in
    let old = c.args.modules.now.items in
    let now = c.loop-m.modules.items in
    let m = c.loop-m.m in
    let f = c.index-forms-m.result in
    let here : m < length forms = omega arith in
    let at : slice_get forms m ≡ Some f = slice_get_read forms (length forms) m f refl here c.index-forms-m.is in
    let within : m < length old = omega arith in
    record {
      put = ap (λ d. slice_set now m d) c.in_ok-modules.ensures ∙ put_more naming.own naming.imported naming.nothing forms old now m f c.loop-m.invariant.put at within;
      count = set_count now m c.in_ok-modules.field-0 ∙ c.loop-m.invariant.count;
    }
