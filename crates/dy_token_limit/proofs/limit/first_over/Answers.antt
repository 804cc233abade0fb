use Rattle.std.proofs.Common.{List, Bor}
use Rattle.dy_tree.specs.declared.fragment.Fragment.{Fragment}
use Rattle.dy_tree.specs.Fragments.{seen_fragments}
use Rattle.dy_token_limit.proofs.Taking.{form_fits, form_over}
use Rattle.dy_token_limit.proofs.limit.first_over.Goals as goal

pub returns-in-None : goal.returns-in-None
returns-in-None c =
    form_over (λ (form : Bor (List Fragment)). seen_fragments form.now) c.args.forms.now c.loop-number.number c.index-forms-number.result c.args.most c.loop-number.left
    c.loop-number-test.true c.index-forms-number.is c.loop-number.invariant c.in-None.ensures

pub loop-number-preserved : goal.loop-number-preserved
loop-number-preserved c =
    form_fits (λ (form : Bor (List Fragment)). seen_fragments form.now) c.args.forms.now c.loop-number.number c.index-forms-number.result c.args.most c.loop-number.left c.in-Some.rest
    c.loop-number-test.true c.index-forms-number.is c.loop-number.invariant c.in-Some.ensures
