use Rattle.std.proofs.Common.{Err, subst, ◌∙◌}
use Rattle.dy_base.specs.declared.fault.Refusal.{Refusal}
use Rattle.dy_fragment.specs.Answers.{IsGrouping}
use Rattle.dy_complete_forms.proofs.Verdicts.{forms_before}
use Rattle.dy_complete_forms.proofs.complete.front_of.Goals as goal

pub returns-in-Err-Fault : goal.returns-in-Err-Fault
returns-in-Err-Fault c =
    let words = c.args.words.now in
    let copies = c.from_vec-copies.result in
    let told = subst (λ (r : Refusal). IsGrouping words copies (Err r)) c.in-Err-Fault.field-0-is c.in-Err-Fault.ensures.grouping in
    forms_before words c.args.tokens.now copies c.in-Err-Fault.fault c.end_before.result (c.from_vec-copies.ensures ∙ c.in_ok-copy_all.ensures) told c.end_before.ensures.ended
    c.end_before.ensures.last
