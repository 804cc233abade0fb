use Rattle.std.proofs.Common.{List, Err, subst}
use Rattle.std.proofs.lemmas.Result.{err_from_is_err_and}
use Rattle.dy_base.specs.declared.fault.Refusal.{Refusal}
use Rattle.dy_tree.specs.declared.fragment.Fragment.{Fragment}
use Rattle.dy_tree.specs.Fragments.{seen_fragments}
use Rattle.dy_fragment.specs.Answers.{IsGrouping}
use Rattle.dy_module_forms.specs.Forms.{forms_of, Answers}
use Rattle.dy_library_modules.proofs.FirstTold.{form_told}
use Rattle.dy_library_modules.proofs.user_files.group_file.Goals as goal

pub returns-in_err-read_forms-in-Err-Fault : goal.returns-in_err-read_forms-in-Err-Fault
returns-in_err-read_forms-in-Err-Fault c =
    let words = c.args.words.now in
    let file = c.args.file.now in
    let complete = c.in_ok-complete-in-Err-Fault.complete in
    let refusal = c.in_err-read_forms-in-Err-Fault.field-0.0 in
    let told = subst (λ (r : Refusal). IsGrouping words file.tokens (Err r)) c.in-Err-Fault.field-0-is c.in-Err-Fault.ensures.grouping in
    let read = subst (λ (l : List Fragment). Answers (forms_of (seen_fragments l)) (Err refusal)) c.as_slice-in-Err-Fault.ensures c.in_err-read_forms-in-Err-Fault.ensures in
    let p = err_from_is_err_and c.from_residual-in_err-read_forms-in-Err-Fault.result c.from_residual-in_err-read_forms-in-Err-Fault.ensures.1 in
    rw (p.1, p.2) (form_told words file c.in-Err-Fault.fault told (seen_fragments complete) c.in_ok-complete-in-Err-Fault.ensures refusal read)
