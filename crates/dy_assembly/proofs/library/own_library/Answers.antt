use Rattle.std.proofs.Common.{Err, ap, ◌∙◌}
use Rattle.std.proofs.lemmas.Result.{err_from_is_err_and}
use Rattle.dy_base.specs.declared.fault.Refusal.{Refusal}
use Rattle.dy_names.specs.Tables.{owner_in}
use Rattle.dy_assembly.proofs.Assembling.{assembled, refused}
use Rattle.dy_assembly.proofs.library.own_library.Goals as goal

pub returns-in_err-rows : goal.returns-in_err-rows
returns-in_err-rows c =
    let told =
    err_from_is_err_and c.from_residual-in_err-rows.result
    c.from_residual-in_err-rows.ensures.1 in
    refused c.args.name.now c.args.forms.now (owner_in c.in_ok-names.names.owners)
    c.in_err-rows.field-0.0 c.from_residual-in_err-rows.result
    c.in_ok-names.ensures
    c.in_err-rows.ensures
    (told.1 ∙ ap (λ (refusal : Refusal). Err refusal) told.2)

pub returns : goal.returns
returns c =
    assembled c.args.name.now c.args.forms.now (owner_in c.in_ok-names.names.owners)
    c.in_ok-rows.rows c.in_ok-assemble_own.field-0
    c.in_ok-names.ensures
    c.in_ok-rows.ensures
    c.in_ok-assemble_own.ensures
