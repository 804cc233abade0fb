use Rattle.std.proofs.Common.{map, ap, ◌∙◌}
use Rattle.dy_library_rows.specs.Libraries.{seen_form}
use Rattle.std.proofs.lemmas.Result.{err_from_is_err_and}
use Rattle.dy_verdict.proofs.Verdicts.{trees_long, trees_refused, trees_read}
use Rattle.dy_verdict.proofs.verdict.judge_trees.Goals as goal

pub returns-in_err-check_tokens : goal.returns-in_err-check_tokens
returns-in_err-check_tokens c =
    let p = err_from_is_err_and c.from_residual-in_err-check_tokens.result c.from_residual-in_err-check_tokens.ensures.1 in
    rw (p.1, p.2)
    (trees_long c.args.library.now c.args.modules c.args.trees.items c.in_ok-pieces.pieces.items c.deref.result.now c.in_err-check_tokens.field-0.0 c.in_ok-pieces.ensures c.deref.ensures.value c.in_err-check_tokens.ensures)

pub returns-in_err-forms : goal.returns-in_err-forms
returns-in_err-forms c =
    let p = err_from_is_err_and c.from_residual-in_err-forms.result c.from_residual-in_err-forms.ensures.1 in
    rw (p.1, p.2)
    (trees_refused c.args.library.now c.args.modules c.args.trees.items c.in_ok-pieces.pieces.items c.deref.result.now c.in_err-forms.field-0.0 c.in_ok-pieces.ensures c.deref.ensures.value c.in_ok-check_tokens.ensures c.in_err-forms.ensures)

pub returns : goal.returns
returns c =
    trees_read c.args.library.now c.args.modules c.args.trees.items c.in_ok-pieces.pieces.items c.deref.result.now c.deref-2.result.now c.judge_forms.result c.in_ok-pieces.ensures c.deref.ensures.value c.in_ok-check_tokens.ensures
    c.in_ok-forms.ensures.0 (ap (map seen_form) c.deref-2.ensures.value ∙ c.in_ok-forms.ensures.1) c.judge_forms.ensures
