use Rattle.std.proofs.lemmas.Result.{err_from_is_err_and}
use Rattle.std.proofs.Common.{map, refl}
use Rattle.dy_library_rows.specs.Libraries.{seen_form}
use Rattle.dy_verdict.proofs.Verdicts.{named_lower, forms_accepted, forms_refused}
use Rattle.dy_verdict.proofs.verdict.judge_forms.Goals as goal

pub returns-in_err-named : goal.returns-in_err-named
returns-in_err-named c =
    let p = err_from_is_err_and c.from_residual-in_err-named.result c.from_residual-in_err-named.ensures.1 in
    rw (p.1, p.2)
    (forms_refused c.args.library.now c.args.modules c.in_ok-heading.heading c.args.words.now (map seen_form c.args.forms.now) c.in_err-named.field-0.0 c.in_ok-heading.ensures c.requires.words c.in_err-named.ensures)

pub exports_of-requires : goal.exports_of-requires
exports_of-requires c =
    named_lower c.args.library.now c.args.modules c.in_ok-heading.heading c.args.words.now (map seen_form c.args.forms.now) c.in_ok-named.named c.requires.ready.lower c.in_ok-named.ensures

pub returns : goal.returns
returns c =
    forms_accepted c.args.library.now c.args.modules c.in_ok-heading.heading c.args.words.now (map seen_form c.args.forms.now) c.in_ok-named.named _ c.in_ok-heading.ensures c.requires.words c.in_ok-named.ensures
    refl c.in_ok-exports.ensures.name c.in_ok-exports.ensures.modules c.in_ok-exports.ensures.seen refl refl
