use Rattle.std.proofs.Common.{◌≡◌, [], ◌∷◌, List, sym, subst, ◌∙◌}
use Rattle.dy_module_forms.specs.declared.written.Form.{Form}
use Rattle.dy_graph.specs.Judged.{Given, IsJudged, Refuses}
use Rattle.dy_graph.proofs.Begins.{no_items}
use Rattle.dy_graph.proofs.table.judge.Goals as goal

pub returns-in-Some : goal.returns-in-Some
returns-in-Some c =
    let library = c.args.library.now in
    let headers = c.args.headers.now in
    let exports = c.args.exports.now in
    let split = sym c.in-Some.ensures.cases.0 ∙ c.as_slice.ensures in
    subst (λ (l : List Form). IsJudged (record { library = library; headers = headers; libraries = l; modules = c.args.sorted.modules; used = exports }) c.judge_form.result) split
    (subst (λ (l : List Form). IsJudged (record { library = library; headers = headers; libraries = c.in-Some.form.now ∷ c.in-Some.others.now; modules = l; used = exports }) c.judge_form.result) c.as_slice-in-Some.ensures c.judge_form.ensures)

pub returns : goal.returns
returns c =
    let g : Given = record { library = c.args.library.now; headers = c.args.headers.now; libraries = c.args.sorted.libraries; modules = c.args.sorted.modules; used = c.args.exports.now } in
    let none : c.args.sorted.libraries ≡ [] = sym c.as_slice.ensures ∙ no_items c.as_slice.result.now c.in-None.ensures.cases in
    subst (λ l. Refuses g l c.in_ok-missing_library-in-None.field-0) (sym none) c.in_ok-missing_library-in-None.ensures
