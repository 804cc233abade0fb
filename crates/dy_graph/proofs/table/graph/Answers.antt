use Rattle.std.proofs.Common.{sym, ap, ◌∙◌}
use Rattle.dy_tree.specs.Fragments.{seen_fragments}
use Rattle.dy_module_forms.specs.Forms.{forms_of}
use Rattle.dy_graph.proofs.Begins.{read_answer, judged_as}
use Rattle.dy_graph.proofs.table.graph.Goals as goal

pub returns : goal.returns
returns c =
    let library = c.args.library.now in
    let headers = c.args.headers.now.items in
    let used = c.args.used.now.items in
    let fragments = c.args.forms.now.items in
    let sorted = c.in_ok-sorted.sorted in
    let read = sym (ap (λ l. forms_of (seen_fragments l)) c.as_slice.ensures.value) ∙ c.in_ok-forms.ensures in
    read_answer library headers used (forms_of (seen_fragments fragments)) c.in_ok-forms.forms read sorted.libraries sorted.modules c.in_ok-sorted.ensures.libraries c.in_ok-sorted.ensures.modules c.judge.result
    (judged_as library c.as_slice-2.result.now headers sorted.libraries sorted.modules c.as_slice-3.result.now used c.judge.result c.as_slice-2.ensures.value c.as_slice-3.ensures.value c.judge.ensures)
