use Rattle.std.proofs.Common.{◌⊎◌, ◌++◌, List}
use Rattle.std.proofs.lemmas.Result.{on_ok_weaker}
use Rattle.dy_modules.specs.Clauses.{IsIn}
use Rattle.dy_library_form.specs.declared.found.Found.{Found}
use Rattle.dy_library_form.specs.Library.{unknown_exports}
use Rattle.dy_library_form.specs.Told.{misnamed, doubled, unknown_headers}
use Rattle.dy_graph.specs.Faults.{IsRingFault, AreModuleFaults}
use Rattle.dy_graph.proofs.Added.{adds_list, adds_both}
use Rattle.dy_graph.proofs.table.tell_others.Goals as goal

pub returns-clause-adds : goal.returns-clause-adds
returns-clause-adds c =
    let library = c.args.library.now in
    let headers = c.args.headers.now in
    let own = c.args.naming.now.own in
    let imported = c.args.naming.now.imported in
    let ms = c.args.made.modules.now in
    let form = c.args.form.now in
    let others = c.args.others.now in
    let forms = c.args.forms.now in
    let start = c.args.found.now in
    let a = c.tell_forms.new.found in
    let b = c.tell_unknown_exports.new.found in
    let d = c.tell_headers.new.found in
    let e = c.tell_ring.new.found in
    let last = c.tell_modules.new.found in
    let In = λ (list : List Found) (f : Found). IsIn f list in
    let first = misnamed library form ++ doubled others in
    let second = unknown_exports own imported form.clauses in
    let third = unknown_headers own 0 headers in
    let Ring = IsRingFault ms forms in
    let Rest = AreModuleFaults own imported ms forms in
    on_ok_weaker c.tell_modules.result (λ rest.
    adds_both start a last (In first) (λ f. In second f ⊎ In third f ⊎ Ring f ⊎ Rest f) (adds_list start a first c.in_ok-tell_forms.ensures)
    (adds_both a b last (In second) (λ f. In third f ⊎ Ring f ⊎ Rest f) (adds_list a b second c.in_ok-tell_unknown_exports.ensures)
    (adds_both b d last (In third) (λ f. Ring f ⊎ Rest f) (adds_list b d third c.in_ok-tell_headers.ensures)
    (adds_both d e last Ring Rest c.in_ok-tell_ring.ensures rest)))) c.tell_modules.ensures.adds
