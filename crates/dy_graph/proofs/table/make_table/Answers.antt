use Rattle.std.proofs.Common.{List, [], length, sym, ap, subst, ◌∙◌}
use Rattle.dy_module_forms.specs.declared.written.Form.{Form}
use Rattle.dy_module_tables.specs.Graphs.{Graph}
use Rattle.dy_library_form.specs.Library.{shown_modules}
use Rattle.dy_graph.specs.Faults.{AreMade}
use Rattle.dy_graph.specs.Judged.{AreReady, AreAllPromises}
use Rattle.dy_graph.proofs.Begins.{makes_table}
use Rattle.dy_graph.proofs.table.make_table.Goals as goal

pub promises-requires-clause-made : goal.promises-requires-clause-made
promises-requires-clause-made c =
    subst (λ ms. AreMade ms c.deref.result.now) (sym c.as_slice.ensures) (subst (AreMade c.args.begun.modules) (sym c.deref.ensures.value) c.requires.made)

pub promises-requires-clause-ready : goal.promises-requires-clause-ready
promises-requires-clause-ready c =
    let naming = c.args.begun.naming in
    subst (AreReady naming.own naming.imported naming.nothing) (sym c.deref.ensures.value) c.requires.ready

pub returns : goal.returns
returns c = λ g e f told is.
    let b = c.args.begun in
    let form = c.args.form.now in
    let forms = c.args.forms.now in
    let exports = c.args.exports.now in
    let promised = c.in_ok-promised.promised in
    let exported = c.in_ok-shown.shown in
    let promises =
    subst (λ (l : List Form). AreAllPromises b.naming.own b.naming.imported b.naming.nothing b.modules 0 l promised) (sym e)
    (subst (λ ms. AreAllPromises b.naming.own b.naming.imported b.naming.nothing ms 0 forms promised) c.as_slice.ensures c.in_ok-promised.ensures) in
    let exports_are = c.in_ok-shown.ensures ∙ ap (λ l. shown_modules exports l b.naming.own b.naming.imported [] form.clauses) c.deref-2.ensures.value ∙ ap (λ us. shown_modules us b.libraries.items b.naming.own b.naming.imported [] form.clauses) (sym f) in
    let made = c.in_ok-table.ensures in
    let t = c.in_ok-table.table in
    makes_table g form b told is promised promises exported exports_are c.in_ok-shown-2.shown c.in_ok-shown-2.ensures t
    (ap (λ (x : Graph). x.modules) made) (ap (λ (x : Graph). x.own) made ∙ ap length (sym e)) (ap (λ (x : Graph). x.defined) made) (ap (λ (x : Graph). x.promised) made) (ap (λ (x : Graph). x.shown) made)
