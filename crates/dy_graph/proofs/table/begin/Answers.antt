use Rattle.std.proofs.Common.{refl, ap, ◌∙◌}
use Rattle.dy_library_form.specs.Library.{after_clauses, nothing_read}
use Rattle.dy_graph.proofs.Begins.{begins, room}
use Rattle.dy_graph.proofs.table.begin.Goals as goal

pub put_modules-requires : goal.put_modules-requires
put_modules-requires c =
    let outside = c.in_ok-outside.outside in
    room c.args.forms.now c.args.exports.now _ refl outside.forms_by_number.items outside.libraries.items outside.nothing c.in_ok-outside.ensures

pub returns : goal.returns
returns c = λ g e f.
    let outside = c.in_ok-outside.outside in
    let reading = c.in_ok-reading.reading in
    let exports = c.args.exports.now in
    let clauses = c.args.form.now.clauses in
    let read = c.in_ok-reading.ensures ∙ ap (λ l. after_clauses exports l c.deref-2.result.now clauses nothing_read) c.deref.ensures.value ∙ ap (λ l. after_clauses exports outside.libraries.items l clauses nothing_read) c.deref-2.ensures.value in
    begins g c.args.form.now c.args.forms.now exports e f _ refl outside.forms_by_number.items outside.libraries.items outside.nothing c.in_ok-outside.ensures reading read c.args.names c.requires c.put_modules.new.modules.items c.in_ok-put_modules.ensures
    _ refl refl refl c.from_vec.ensures refl reading.found refl
