use Rattle.std.proofs.Common.{◌≡◌, ◌∷◌, true, slice_get, refl, sym, subst, ◌∙◌}
use Rattle.dy_modules.specs.Order.{is_made}
use Rattle.dy_graph.specs.Faults.{AreMade, AreOfForms, Adds, IsSingle}
use Rattle.dy_graph.specs.Judged.{Given, IsOtherFault}
use Rattle.dy_graph.proofs.Begins.{of_begun, within, is_told, no_fault, clear, ready}
use Rattle.dy_graph.proofs.table.judge_form.Goals as goal

pub tell_others-requires-clause-made : goal.tell_others-requires-clause-made
tell_others-requires-clause-made c =
    subst (AreMade c.as_slice-modules.result.now) (sym c.deref.ensures.value) (record { right = c.in_ok-tables.ensures.right; all = c.in_ok-tables.ensures.all })

pub tell_others-requires-clause-of : goal.tell_others-requires-clause-of
tell_others-requires-clause-of c =
    let g : Given = record { library = c.args.library.now; headers = c.args.headers.now; libraries = c.args.form.now ∷ c.args.others.now; modules = c.args.forms.now; used = c.args.exports.now } in
    let b = c.in_ok-begun.begun in
    let is = c.in_ok-begun.ensures g refl refl in
    subst (λ ms. AreOfForms b.naming.own b.naming.imported b.naming.nothing ms g.modules) (sym c.as_slice-modules.ensures) (of_begun g c.args.form.now b c.in_ok-begun.found is)

pub returns-in_ok-refusal-in-Some : goal.returns-in_ok-refusal-in-Some
returns-in_ok-refusal-in-Some c =
    let g : Given = record { library = c.args.library.now; headers = c.args.headers.now; libraries = c.args.form.now ∷ c.args.others.now; modules = c.args.forms.now; used = c.args.exports.now } in
    let form = c.args.form.now in
    let others = c.args.others.now in
    let b = c.in_ok-begun.begun in
    let told = c.in_ok-begun.found in
    let list = c.tell_others.new.found in
    let done = c.in_ok-tables.tables.items in
    let is = c.in_ok-begun.ensures g refl refl in
    let made : AreMade b.modules done = subst (λ ms. AreMade ms done) c.as_slice-modules.ensures (record { right = c.in_ok-tables.ensures.right; all = c.in_ok-tables.ensures.all }) in
    let adds = subst (λ ms. Adds told list (IsOtherFault g.library g.headers b.naming.own b.naming.imported ms form others g.modules)) c.as_slice-modules.ensures c.in_ok-tell_others.ensures.adds in
    let found = c.in-Some.found in
    (found, is_told g form b told is others refl done made list adds found (sym c.in-Some.is ∙ c.first.ensures), c.in_ok-refusal-in-Some.ensures)

pub make_table-requires-clause-made : goal.make_table-requires-clause-made
make_table-requires-clause-made c =
    let done = c.in_ok-tables.tables.items in
    subst (λ ms. AreMade ms done) c.as_slice-modules.ensures (record { right = c.in_ok-tables.ensures.right; all = c.in_ok-tables.ensures.all })

pub make_table-requires-clause-clear : goal.make_table-requires-clause-clear
make_table-requires-clause-clear c =
    let g : Given = record { library = c.args.library.now; headers = c.args.headers.now; libraries = c.args.form.now ∷ c.args.others.now; modules = c.args.forms.now; used = c.args.exports.now } in
    let form = c.args.form.now in
    let others = c.args.others.now in
    let b = c.in_ok-begun.begun in
    let told = c.in_ok-begun.found in
    let list = c.tell_others.new.found in
    let done = c.in_ok-tables.tables.items in
    let is = c.in_ok-begun.ensures g refl refl in
    let made : AreMade b.modules done = subst (λ ms. AreMade ms done) c.as_slice-modules.ensures (record { right = c.in_ok-tables.ensures.right; all = c.in_ok-tables.ensures.all }) in
    let adds = subst (λ ms. Adds told list (IsOtherFault g.library g.headers b.naming.own b.naming.imported ms form others g.modules)) c.as_slice-modules.ensures c.in_ok-tell_others.ensures.adds in
    clear g form b told is others refl done made list adds (sym c.in-None.is ∙ c.first.ensures)
    (λ nothing m less here. subst (λ ms. IsSingle ms m) c.as_slice-modules.ensures (c.in_ok-tell_others.ensures.quiet nothing m less (subst (λ ts. is_made (slice_get ts m) ≡ true) (sym c.deref.ensures.value) here)))

pub make_table-requires-clause-ready : goal.make_table-requires-clause-ready
make_table-requires-clause-ready c =
    let g : Given = record { library = c.args.library.now; headers = c.args.headers.now; libraries = c.args.form.now ∷ c.args.others.now; modules = c.args.forms.now; used = c.args.exports.now } in
    let form = c.args.form.now in
    let others = c.args.others.now in
    let b = c.in_ok-begun.begun in
    let told = c.in_ok-begun.found in
    let list = c.tell_others.new.found in
    let done = c.in_ok-tables.tables.items in
    let is = c.in_ok-begun.ensures g refl refl in
    let made : AreMade b.modules done = subst (λ ms. AreMade ms done) c.as_slice-modules.ensures (record { right = c.in_ok-tables.ensures.right; all = c.in_ok-tables.ensures.all }) in
    let adds = subst (λ ms. Adds told list (IsOtherFault g.library g.headers b.naming.own b.naming.imported ms form others g.modules)) c.as_slice-modules.ensures c.in_ok-tell_others.ensures.adds in
    ready g form b told is others refl done made list adds (sym c.in-None.is ∙ c.first.ensures)
    (λ nothing m less here. subst (λ ms. IsSingle ms m) c.as_slice-modules.ensures (c.in_ok-tell_others.ensures.quiet nothing m less (subst (λ ts. is_made (slice_get ts m) ≡ true) (sym c.deref.ensures.value) here)))

pub make_table-requires-clause-within : goal.make_table-requires-clause-within
make_table-requires-clause-within c =
    let g : Given = record { library = c.args.library.now; headers = c.args.headers.now; libraries = c.args.form.now ∷ c.args.others.now; modules = c.args.forms.now; used = c.args.exports.now } in
    within g c.args.form.now c.in_ok-begun.begun c.in_ok-begun.found (c.in_ok-begun.ensures g refl refl)

pub returns-in_ok-table-in-None : goal.returns-in_ok-table-in-None
returns-in_ok-table-in-None c =
    let g : Given = record { library = c.args.library.now; headers = c.args.headers.now; libraries = c.args.form.now ∷ c.args.others.now; modules = c.args.forms.now; used = c.args.exports.now } in
    let form = c.args.form.now in
    let others = c.args.others.now in
    let b = c.in_ok-begun.begun in
    let told = c.in_ok-begun.found in
    let list = c.tell_others.new.found in
    let done = c.in_ok-tables.tables.items in
    let is = c.in_ok-begun.ensures g refl refl in
    let made : AreMade b.modules done = subst (λ ms. AreMade ms done) c.as_slice-modules.ensures (record { right = c.in_ok-tables.ensures.right; all = c.in_ok-tables.ensures.all }) in
    let adds = subst (λ ms. Adds told list (IsOtherFault g.library g.headers b.naming.own b.naming.imported ms form others g.modules)) c.as_slice-modules.ensures c.in_ok-tell_others.ensures.adds in
    (no_fault g form b told is others refl done made list adds (sym c.in-None.is ∙ c.first.ensures), c.in_ok-table-in-None.ensures g refl refl told is)
