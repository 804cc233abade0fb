use Rattle.std.proofs.Common.{List, map, refl, ap, ◌∙◌}
use Rattle.dy_library_rows.specs.Libraries.{seen_form, or_fault}
use Rattle.dy_definitions.specs.declared.definitions.Definition.{Definition}
use Rattle.dy_binding.specs.declared.progress.Progress.{Progress}
use Rattle.dy_library_names.specs.Early.{early_faults}
use Rattle.dy_library_names.specs.Named.{undefined}
use Rattle.dy_library_names.specs.Passes.{told_all, first_of}
use Rattle.dy_library_names.proofs.Judging.{closed_with, judging}
use Rattle.dy_library_names.proofs.library.judge.Goals as goal

pub returns : goal.returns
returns c =
    let given = c.in_ok-given.given in
    let read = c.in_ok-read.read in
    let is_read = c.in_ok-read.ensures in
    let table = c.in_ok-table.table in
    let lacking = c.in_ok-lacking.lacking in
    let closed = c.in_ok-table.ensures
    ∙ ap (λ (ds : List Definition). closed_with given ds) c.as_slice-list.ensures in
    let told = c.in_ok-tell_undefined.ensures
    ∙ (λ i. told_all (map undefined (c.as_slice-promised.ensures i)) (c.tell_all-2.ensures i))
    ∙ ap (λ (p : Progress). told_all (map undefined lacking) (told_all given.defined.redefined p))
    c.tell_all.ensures in
    let early = c.in_ok-early.ensures
    ∙ ap (λ (ds : List Definition). first_of (early_faults (map seen_form c.args.forms.now) ds))
    c.as_slice-list.ensures in
    let late = c.or_fault-late.ensures ∙ (λ i. or_fault (told i).first read.limits.first) in
    let first = c.or_fault-first.ensures ∙ (λ i. or_fault (early i) (late i)) in
    judging c.args.table c.args.library c.args.words.now.items c.args.doubled
    (map seen_form c.args.forms.now)
    given c.in_ok-given.ensures.given c.in_ok-given.ensures.laid lacking table closed
    c.in_ok-lacking.ensures read is_read.0 is_read.1 is_read.2 _ first refl refl
