use Rattle.std.proofs.Common.{List, Ok, subst}
use Rattle.std.proofs.lemmas.Result.{err_from_is_err_and}
use Rattle.dy_tree.specs.declared.fragment.Fragment.{Fragment}
use Rattle.dy_tree.specs.Fragments.{seen_fragments}
use Rattle.dy_module_forms.specs.Forms.{forms_of}
use Rattle.dy_library_modules.specs.Modules.{AnswersSorted}
use Rattle.dy_library_modules.proofs.ModulesRead.{table_then, taken_then, library_told, modules_found}
use Rattle.dy_library_modules.proofs.own_modules.modules_in.Goals as goal

pub returns-in_err-table : goal.returns-in_err-table
returns-in_err-table c =
    let are = subst (λ (l : List Fragment). AnswersSorted (forms_of (seen_fragments l)) (Ok c.in_ok-sorted.sorted)) c.deref.ensures.value c.in_ok-sorted.ensures in
    let p = err_from_is_err_and c.from_residual-in_err-table.result c.from_residual-in_err-table.ensures.1 in
    rw (p.1, p.2)
    (table_then c.args.library.now c.args.headers.now.items c.args.compiled.now c.in_ok-sorted.sorted c.as_slice.result.now c.first_clauses-clauses.result.now c.in_ok-view.view.uses c.in_ok-view.view.order
    c.in_ok-view.view.used.items c.as_slice.ensures c.first_clauses-clauses.ensures c.in_ok-view.ensures.uses c.in_ok-view.ensures.order c.in_ok-view.ensures.used
    (forms_of (seen_fragments c.args.fragments.now.items)) c.in_err-table.field-0.0 are c.in_err-table.ensures)

pub returns-in_err-library : goal.returns-in_err-library
returns-in_err-library c =
    let are = subst (λ (l : List Fragment). AnswersSorted (forms_of (seen_fragments l)) (Ok c.in_ok-sorted.sorted)) c.deref.ensures.value c.in_ok-sorted.ensures in
    let p = err_from_is_err_and c.from_residual-in_err-library.result c.from_residual-in_err-library.ensures.1 in
    rw (p.1, p.2)
    (taken_then c.args.library.now c.args.headers.now.items c.args.compiled.now c.in_ok-sorted.sorted c.as_slice.result.now c.first_clauses-clauses.result.now c.in_ok-view.view.uses c.in_ok-view.view.order
    c.in_ok-view.view.used.items c.as_slice.ensures c.first_clauses-clauses.ensures c.in_ok-view.ensures.uses c.in_ok-view.ensures.order c.in_ok-view.ensures.used
    c.as_slice-given.result.now c.as_slice-given.ensures (forms_of (seen_fragments c.args.fragments.now.items)) c.in_err-library.field-0.0 are c.in_err-library.ensures)

pub returns-in-Some : goal.returns-in-Some
returns-in-Some c =
    let are = subst (λ (l : List Fragment). AnswersSorted (forms_of (seen_fragments l)) (Ok c.in_ok-sorted.sorted)) c.deref.ensures.value c.in_ok-sorted.ensures in
    library_told c.args.library.now c.args.headers.now.items c.args.compiled.now c.in_ok-sorted.sorted c.as_slice.result.now c.first_clauses-clauses.result.now c.in_ok-view.view.uses c.in_ok-view.view.order
    c.in_ok-view.view.used.items c.as_slice.ensures c.first_clauses-clauses.ensures c.in_ok-view.ensures.uses c.in_ok-view.ensures.order c.in_ok-view.ensures.used
    c.as_slice-given.result.now c.as_slice-given.ensures c.in_ok-table.table c.in_ok-library.field-0 (forms_of (seen_fragments c.args.fragments.now.items)) c.in-Some.fault are c.in_ok-table.ensures c.in_ok-library.ensures
    c.in-Some.is

pub returns-in-None : goal.returns-in-None
returns-in-None c =
    let are = subst (λ (l : List Fragment). AnswersSorted (forms_of (seen_fragments l)) (Ok c.in_ok-sorted.sorted)) c.deref.ensures.value c.in_ok-sorted.ensures in
    modules_found c.args.library.now c.args.headers.now.items c.args.compiled.now c.in_ok-sorted.sorted c.as_slice.result.now c.first_clauses-clauses.result.now c.in_ok-view.view.uses c.in_ok-view.view.order
    c.in_ok-view.view.used.items c.as_slice.ensures c.first_clauses-clauses.ensures c.in_ok-view.ensures.uses c.in_ok-view.ensures.order c.in_ok-view.ensures.used
    c.as_slice-given.result.now c.as_slice-given.ensures c.in_ok-table.table c.in_ok-library.field-0 (forms_of (seen_fragments c.args.fragments.now.items)) are c.in_ok-table.ensures c.in_ok-library.ensures
    c.in-None.is
