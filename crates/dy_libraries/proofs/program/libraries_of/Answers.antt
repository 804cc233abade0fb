use Rattle.std.proofs.Common.{◌<◌, eqb, length, map, All, sym, subst, ap, ◌∙◌}
use Rattle.std.specs.List.{IsDistinct}
use Rattle.std.proofs.lemmas.Result.{IfOk-weaker}
use Rattle.dy_libraries.specs.Programs.{library_at}
use Rattle.dy_libraries.proofs.Viewing.{all_there, none_twice, view_read}
use Rattle.dy_libraries.proofs.Picking.{are_there, picked_are}
use Rattle.dy_libraries.proofs.program.libraries_of.Goals as goal

pub picked-requires-clause-there : goal.picked-requires-clause-there
picked-requires-clause-there c =
    let compiled = c.args.libraries.compiled in
    let are = c.requires.libraries.compiled in
    let same = c.deref.ensures.value ∙ c.in_ok-numbers.ensures.items
    ∙ view_read compiled are c.args.main c.requires.there c.as_slice.result.now c.index-as_slice-main.result c.as_slice-view.result.now c.as_slice.ensures c.index-as_slice-main.is c.as_slice-view.ensures in
    are_there c.args.libraries c.in_ok-all.all.items c.in_ok-all.ensures c.deref.result.now
    (subst (All (λ number. number < length compiled.exports)) (sym same) (all_there compiled are c.args.main c.requires.there))

pub picked-requires-clause-once : goal.picked-requires-clause-once
picked-requires-clause-once c =
    let compiled = c.args.libraries.compiled in
    let are = c.requires.libraries.compiled in
    let same = c.deref.ensures.value ∙ c.in_ok-numbers.ensures.items
    ∙ view_read compiled are c.args.main c.requires.there c.as_slice.result.now c.index-as_slice-main.result c.as_slice-view.result.now c.as_slice.ensures c.index-as_slice-main.is c.as_slice-view.ensures in
    subst (IsDistinct eqb) (sym same) (none_twice compiled are c.args.main c.requires.there)

pub returns : goal.returns
returns c =
    let compiled = c.args.libraries.compiled in
    let are = c.requires.libraries.compiled in
    let same = c.deref.ensures.value ∙ c.in_ok-numbers.ensures.items
    ∙ view_read compiled are c.args.main c.requires.there c.as_slice.result.now c.index-as_slice-main.result c.as_slice-view.result.now c.as_slice.ensures c.index-as_slice-main.is c.as_slice-view.ensures in
    IfOk-weaker c.picked.result _ _
    (λ program is.
    picked_are c.args.libraries c.in_ok-all.all.items c.in_ok-all.ensures c.deref.result.now program.items
    (subst (All (λ number. number < length compiled.exports)) (sym same) (all_there compiled are c.args.main c.requires.there)) is
    ∙ ap (map (library_at c.args.libraries)) same)
    c.picked.ensures
