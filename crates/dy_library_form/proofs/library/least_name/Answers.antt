use Rattle.std.proofs.Common.{slice_get, ap, ◌∙◌}
use Rattle.dy_library_form.specs.Library.{name_at}
use Rattle.dy_library_form.proofs.OneMore.{least_is}
use Rattle.dy_library_form.proofs.library.least_name.Goals as goal

pub returns : goal.returns
returns c =
    let list = c.args.list.now in
    let places = c.in_ok-places.places.items in
    c.in_ok-name.ensures ∙ ap (name_at list) (c.first.ensures.value ∙ ap (λ l. slice_get l 0) c.deref.ensures.value) ∙ least_is list places c.in_ok-places.ensures
