use Rattle.std.proofs.Common.{◌++◌, ap, ◌∙◌}
use Rattle.std.proofs.lemmas.Result.{on_ok_weaker}
use Rattle.dy_module_numbers.specs.Options.{use_clause}
use Rattle.dy_library_form.specs.Told.{not_exported}
use Rattle.dy_graph.proofs.judging.tell_lacking.Goals as goal

pub returns : goal.returns
returns c =
    let old = c.args.found.now in
    let place = c.args.place in
    let options = c.args.options.now in
    on_ok_weaker c.tell_missing.result (λ is. is ∙ ap (λ u. old ++ not_exported place u c.in_ok-exported.exported options) c.in_ok-u.ensures
    ∙ ap (λ e. old ++ not_exported place (use_clause c.args.source options) e options) c.in_ok-exported.ensures) c.tell_missing.ensures
