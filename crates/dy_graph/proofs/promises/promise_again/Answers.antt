use Rattle.std.proofs.Common.{◌≡◌, Some, None, option_map, sym, ap, ◌∙◌}
use Rattle.std.proofs.lemmas.Result.{on_ok_weaker}
use Rattle.dy_module_numbers.specs.Options.{use_clause, exported}
use Rattle.dy_graph.proofs.Promised.{again_names, again_all}
use Rattle.dy_graph.proofs.promises.promise_again.Goals as goal

pub returns-in-Some : goal.returns-in-Some
returns-in-Some c =
    let options = c.args.options.now in
    let names : exported options ≡ Some c.in-Some.names.now = sym c.exported.ensures ∙ ap (λ o. option_map (λ names. names.now) o) c.in-Some.is in
    on_ok_weaker c.promise_names.result (again_names c.args.made.modules.now c.args.number c.args.place c.args.promises.now c.promise_names.new.promises (use_clause c.args.source options) (exported options) c.in-Some.names.now names) c.promise_names.ensures

pub returns-in-None : goal.returns-in-None
returns-in-None c =
    let options = c.args.options.now in
    let all : exported options ≡ None = sym c.exported.ensures ∙ ap (λ o. option_map (λ names. names.now) o) c.in-None.is in
    on_ok_weaker c.promise_brought.result (again_all c.args.made.modules.now c.args.number c.args.place c.args.promises.now c.promise_brought.new.promises (use_clause c.args.source options) (exported options) all) c.promise_brought.ensures
