use Rattle.std.proofs.Common.{◌≡◌, false, [], refl, sym, ◌∙◌}
use Rattle.std.specs.List.{list_any}
use Rattle.std.proofs.lemmas.Result.{on_ok_weaker}
use Rattle.dy_base.specs.Tables.{names}
use Rattle.dy_module_numbers.specs.Options.{use_clause, with_names}
use Rattle.dy_library_form.specs.Told.{names_something}
use Rattle.dy_graph.specs.Faults.{IsMissingAt}
use Rattle.dy_graph.proofs.Added.{adds_none}
use Rattle.dy_graph.proofs.Lacks.{nothing_lacks, told_lacks}
use Rattle.dy_graph.proofs.Lent.{made_none, made_nothing, tables_at}
use Rattle.dy_graph.proofs.judging.tell_options.Goals as goal

pub returns-then-not-name_something : goal.returns-then-not-name_something
returns-then-not-name_something c =
    let ms = c.args.made.modules.now in
    let done = c.args.made.tables.now in
    let options = c.args.options.now in
    let old = c.args.found.now in
    let none : list_any names_something options ≡ false = sym c.name_something.ensures ∙ c.if-not-name_something.true in
    adds_none old old (IsMissingAt ms c.args.place c.args.source options) refl (nothing_lacks ms done c.requires.made c.args.place c.args.source options c.requires.ready none)

pub returns-in-Some-Some : goal.returns-in-Some-Some
returns-in-Some-Some c =
    let ms = c.args.made.modules.now in
    let done = c.args.made.tables.now in
    let source = c.args.source in
    let options = c.args.options.now in
    let t = c.in-Some-Some.tables in
    let at = tables_at done source c.get.result c.in-Some-Some.field-0 t c.get.ensures.lookup c.in-Some-Some.is c.in-Some-Some.field-0-is in
    on_ok_weaker c.tell_lacking.result
    (told_lacks ms done c.requires.made c.args.place source options t at (use_clause source options) refl (with_names [] (names t.exports)) refl c.args.found.now c.tell_lacking.new.found) c.tell_lacking.ensures

pub returns-in-Some-None : goal.returns-in-Some-None
returns-in-Some-None c =
    let done = c.args.made.tables.now in
    absurd (made_nothing done c.args.source c.requires.ready c.get.result c.in-Some-None.field-0 c.get.ensures.lookup c.in-Some-None.is c.in-Some-None.field-0-is)

pub returns-in-None : goal.returns-in-None
returns-in-None c =
    let done = c.args.made.tables.now in
    absurd (made_none done c.args.source c.requires.ready c.get.result c.get.ensures.lookup c.in-None.is)
