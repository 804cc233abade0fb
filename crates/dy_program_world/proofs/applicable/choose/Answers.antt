use Rattle.std.proofs.Common.{◌≡◌, ◌∙◌, List, IfOk, filter, ap, subst}
use Rattle.dy_base.specs.declared.ids.MethodId.{MethodId}
use Rattle.dy_program_world.specs.Steady.{is_applicable}
use Rattle.dy_program_world.proofs.Choosing.{chosen_own, listed_are}
use Rattle.dy_program_world.proofs.applicable.choose.Goals as goal

pub returns-in-Some : goal.returns-in-Some
returns-in-Some c =
    let program = c.args.program.now in
    let store = c.args.store.now in
    let generic = c.args.generic in
    let values = c.args.values.now in
    subst (λ (methods : List MethodId).
    IfOk c.choose_among.result (λ found. found.items ≡ methods))
    (ap (filter (is_applicable program store generic values))
    (listed_are program c.args.table.now generic c.in-Some.methods.now c.requires
    c.in-Some.ensures)
    ∙ chosen_own program store generic values) c.choose_among.ensures
