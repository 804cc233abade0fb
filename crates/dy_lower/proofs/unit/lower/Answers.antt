use Rattle.std.proofs.Common.{ap, sym, subst, ◌∙◌}
use Rattle.dy_code.specs.declared.unit.Unit.{Unit as CodeUnit}
use Rattle.dy_lower.specs.Behaving.{DoesAsMeant}
use Rattle.dy_lower.proofs.unit.lower.Goals as goal

pub returns-in-Ok-clause-unit : goal.returns-in-Ok-clause-unit
returns-in-Ok-clause-unit c =
    let view = c.args.view.now in
    c.in-Ok.ensures view (c.in_ok-code.ensures.code view)

pub returns-in-Ok-clause-behaves : goal.returns-in-Ok-clause-behaves
returns-in-Ok-clause-behaves c =
    let view = c.args.view.now in
    let code = c.in_ok-code.ensures.code view in
    let unit = ap (λ (u : CodeUnit). u.code) (c.in-Ok.ensures view code) in
    subst (DoesAsMeant c.args.library.row) (code ∙ sym unit) c.in_ok-code.ensures.behaves
