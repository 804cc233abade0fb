use Rattle.std.proofs.Common.{◌≡◌, ap, ◌∙◌, rules}
use Rattle.dy_term.specs.declared.draft.Local.TheVariants.{Named}
use Rattle.dy_names.specs.Naming.{innermost}
use Rattle.dy_names.specs.Tables.{flat, entry_of}
use Rattle.dy_names.proofs.scope.Scope.find.Goals as goal

pub returns : goal.returns
returns c =
    let e : c.flat.result ≡ flat (entry_of c.self.inside.named.entries c.self.inside.hidden.entries (Named c.args.name.now)) = search rules in
    e ∙ c.self.invariant.found (Named c.args.name.now) ∙ ap (λ locals. innermost locals (Named c.args.name.now)) c.self.view_is
