use Rattle.std.proofs.Common.{◌≡◌, ap, ◌∙◌, rules}
use Rattle.dy_term.specs.declared.draft.Local.TheVariants.{Hidden}
use Rattle.dy_names.specs.Naming.{innermost}
use Rattle.dy_names.specs.Tables.{flat, entry_of}
use Rattle.dy_names.proofs.scope.Scope.find_hidden.Goals as goal

pub returns : goal.returns
returns c =
    let e : c.flat.result ≡ flat (entry_of c.self.inside.named.entries c.self.inside.hidden.entries (Hidden c.args.number)) = search rules in
    e ∙ c.self.invariant.found (Hidden c.args.number) ∙ ap (λ locals. innermost locals (Hidden c.args.number)) c.self.view_is
