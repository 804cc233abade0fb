use Rattle.std.proofs.Common.{◌≡◌, sym, ◌∙◌, ap, subst, reverse, ◌∷◌, ◌++◌, [], Some, rules}
use Rattle.std.proofs.lemmas.List.{reverse-append}
use Rattle.dy_term.specs.declared.draft.Local.TheVariants.{Hidden}
use Rattle.dy_names.specs.Tables.{IsKept, flat, entry_of}
use Rattle.dy_names.specs.declared.scope.Bound.{Bound}
use Rattle.dy_names.proofs.Kept.{bound_kept, puts_hidden}
use Rattle.dy_names.proofs.scope.Scope.bind_hidden.Goals as goal

pub invariant_of-self-in-Ok : goal.invariant_of-self-in-Ok
invariant_of-self-in-Ok c =
    let b : Bound = record { local = Hidden c.args.number; denotation = c.args.denotation; outer = c.flat-outer.result } in
    let items : c.push.new.self.items ≡ c.self.inside.bound.items ++ b ∷ [] = search rules in
    let outer : c.flat-outer.result ≡ flat (entry_of c.self.inside.named.entries c.self.inside.hidden.entries (Hidden c.args.number)) = search rules in
    subst (λ bs. IsKept bs c.self.inside.named.entries c.insert.new.self.entries) (sym (ap reverse items ∙ reverse-append c.self.inside.bound.items (b ∷ [])))
    (bound_kept (reverse c.self.inside.bound.items) b _ _ _ _ c.self.invariant (outer ∙ c.self.invariant.found (Hidden c.args.number))
    (puts_hidden _ _ _ c.args.number (Some c.args.denotation) (c.in-Ok.ensures.entries)))
