use Rattle.std.proofs.Common.{◌≡◌, sym, ◌∙◌, ap, subst, reverse, ◌∷◌, ◌++◌, [], Some, rules}
use Rattle.std.proofs.lemmas.List.{reverse-append}
use Rattle.dy_term.specs.declared.draft.Local.TheVariants.{Named}
use Rattle.dy_names.specs.Tables.{IsKept, flat, entry_of}
use Rattle.dy_names.specs.declared.scope.Bound.{Bound}
use Rattle.dy_names.proofs.Kept.{bound_kept, puts_named}
use Rattle.dy_names.proofs.scope.Scope.bind.Goals as goal

pub invariant_of-self-in-Ok : goal.invariant_of-self-in-Ok
invariant_of-self-in-Ok c =
    let token = c.in_ok-copy.field-0 in
    let b : Bound = record { local = Named token; denotation = c.args.denotation; outer = c.flat-outer.result } in
    let items : c.push.new.self.items ≡ c.self.inside.bound.items ++ b ∷ [] = search rules in
    let o : c.args.name.now.origin ≡ token.origin = search rules in
    let t : c.in_ok-to_vec.field-0.items ≡ token.text = search rules in
    let outer : c.flat-outer.result ≡ flat (entry_of c.self.inside.named.entries c.self.inside.hidden.entries (Named token)) = search rules in
    subst (λ bs. IsKept bs c.insert.new.self.entries c.self.inside.hidden.entries) (sym (ap reverse items ∙ reverse-append c.self.inside.bound.items (b ∷ [])))
    (bound_kept (reverse c.self.inside.bound.items) b _ _ _ _ c.self.invariant (outer ∙ c.self.invariant.found (Named token))
    (puts_named _ _ _ (c.args.name.now.origin, c.in_ok-to_vec.field-0) token (Some c.args.denotation) o t (c.in-Ok.ensures.entries)))
