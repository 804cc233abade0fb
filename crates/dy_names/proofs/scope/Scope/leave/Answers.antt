use Rattle.std.proofs.Common.{◌≡◌, ◌∙◌, ap, subst, reverse, ◌∷◌, ◌++◌, [], rules, refl}
use Rattle.std.proofs.lemmas.List.{reverse-append}
use Rattle.dy_term.specs.declared.draft.Local.TheVariants.{Named, Hidden}
use Rattle.dy_names.specs.Tables.{IsKept}
use Rattle.dy_names.specs.declared.scope.Bound.{Bound}
use Rattle.dy_names.proofs.Kept.{named_back, hidden_back}
use Rattle.dy_names.proofs.scope.Scope.leave.Goals as goal

pub invariant_of-self-in-Named : goal.invariant_of-self-in-Named
invariant_of-self-in-Named c =
    let b : Bound = c.in-Some.field-0 in
    let token = c.in-Named.name in
    let items : c.self.inside.bound.items ≡ c.pop.new.self.items ++ b ∷ [] = search rules in
    let local : b.local ≡ Named token = search rules in
    let kept : IsKept (b ∷ reverse c.pop.new.self.items) c.self.inside.named.entries c.self.inside.hidden.entries =
    subst (λ bs. IsKept bs c.self.inside.named.entries c.self.inside.hidden.entries) (ap reverse items ∙ reverse-append c.pop.new.self.items (b ∷ [])) c.self.invariant in
    named_back c.insert-put.result (reverse c.pop.new.self.items) b token c.self.inside.named.entries c.insert-put.new.self.entries c.self.inside.hidden.entries (token.origin, c.into_vec.result) local kept refl c.into_vec.ensures c.insert-put.ensures.entries c.insert-put.ensures.absent

pub invariant_of-self-in-Named-2 : goal.invariant_of-self-in-Named-2
invariant_of-self-in-Named-2 c =
    let b : Bound = c.in-Some.field-0 in
    let token = c.in-Named.name in
    let items : c.self.inside.bound.items ≡ c.pop.new.self.items ++ b ∷ [] = search rules in
    let local : b.local ≡ Named token = search rules in
    let kept : IsKept (b ∷ reverse c.pop.new.self.items) c.self.inside.named.entries c.self.inside.hidden.entries =
    subst (λ bs. IsKept bs c.self.inside.named.entries c.self.inside.hidden.entries) (ap reverse items ∙ reverse-append c.pop.new.self.items (b ∷ [])) c.self.invariant in
    named_back c.insert-put.result (reverse c.pop.new.self.items) b token c.self.inside.named.entries c.insert-put.new.self.entries c.self.inside.hidden.entries (token.origin, c.into_vec.result) local kept refl c.into_vec.ensures c.insert-put.ensures.entries c.insert-put.ensures.absent

pub invariant_of-self-in-Hidden : goal.invariant_of-self-in-Hidden
invariant_of-self-in-Hidden c =
    let b : Bound = c.in-Some.field-0 in
    let n = c.in-Hidden.number in
    let items : c.self.inside.bound.items ≡ c.pop.new.self.items ++ b ∷ [] = search rules in
    let local : b.local ≡ Hidden n = search rules in
    let kept : IsKept (b ∷ reverse c.pop.new.self.items) c.self.inside.named.entries c.self.inside.hidden.entries =
    subst (λ bs. IsKept bs c.self.inside.named.entries c.self.inside.hidden.entries) (ap reverse items ∙ reverse-append c.pop.new.self.items (b ∷ [])) c.self.invariant in
    hidden_back c.insert-put-in-Hidden.result (reverse c.pop.new.self.items) b n c.self.inside.named.entries c.self.inside.hidden.entries c.insert-put-in-Hidden.new.self.entries local kept c.insert-put-in-Hidden.ensures.entries c.insert-put-in-Hidden.ensures.absent
