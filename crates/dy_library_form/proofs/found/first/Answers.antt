use Rattle.std.proofs.Common.{◌≡◌, [], ◌∷◌, ◌++◌, Some, sym, ap, ◌∙◌}
use Rattle.dy_library_form.specs.Told.{first_with}
use Rattle.dy_library_form.proofs.Firsts.{first_last}
use Rattle.dy_library_form.proofs.found.first.Goals as goal

pub loop-found-preserved : goal.loop-found-preserved
loop-found-preserved c =
    let rest = c.pop.new.self.items in
    let one = c.in-Some.found in
    let best = c.loop-found.best in
    let popped : c.loop-found.list.items ≡ rest ++ one ∷ [] = c.in-Some.ensures.items in
    ap (λ b. first_with rest (Some b)) c.better.ensures ∙ sym (first_last rest one best) ∙ ap (λ l. first_with l best) (sym popped) ∙ c.loop-found.invariant
