use Rattle.std.proofs.Common.{rules, ◌≡◌, ◌∙◌, ◌+◌, true, false, ap, sym, subst, map, [], ◌∷◌, ◌++◌, drop, get_or}
use Rattle.dy_modules.specs.Order.{Turns}
use Rattle.dy_modules.proofs.Turns.{turn_made, turn_left, in_at, drop_first}
use Rattle.dy_modules.proofs.rounds.round.Goals as goal
use Rattle.dy_modules.proofs.rounds.round.Goals.{then-not-branch+in_ok-push, else-not-branch}

pub make-requires-clause-within : goal.make-requires-clause-within
make-requires-clause-within c = c.requires.within _ (in_at c.args.todo.now c.loop-m.m-index c.loop-m-test.true)

pub loop-m-preserved : goal.loop-m-preserved
loop-m-preserved c =
    let ms = c.args.forms.now in
    let todo = c.args.todo.now in
    let i = c.loop-m.m-index in
    let m = get_or todo i 0 in
    let rest = drop (i + 1) todo in
    let old = c.args.done.now.items in
    let before = c.loop-m.done.items in
    let left = c.loop-m.left.items in
    let t : Turns ms todo (m ∷ rest) i old before left = subst (λ r. Turns ms todo r i old before left) (drop_first todo i c.loop-m-test.true) c.loop-m.invariant in
    elim c.if-not-branch.branch [
      | then-not-branch+in_ok-push w ↦
          let no : c.in_ok-make.field-0 ≡ false = search rules in
          let s = c.in_ok-make.ensures.stuck no in
          let is : c.if-not-branch.left.items ≡ left ++ m ∷ [] = ap (λ v. v.items) w.left-is ∙ w.in_ok-push.ensures.items in
          subst (λ xs. Turns ms todo rest (i + 1) old c.make.new.done.items xs) (sym is)
          (subst (λ new. Turns ms todo rest (i + 1) old new (left ++ m ∷ [])) (sym s.0)
          (turn_left ms todo m i rest old before left t (in_at todo i c.loop-m-test.true) s.1))
      | else-not-branch w ↦
          let yes : c.in_ok-make.field-0 ≡ true = search rules in
          subst (λ xs. Turns ms todo rest (i + 1) old c.make.new.done.items xs) (sym (ap (λ v. v.items) w.left-is))
          (turn_made ms todo m i rest old before left t c.make.new.done.items (c.in_ok-make.ensures.made yes))
    ]
