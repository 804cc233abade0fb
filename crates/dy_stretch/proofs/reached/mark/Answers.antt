use Rattle.std.proofs.Common.{◌<◌, ℕ, true, List, Option, Some, set, length, sym, subst, ◌∙◌, arith}
use Rattle.dy_stretch.specs.Walks.{Marks}
use Rattle.dy_stretch.proofs.Marking.{read_as, marks_new}
use Rattle.dy_stretch.proofs.reached.mark.Goals as goal

pub returns-in_ok-push-in-Some : goal.returns-in_ok-push-in-Some
returns-in_ok-push-in-Some c =
    let old = c.args.marks.now.items in
    let before = c.args.waiting.now.items in
    let place = c.in-Some.place in
    let t = c.if-place-len.false in
    let m = c.len.ensures in
    let l : place < length old = omega (arith, t, m) in
    let e = read_as old place c.index.result.now true l c.index.ensures ∙ c.if-index.false in
    subst (λ (to : Option ℕ). Marks to old (set old place true) before c.push.new.self.items) (sym c.in-Some.is)
    (subst (λ (w : List ℕ). Marks (Some place) old (set old place true) before w) (sym c.in_ok-push-in-Some.ensures.items) (marks_new place old before l e))
