use Rattle.std.proofs.Common.{◌≡◌, ◌+◌, ◌<◌, ℕ, List, [], ◌∷◌, ◌++◌, length, length-append, sym, ap, subst, ◌∙◌, arith}
use Rattle.dy_stretch.specs.Walks.{code_of, unmarked, IsWalked}
use Rattle.dy_stretch.proofs.Marking.{all_reached}
use Rattle.dy_stretch.proofs.reached.marks_of.Goals as goal

pub loop-place-init : goal.loop-place-init
loop-place-init c =
    let code = code_of c.args.flats.now.items in
    subst (IsWalked code c.in_ok-marks.marks.items) (sym (c.in_ok-push.ensures.items ∙ ap (λ (xs : List ℕ). xs ++ 0 ∷ []) c.new-waiting.ensures.items)) c.in_ok-marks.ensures

pub loop-place-smaller : goal.loop-place-smaller
loop-place-smaller c =
    let place = c.in-Some.place in
    let rest = c.pop.new.self.items in
    let popped : c.loop-place.waiting.items ≡ rest ++ place ∷ [] = c.in-Some.ensures.items in
    let count = ap length popped ∙ length-append rest (place ∷ []) in
    let spent = c.in_ok-visit.ensures.spent in
    let less : unmarked c.visit.new.marks.items + length c.visit.new.waiting.items < unmarked c.loop-place.marks.items + length c.loop-place.waiting.items = omega (arith, count, spent) in
    less

pub loop-place-preserved : goal.loop-place-preserved
loop-place-preserved c =
    let code = code_of c.args.flats.now.items in
    let popped : c.loop-place.waiting.items ≡ c.pop.new.self.items ++ c.in-Some.place ∷ [] = c.in-Some.ensures.items in
    c.in_ok-visit.ensures.walked (subst (IsWalked code c.loop-place.marks.items) popped c.loop-place.invariant)

pub returns : goal.returns
returns c =
    let none : length c.loop-place.waiting.items ≡ 0 = omega (arith, c.in_default.ensures.cases.0, c.loop-place.waiting.ok.0) in
    all_reached (code_of c.args.flats.now.items) c.loop-place.marks.items c.loop-place.waiting.items none c.loop-place.invariant
