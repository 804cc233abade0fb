use Rattle.std.proofs.Common.{◌≡◌, ◌+◌, List, Bool, length, sym, subst, refl, arith}
use Rattle.dy_stretch.specs.Walks.{code_of}
use Rattle.dy_stretch.proofs.Fresh.{Fresh, fresh_none, fresh_more, fresh_walked}
use Rattle.dy_stretch.proofs.Walking.{code_long}
use Rattle.dy_stretch.proofs.reached.unmarked.Goals as goal

pub loop-place-init : goal.loop-place-init
loop-place-init c = subst (λ (xs : List Bool). Fresh xs 0) (sym c.new-marks.ensures.items) fresh_none

pub loop-place-preserved : goal.loop-place-preserved
loop-place-preserved c =
    subst (λ (xs : List Bool). Fresh xs (c.loop-place.place + 1)) (sym c.in_ok-push.ensures.items) (fresh_more c.loop-place.marks.items c.loop-place.place _ c.loop-place.invariant refl)

pub returns : goal.returns
returns c =
    let fs = c.args.flats.now.items in
    let n = code_long fs in
    let m = c.len-place-end.ensures in
    let all : c.loop-place.place ≡ length (code_of fs) = omega (arith, n, m, c.loop-place.auto.place-end, c.loop-place-test.false) in
    fresh_walked (code_of fs) c.loop-place.marks.items c.loop-place.place all c.loop-place.invariant
