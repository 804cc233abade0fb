use Rattle.std.proofs.Common.{◌≡◌, ◌+◌, ℕ, List, length, sym, subst, arith}
use Rattle.dy_stretch.specs.Walks.{code_of}
use Rattle.dy_stretch.proofs.Walking.{code_long, Blank, blank_none, blank_more, blank_between}
use Rattle.dy_stretch.proofs.walks.unknown.Goals as goal

pub loop-place-init : goal.loop-place-init
loop-place-init c = subst (λ (xs : List ℕ). Blank xs 0) (sym c.new-longs.ensures.items) blank_none

pub loop-place-preserved : goal.loop-place-preserved
loop-place-preserved c =
    subst (λ (xs : List ℕ). Blank xs (c.loop-place._place + 1)) (sym c.in_ok-push.ensures.items) (blank_more c.loop-place.longs.items c.loop-place._place c.loop-place.invariant)

pub returns : goal.returns
returns c =
    let fs = c.args.flats.now.items in
    let n = code_long fs in
    let m = c.len-place-end.ensures in
    let all : c.loop-place._place ≡ length (code_of fs) = omega (arith, n, m, c.loop-place.auto._place-end, c.loop-place-test.false) in
    blank_between (code_of fs) c.loop-place.longs.items c.loop-place._place all c.loop-place.invariant
