use Rattle.std.proofs.Common.{◌≡◌, ◌+◌, ◌<◌, length, arith}
use Rattle.dy_stretch.specs.Walks.{code_of}
use Rattle.dy_stretch.proofs.Walking.{code_long, still_longest, all_longest}
use Rattle.dy_stretch.proofs.walks.longs_of.Goals as goal

pub sweep-requires : goal.sweep-requires
sweep-requires c =
    let n = code_long c.args.flats.now.items in
    let k = c.loop-turn.invariant.long in
    omega (arith, n, k)

pub returns-then-not-branch : goal.returns-then-not-branch
returns-then-not-branch c =
    let fs = c.args.flats.now.items in
    let turn = c.loop-turn._turn in
    let m = c.len-turn-end.ensures in
    let t = c.loop-turn-test.true in
    let within : turn < length fs = omega (arith, m, t) in
    still_longest (code_of fs) (turn + 1) c.sweep.new.longs.items (c.in_ok-sweep.ensures.further turn within c.loop-turn.invariant) (c.in_ok-sweep.ensures.still c.if-not-branch.true)

pub loop-turn-preserved : goal.loop-turn-preserved
loop-turn-preserved c =
    let m = c.len-turn-end.ensures in
    let t = c.loop-turn-test.true in
    let within : c.loop-turn._turn < length c.args.flats.now.items = omega (arith, m, t) in
    c.in_ok-sweep.ensures.further c.loop-turn._turn within c.loop-turn.invariant

pub returns : goal.returns
returns c =
    let fs = c.args.flats.now.items in
    let n = code_long fs in
    let m = c.len-turn-end.ensures in
    let all : c.loop-turn._turn ≡ length (code_of fs) = omega (arith, n, m, c.loop-turn.auto._turn-end, c.loop-turn-test.false) in
    all_longest (code_of fs) c.loop-turn._turn c.loop-turn.longs.items all c.loop-turn.invariant
