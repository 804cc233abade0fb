use Rattle.std.proofs.Common.{◌<◌, length, arith}
use Rattle.dy_lowered.specs.Flat.{placed}
use Rattle.dy_lower_parts.specs.Seen.{seen}
use Rattle.dy_stretch.specs.Walks.{code_of}
use Rattle.dy_stretch.proofs.Marking.{passed, visited}
use Rattle.dy_stretch.proofs.Walking.{code_long, code_at}
use Rattle.dy_stretch.proofs.reached.visit.Goals as goal

pub returns-then-place-len : goal.returns-then-place-len
returns-then-place-len c =
    let fs = c.args.flats.now.items in
    let n = code_long fs in
    let m = c.len.ensures in
    let t = c.if-place-len.true in
    passed (code_of fs) c.args.place c.args.waiting.now.items c.args.marks.now.items (omega (arith, n, m, t))

pub returns : goal.returns
returns c =
    let fs = c.args.flats.now.items in
    let place = c.args.place in
    let n = code_long fs in
    let m = c.len.ensures in
    let t = c.if-place-len.false in
    let l : place < length fs = omega (arith, m, t) in
    let within : place < length (code_of fs) = omega (arith, n, l) in
    visited (code_of fs) place c.args.waiting.now.items c.args.marks.now.items c.mark.new.marks.items c.mark-2.new.marks.items c.mark.new.waiting.items c.mark-2.new.waiting.items
    (placed place (seen c.index.result.now)) c.in_ok-step.step.next c.in_ok-step.step.jump within (code_at fs place c.index.result.now l c.index.ensures) c.in_ok-step.ensures.ways c.in_ok-mark.ensures c.in_ok-mark-2.ensures
