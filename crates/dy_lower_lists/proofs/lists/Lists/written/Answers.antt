use Rattle.std.proofs.Common.{◌≡◌, ◌<◌, length, ◌∙◌, arith}
use Rattle.dy_lower_parts.specs.Seen.{seen_code}
use Rattle.dy_lower_lists.specs.Listed.{tables}
use Rattle.dy_lower_lists.proofs.Looped.{written_more, written_all}
use Rattle.dy_lower_lists.proofs.lists.Lists.written.Goals as goal

pub loop-place-init : goal.loop-place-init
loop-place-init c = c.new-instructions.ensures.items

pub loop-place-preserved : goal.loop-place-preserved
loop-place-preserved c =
    let fs = c.flats-flats.result.now.items in
    let t = c.loop-place-test.true in
    let e = c.len-place-end.ensures in
    let within : c.loop-place.place < length fs = omega (arith, t, e) in
    written_more (tables c.args.self.now) fs c.loop-place.place c.index.result.now c.loop-place.instructions.items _ c.in_ok-instruction.instruction within c.index.ensures c.loop-place.invariant c.in_ok-instruction.ensures c.in_ok-push.ensures.items

pub returns : goal.returns
returns c =
    let fs = c.flats-flats.result.now.items in
    let t = c.loop-place-test.false in
    let b = c.loop-place.auto.place-end in
    let e = c.len-place-end.ensures in
    let all : c.loop-place.place ≡ length fs = omega (arith, t, b, e) in
    c.from_vec.ensures ∙ written_all (tables c.args.self.now) fs (seen_code c.args.code.now) c.loop-place.place c.loop-place.instructions.items all c.flats-flats.ensures c.loop-place.invariant
