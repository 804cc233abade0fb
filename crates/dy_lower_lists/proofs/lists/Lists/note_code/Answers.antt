use Rattle.std.proofs.Common.{◌≡◌, ◌<◌, length, arith}
use Rattle.dy_lower_parts.specs.Seen.{seen_code}
use Rattle.dy_lower_lists.specs.Listed.{tables}
use Rattle.dy_lower_lists.proofs.Looped.{noted_first, noted_more, noted_all}
use Rattle.dy_lower_lists.proofs.lists.Lists.note_code.Goals as goal

pub loop-index-init : goal.loop-index-init
loop-index-init c = noted_first (tables c.args.self.now) c.flats-flats.result.now.items

pub loop-index-preserved : goal.loop-index-preserved
loop-index-preserved c =
    let fs = c.flats-flats.result.now.items in
    let t = c.loop-index-test.true in
    let e = c.len-index-end.ensures in
    let within : c.loop-index.index < length fs = omega (arith, t, e) in
    noted_more (tables c.args.self.now) (tables c.loop-index.self) (tables c.note.new.self) fs c.loop-index.index c.index.result.now within c.index.ensures c.loop-index.invariant c.in_ok-note.ensures

pub returns : goal.returns
returns c =
    let fs = c.flats-flats.result.now.items in
    let t = c.loop-index-test.false in
    let b = c.loop-index.auto.index-end in
    let e = c.len-index-end.ensures in
    let all : c.loop-index.index ≡ length fs = omega (arith, t, b, e) in
    noted_all (tables c.args.self.now) (tables c.loop-index.self) fs (seen_code c.args.code.now) c.loop-index.index all c.flats-flats.ensures c.loop-index.invariant
