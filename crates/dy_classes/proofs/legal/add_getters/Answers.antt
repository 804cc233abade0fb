use Rattle.std.proofs.Common.{◌≡◌, true, false, sym, ap, ◌∙◌}
use Rattle.dy_classes.specs.Search.{has_generic}
use Rattle.dy_classes.proofs.Getters.{repeats, seen_more, seen_once}
use Rattle.dy_classes.proofs.legal.add_getters.Goals as goal

pub returns-then-is_among : goal.returns-then-is_among
returns-then-is_among c =
    let t : has_generic c.slot-item.result.getter c.loop-slot.seen.items ≡ true =
    sym (ap (has_generic c.slot-item.result.getter) c.as_slice.ensures.value) ∙ sym c.is_among.ensures ∙ c.if-is_among.true in
    repeats c.args.seen.now.items c.loop-slot.seen.items c.args.slots.now c.loop-slot.slot-index c.slot-item.result c.loop-slot-test.true c.slot-item.is c.loop-slot.invariant.same c.loop-slot.invariant.once t

pub loop-slot-preserved : goal.loop-slot-preserved
loop-slot-preserved c =
    let f : has_generic c.slot-item.result.getter c.loop-slot.seen.items ≡ false =
    sym (ap (has_generic c.slot-item.result.getter) c.as_slice.ensures.value) ∙ sym c.is_among.ensures ∙ c.if-is_among.false in
    record {
      same = seen_more c.args.seen.now.items c.loop-slot.seen.items c.args.slots.now c.loop-slot.slot-index c.slot-item.result c.loop-slot-test.true c.slot-item.is c.loop-slot.invariant.same c.loop-slot.invariant.once
          c.push.new.self.items c.in_ok-push.ensures.items;
      once = seen_once c.args.seen.now.items c.loop-slot.seen.items c.args.slots.now c.loop-slot.slot-index c.slot-item.result c.loop-slot-test.true c.slot-item.is c.loop-slot.invariant.same c.loop-slot.invariant.once
          c.push.new.self.items c.in_ok-push.ensures.items f;
    }
