use Rattle.std.proofs.Common.{◌-◌, sym, ◌∙◌, arith}
use Rattle.dy_classes.proofs.Getters.{found_front}
use Rattle.dy_classes.proofs.legal.repeated_getter.Goals as goal

pub returns-then-is_some : goal.returns-then-is_some
returns-then-is_some c =
    found_front c.args.program.now c.args.classes.now (c.loop-place.place - 1) c.loop-place.place _ c.in_ok-found.found c.loop-place.seen.items c.add_getters.new.seen.items c.slots_of.result.now
    (omega arith) (omega arith) c.loop-place.invariant.same c.slots_of.ensures (sym c.is_some.ensures ∙ c.if-is_some.true) c.in_ok-found.ensures
