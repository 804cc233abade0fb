use Rattle.std.proofs.Common.{◌≡◌, ◌++◌, take}
use Rattle.dy_classes.specs.Lists.{Once}
use Rattle.dy_classes.specs.Legal.{getters_of}
use Rattle.dy_classes.proofs.legal.add_getters.Given as goal

abbrev pub invariant-loop-slot : goal.invariant-loop-slot
invariant-loop-slot l =
    record {
      same : l.seen.items ≡ l.fn.seen.items ++ getters_of (take l.slot-index l.slots);
      once : Once l.seen.items;
    }
