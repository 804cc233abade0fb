use Rattle.std.proofs.Common.{map, drop}
use Rattle.dy_modules.specs.Order.{Turns}
use Rattle.dy_modules.proofs.rounds.round.Given as goal

abbrev pub invariant-loop-m : goal.invariant-loop-m
invariant-loop-m l = Turns l.fn.forms l.fn.todo (drop l.m-index l.fn.todo) l.m-index l.fn.done.items l.done.items l.left.items
