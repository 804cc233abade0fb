use Rattle.std.proofs.Common.{◌≡◌, drop}
use Rattle.dy_modules.specs.Order.{is_ready}
use Rattle.dy_modules.proofs.rounds.is_ready.Given as goal

abbrev pub invariant-loop-u : goal.invariant-loop-u
invariant-loop-u l = is_ready l.fn.done (drop l.u-index l.uses) ≡ is_ready l.fn.done l.fn.uses
