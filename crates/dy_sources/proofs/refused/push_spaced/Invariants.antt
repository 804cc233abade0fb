use Rattle.std.proofs.Common.{◌≡◌, ◌++◌, drop}
use Rattle.dy_sources.specs.Refusals.{spaced}
use Rattle.dy_sources.proofs.refused.push_spaced.Given as goal

abbrev pub invariant-loop-item : goal.invariant-loop-item
invariant-loop-item l = l.line.items ++ spaced (drop l.item-index l.items) ≡ l.fn.line.items ++ spaced l.items
