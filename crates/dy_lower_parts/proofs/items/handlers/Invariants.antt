use Rattle.std.proofs.Common.{◌≡◌, drop}
use Rattle.dy_lower_parts.specs.Seen.{handlers_behind}
use Rattle.dy_lower_parts.proofs.items.handlers.Given as goal

abbrev pub invariant-loop-item : goal.invariant-loop-item
invariant-loop-item l = handlers_behind 0 l.item-items ≡ handlers_behind l.count (drop l.item-index l.item-items)
