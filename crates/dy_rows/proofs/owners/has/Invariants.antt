use Rattle.std.proofs.Common.{◌≡◌, drop}
use Rattle.dy_rows.specs.Rows.{has}
use Rattle.dy_rows.proofs.owners.has.Given as goal

abbrev pub invariant-loop-adjective : goal.invariant-loop-adjective
invariant-loop-adjective l =
    has l.text l.adjective-items ≡ has l.text (drop l.adjective-index l.adjective-items)
