use Rattle.std.proofs.Common.{◌≡◌}
use Rattle.dy_meaning.specs.Layouts.{from}
use Rattle.dy_lower_library.proofs.starts.starts_of.Given as goal

abbrev pub invariant-loop-number : goal.invariant-loop-number
invariant-loop-number l = l.starts.items ≡ from 0 l.number
