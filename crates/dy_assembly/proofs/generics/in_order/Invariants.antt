use Rattle.std.proofs.Common.{◌≡◌, map}
use Rattle.dy_assembly.proofs.generics.in_order.Given as goal

abbrev pub invariant-loop-number : goal.invariant-loop-number
invariant-loop-number l = l.all ≡ map (λ e. e.1) l.yielded
