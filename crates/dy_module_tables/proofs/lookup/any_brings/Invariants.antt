use Rattle.std.proofs.Common.{◌≡◌, drop}
use Rattle.dy_module_tables.specs.Looking.{any_brings}
use Rattle.dy_module_tables.proofs.lookup.any_brings.Given as goal

abbrev pub invariant-loop-u : goal.invariant-loop-u
invariant-loop-u l = any_brings (drop l.u-index l.uses) l.source l.a l.n ≡ any_brings l.fn.uses l.fn.source l.fn.a l.fn.n
