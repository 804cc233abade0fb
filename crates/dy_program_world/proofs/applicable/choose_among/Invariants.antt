use Rattle.std.proofs.Common.{◌≡◌, ◌++◌, drop}
use Rattle.std.specs.List.{filter}
use Rattle.dy_program_world.specs.Steady.{is_applicable}
use Rattle.dy_program_world.proofs.applicable.choose_among.Given as goal

abbrev pub invariant-loop-method : goal.invariant-loop-method
invariant-loop-method l =
    filter (is_applicable l.program l.store l.generic l.values) l.methods
    ≡ l.found.items ++ filter (is_applicable l.program l.store l.generic l.values)
    (drop l.method-index l.methods)
