use Rattle.std.proofs.Common.{◌≡◌, drop}
use Rattle.dy_module_numbers.specs.Options.{with_names}
use Rattle.dy_doubled.specs.Doubled.{brought_names}
use Rattle.dy_doubled.proofs.imported.add_modules.Given as goal

abbrev pub invariant-loop-name : goal.invariant-loop-name
invariant-loop-name l =
    with_names l.fn.set (brought_names l.u l.modules)
    ≡ with_names l.set (brought_names l.u (drop l.name-index l.modules))
