use Rattle.std.proofs.Common.{◌≡◌, ◌+◌, ◌++◌, [], drop, take, map, length, replicate}
use Rattle.dy_module_numbers.specs.Options.{imported}
use Rattle.dy_module_numbers.proofs.options.imported.Given as goal

abbrev pub invariant-loop-option : goal.invariant-loop-option
invariant-loop-option l = imported (drop l.option-index l.options) ≡ imported l.options
