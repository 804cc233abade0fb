use Rattle.std.proofs.Common.{◌≡◌, ◌+◌, ◌++◌, [], drop, take, map, length, replicate}
use Rattle.dy_module_numbers.specs.Options.{prefix}
use Rattle.dy_module_numbers.proofs.options.prefix.Given as goal

abbrev pub invariant-loop-option : goal.invariant-loop-option
invariant-loop-option l = prefix (drop l.option-index l.options) ≡ prefix l.options
