use Rattle.std.proofs.Common.{◌≡◌, ◌+◌, ◌++◌, [], drop, take, map, length, replicate}
use Rattle.dy_module_numbers.specs.Options.{renamed}
use Rattle.dy_module_numbers.proofs.options.renamed.Given as goal

abbrev pub invariant-loop-option : goal.invariant-loop-option
invariant-loop-option l = renamed (drop l.option-index l.options) ≡ renamed l.options
