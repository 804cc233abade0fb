use Rattle.std.proofs.Common.{◌≡◌, ◌+◌, ◌++◌, [], drop, take, map, length, replicate}
use Rattle.dy_module_numbers.specs.Options.{exported}
use Rattle.dy_module_numbers.proofs.options.exported.Given as goal

abbrev pub invariant-loop-option : goal.invariant-loop-option
invariant-loop-option l = exported (drop l.option-index l.options) ≡ exported l.options
