use Rattle.std.proofs.Common.{◌≡◌, ◌+◌, ◌++◌, [], drop, take, map, length, replicate}
use Rattle.dy_module_numbers.specs.Options.{excluded}
use Rattle.dy_module_numbers.proofs.options.excluded.Given as goal

abbrev pub invariant-loop-option : goal.invariant-loop-option
invariant-loop-option l = excluded (drop l.option-index l.options) ≡ excluded l.options
