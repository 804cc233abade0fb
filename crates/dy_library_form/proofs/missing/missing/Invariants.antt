use Rattle.std.proofs.Common.{◌≡◌, ◌+◌, ◌++◌, [], drop, take, map, length, replicate}
use Rattle.dy_library_form.specs.Told.{missing}
use Rattle.dy_library_form.proofs.missing.missing.Given as goal

abbrev pub invariant-loop-option : goal.invariant-loop-option
invariant-loop-option l = missing l.exported l.brought (drop l.option-index l.options) ≡ missing l.exported l.brought l.options
