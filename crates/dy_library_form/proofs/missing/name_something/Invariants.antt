use Rattle.std.proofs.Common.{◌≡◌, drop}
use Rattle.std.specs.List.{list_any}
use Rattle.dy_library_form.specs.Told.{names_something}
use Rattle.dy_library_form.proofs.missing.name_something.Given as goal

abbrev pub invariant-loop-option : goal.invariant-loop-option
invariant-loop-option l = list_any names_something (drop l.option-index l.options) ≡ list_any names_something l.options
