use Rattle.std.proofs.Common.{◌≡◌, drop}
use Rattle.dy_module_numbers.specs.Sorting.{libraries}
use Rattle.dy_doubled.proofs.doubled.library_form.Given as goal

abbrev pub invariant-loop-form : goal.invariant-loop-form
invariant-loop-form l = libraries l.forms ≡ libraries (drop l.form-index l.forms)
