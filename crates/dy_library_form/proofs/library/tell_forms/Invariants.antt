use Rattle.std.proofs.Common.{◌≡◌, ◌++◌, drop}
use Rattle.dy_library_form.specs.Told.{misnamed, doubled}
use Rattle.dy_library_form.proofs.library.tell_forms.Given as goal

abbrev pub invariant-loop-form : goal.invariant-loop-form
invariant-loop-form l = l.found ++ doubled (drop l.form-index l.others) ≡ l.fn.found ++ (misnamed l.library l.first ++ doubled l.others)
