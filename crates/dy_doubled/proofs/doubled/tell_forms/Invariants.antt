use Rattle.std.proofs.Common.{◌≡◌, drop, []}
use Rattle.dy_doubled.specs.Passes.{told_all}
use Rattle.dy_doubled.proofs.doubled.tell_forms.Given as goal

abbrev pub invariant-loop-form : goal.invariant-loop-form
invariant-loop-form l =
    told_all [] l.fn.taken l.forms ≡ told_all l.faults l.taken (drop l.form-index l.forms)
