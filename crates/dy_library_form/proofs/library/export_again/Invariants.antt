use Rattle.std.proofs.Common.{◌≡◌, drop}
use Rattle.dy_library_form.specs.Library.{shown_again}
use Rattle.dy_library_form.proofs.library.export_again.Given as goal

abbrev pub invariant-loop-place : goal.invariant-loop-place
invariant-loop-place l = shown_again l.u l.shown (drop l.place l.modules) ≡ shown_again l.fn.u l.fn.shown l.fn.modules
