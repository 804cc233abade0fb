use Rattle.std.proofs.Common.{◌≡◌, ◌+◌, ◌++◌, [], drop, take, map, length, replicate}
use Rattle.dy_library_form.specs.Told.{brought_after, brought_names}
use Rattle.dy_library_form.proofs.missing.brought_names.Given as goal

abbrev pub invariant-loop-place : goal.invariant-loop-place
invariant-loop-place l = brought_after l.u l.set (drop l.place l.exported) ≡ brought_names l.fn.u l.fn.exported
