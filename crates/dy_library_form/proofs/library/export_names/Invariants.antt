use Rattle.std.proofs.Common.{◌≡◌, drop}
use Rattle.dy_library_form.specs.Library.{shown_names}
use Rattle.dy_library_form.proofs.library.export_names.Given as goal

abbrev pub invariant-loop-name : goal.invariant-loop-name
invariant-loop-name l = shown_names l.naming.own l.naming.imported l.shown (drop l.name-index l.names) ≡ shown_names l.naming.own l.naming.imported l.fn.shown l.names
