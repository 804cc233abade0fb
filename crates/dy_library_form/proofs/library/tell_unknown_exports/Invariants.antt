use Rattle.std.proofs.Common.{◌≡◌, ◌+◌, ◌++◌, [], drop, take, map, length, replicate}
use Rattle.dy_library_form.specs.Library.{unknown_exports}
use Rattle.dy_library_form.proofs.library.tell_unknown_exports.Given as goal

abbrev pub invariant-loop-placed : goal.invariant-loop-placed
invariant-loop-placed l = l.found ++ unknown_exports l.naming.own l.naming.imported (drop l.placed-index l.placed-items) ≡ l.fn.found ++ unknown_exports l.naming.own l.naming.imported l.form.clauses
