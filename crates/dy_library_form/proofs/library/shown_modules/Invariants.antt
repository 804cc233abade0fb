use Rattle.std.proofs.Common.{◌≡◌, [], drop}
use Rattle.dy_library_form.specs.Library.{shown_modules}
use Rattle.dy_library_form.proofs.library.shown_modules.Given as goal

abbrev pub invariant-loop-placed : goal.invariant-loop-placed
invariant-loop-placed l = shown_modules l.used.exports.now l.used.libraries.now l.naming.own l.naming.imported l.shown (drop l.placed-index l.placed-items) ≡ shown_modules l.used.exports.now l.used.libraries.now l.naming.own l.naming.imported [] l.form.clauses
