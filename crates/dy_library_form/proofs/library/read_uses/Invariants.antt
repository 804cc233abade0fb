use Rattle.std.proofs.Common.{◌≡◌, ◌+◌, ◌++◌, [], drop, take, map, length, replicate}
use Rattle.dy_library_form.specs.Library.{after_clauses, nothing_read}
use Rattle.dy_library_form.proofs.library.read_uses.Given as goal

abbrev pub invariant-loop-placed : goal.invariant-loop-placed
invariant-loop-placed l = after_clauses l.used.exports.now l.used.libraries.now l.used.forms.now (drop l.placed-index l.placed-items) l.reading ≡ after_clauses l.used.exports.now l.used.libraries.now l.used.forms.now l.form.clauses nothing_read
