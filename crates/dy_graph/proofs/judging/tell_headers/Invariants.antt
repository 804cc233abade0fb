use Rattle.std.proofs.Common.{◌≡◌, ◌++◌, drop}
use Rattle.dy_library_form.specs.Told.{unknown_headers}
use Rattle.dy_graph.proofs.judging.tell_headers.Given as goal

abbrev pub invariant-loop-name : goal.invariant-loop-name
invariant-loop-name l = l.found ++ unknown_headers l.naming.own l.file (drop l.name-index l.headers) ≡ l.fn.found ++ unknown_headers l.naming.own 0 l.headers
