use Rattle.std.proofs.Common.{◌≡◌, ◌+◌, ◌++◌, [], drop, take, map, length, replicate}
use Rattle.dy_library_form.specs.Library.{unknown_name}
use Rattle.dy_library_form.proofs.library.unknown_name.Given as goal

abbrev pub invariant-loop-name : goal.invariant-loop-name
invariant-loop-name l = unknown_name l.naming.own l.naming.imported (drop l.name-index l.names) ≡ unknown_name l.naming.own l.naming.imported l.names
