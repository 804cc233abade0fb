use Rattle.std.proofs.Common.{◌≡◌, ◌+◌, ◌++◌, [], drop, take, map, length, replicate}
use Rattle.dy_library_form.specs.Library.{clashing_after, clashing_list}
use Rattle.dy_library_form.proofs.library.clashing.Given as goal

abbrev pub invariant-loop-name : goal.invariant-loop-name
invariant-loop-name l = clashing_after l.list l.forms l.visible (drop l.name-index l.pairs) ≡ clashing_list l.forms l.visible l.pairs
