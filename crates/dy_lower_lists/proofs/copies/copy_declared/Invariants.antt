use Rattle.std.proofs.Common.{◌≡◌, map, take}
use Rattle.dy_keys.specs.Keys.{type_of}
use Rattle.dy_lower_lists.proofs.copies.copy_declared.Given as goal

abbrev pub invariant-loop-key : goal.invariant-loop-key
invariant-loop-key l = l.types ≡ map type_of (take l.key-index l.keys)
