use Rattle.std.proofs.Common.{◌≡◌, map, take}
use Rattle.dy_keys.specs.Keys.{name_of}
use Rattle.dy_lower_lists.proofs.copies.copy_names.Given as goal

abbrev pub invariant-loop-key : goal.invariant-loop-key
invariant-loop-key l = l.names ≡ map name_of (take l.key-index l.keys)
