use Rattle.std.proofs.Common.{◌≡◌, ◌++◌, ◌∷◌, [], take, flat_map}
use Rattle.dy_printing.specs.Escapes.{escaped_byte}
use Rattle.dy_printing.proofs.escape.write_quoted.Given as goal

abbrev pub invariant-loop-byte : goal.invariant-loop-byte
invariant-loop-byte l = l.into.items ≡ l.initial.into.items ++ flat_map (escaped_byte l.quote) (take l.byte-index l.bytes)
