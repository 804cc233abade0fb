use Rattle.std.proofs.Common.{◌≡◌, ◌++◌, map, take}
use Rattle.dy_tree.specs.Fragments.{one, seen_fragments}
use Rattle.dy_write_parts.proofs.names.push_adjectives.Given as goal

abbrev pub invariant-loop-name : goal.invariant-loop-name
invariant-loop-name l = seen_fragments l.out.items ≡ seen_fragments l.fn.out.items ++ map one (take l.name-index l.name-items)
