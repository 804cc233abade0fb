use Rattle.std.proofs.Common.{◌≡◌, ◌++◌, map, take}
use Rattle.dy_tree.specs.Fragments.{seen_fragments}
use Rattle.dy_rules.specs.TypeWriting.{written_bounds}
use Rattle.dy_rules.specs.SeenTypes.{seen_bound}
use Rattle.dy_write_parts.proofs.literals.push_bounds.Given as goal

abbrev pub invariant-loop-bound : goal.invariant-loop-bound
invariant-loop-bound l = seen_fragments l.out.items ≡ seen_fragments l.fn.out.items ++ written_bounds (map seen_bound (take l.bound-index l.bound-items))
