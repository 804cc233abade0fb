use Rattle.std.proofs.Common.{◌≡◌, ◌++◌, drop, map, slice_get}
use Rattle.dy_built_in_exports.specs.Names.{folded_rows}
use Rattle.dy_built_in_exports.proofs.exports.sorted_names.Given as goal

abbrev pub invariant-loop-place : goal.invariant-loop-place
invariant-loop-place l =
    l.list ++ folded_rows (map (slice_get l.names) (drop l.place-index l.place-items))
    ≡ folded_rows (map (slice_get l.names) l.place-items)
