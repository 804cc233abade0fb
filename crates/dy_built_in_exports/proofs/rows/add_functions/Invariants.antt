use Rattle.std.proofs.Common.{◌≡◌, map, drop}
use Rattle.dy_base.specs.declared.ids.What.TheVariants as whats
use Rattle.dy_built_in_exports.specs.Names.{with_rows}
use Rattle.dy_built_in_exports.proofs.rows.add_functions.Given as goal

abbrev pub invariant-loop-function : goal.invariant-loop-function
invariant-loop-function l =
    with_rows l.library whats.Function 0 (map (λ r. r.name) l.functions) l.fn.list
    ≡ with_rows l.library whats.Function l.next (map (λ r. r.name) (drop l.function-index l.functions)) l.list
