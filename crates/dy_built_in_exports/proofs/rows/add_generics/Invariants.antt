use Rattle.std.proofs.Common.{◌≡◌, map, drop}
use Rattle.dy_base.specs.declared.ids.What.TheVariants as whats
use Rattle.dy_built_in_exports.specs.Names.{with_rows}
use Rattle.dy_built_in_exports.proofs.rows.add_generics.Given as goal

abbrev pub invariant-loop-generic : goal.invariant-loop-generic
invariant-loop-generic l =
    with_rows l.library whats.Generic 0 (map (λ r. r.name) l.generics) l.fn.list
    ≡ with_rows l.library whats.Generic l.next (map (λ r. r.name) (drop l.generic-index l.generics)) l.list
