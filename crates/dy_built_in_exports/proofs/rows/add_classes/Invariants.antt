use Rattle.std.proofs.Common.{◌≡◌, map, drop}
use Rattle.dy_base.specs.declared.ids.What.TheVariants as whats
use Rattle.dy_built_in_exports.specs.Names.{with_rows}
use Rattle.dy_built_in_exports.proofs.rows.add_classes.Given as goal

abbrev pub invariant-loop-class : goal.invariant-loop-class
invariant-loop-class l =
    with_rows l.library whats.Class 0 (map (λ r. r.name) l.classes) l.fn.list
    ≡ with_rows l.library whats.Class l.next (map (λ r. r.name) (drop l.class-index l.classes)) l.list
