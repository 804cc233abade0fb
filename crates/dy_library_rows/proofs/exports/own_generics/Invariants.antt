use Rattle.std.proofs.Common.{◌≡◌, map, drop}
use Rattle.dy_base.specs.declared.ids.What.TheVariants as whats
use Rattle.dy_names.specs.Tables.{owner_in}
use Rattle.dy_library_rows.specs.Names.{owning}
use Rattle.dy_library_rows.proofs.exports.own_generics.Given as goal

abbrev pub invariant-loop-generic : goal.invariant-loop-generic
invariant-loop-generic l =
    owning l.library whats.Generic 0 (map (λ r. r.name) l.generics) (owner_in l.fn.owners)
    ≡ owning l.library whats.Generic l.rows
    (map (λ r. r.name) (drop l.generic-index l.generics)) (owner_in l.owners)
