use Rattle.std.proofs.Common.{◌≡◌, map, drop}
use Rattle.dy_base.specs.declared.ids.What.TheVariants as whats
use Rattle.dy_names.specs.Tables.{owner_in}
use Rattle.dy_library_rows.specs.Names.{owning}
use Rattle.dy_library_rows.proofs.exports.own_functions.Given as goal

abbrev pub invariant-loop-function : goal.invariant-loop-function
invariant-loop-function l =
    owning l.library whats.Function 0 (map (λ r. r.name) l.functions) (owner_in l.fn.owners)
    ≡ owning l.library whats.Function l.rows
    (map (λ r. r.name) (drop l.function-index l.functions)) (owner_in l.owners)
