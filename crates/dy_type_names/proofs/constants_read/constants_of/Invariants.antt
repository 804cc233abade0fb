use Rattle.std.proofs.Common.{◌≡◌, ◌++◌, map, drop}
use Rattle.dy_term.specs.Rows.{seen_draft}
use Rattle.dy_type_names.specs.Constants.{constants_of}
use Rattle.dy_type_names.specs.RowTables.{seen_constant}
use Rattle.dy_type_names.proofs.constants_read.constants_of.Given as goal

abbrev pub invariant-loop-place : goal.invariant-loop-place
invariant-loop-place l =
    map seen_constant l.constants.items ++ constants_of (map (λ f. (f.0, seen_draft f.1)) (drop l._place-index l.forms))
    ≡ constants_of (map (λ f. (f.0, seen_draft f.1)) l.forms)
