use Rattle.std.proofs.Common.{◌≡◌, map, drop}
use Rattle.dy_term.specs.Rows.{seen_draft}
use Rattle.dy_library_rows.specs.Names.{with_forms, exports, no_rows}
use Rattle.dy_library_rows.specs.Seen.{seen_names}
use Rattle.dy_library_rows.proofs.names.names_of.Given as goal

abbrev pub invariant-loop-place : goal.invariant-loop-place
invariant-loop-place l =
    with_forms (map (λ f. seen_draft f.1) l.forms) (exports, no_rows)
    ≡ with_forms (map (λ f. seen_draft f.1) (drop l._place-index l.forms))
    (seen_names l.names)
