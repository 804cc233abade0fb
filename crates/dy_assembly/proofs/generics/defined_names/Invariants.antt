use Rattle.std.proofs.Common.{◌≡◌, ◌++◌, map, drop, flat_map}
use Rattle.dy_term.specs.Rows.{seen_draft}
use Rattle.dy_assembly.specs.Generics.{defined_by}
use Rattle.dy_assembly.specs.Seen.{seen_token}
use Rattle.dy_assembly.proofs.generics.defined_names.Given as goal

abbrev pub invariant-loop-place : goal.invariant-loop-place
invariant-loop-place l =
    flat_map defined_by (map (λ f. seen_draft f.1) l.forms)
    ≡ map seen_token l.names.items
    ++ flat_map defined_by (map (λ f. seen_draft f.1) (drop l._place-index l.forms))
