use Rattle.std.proofs.Common.{◌≡◌, map, drop, flat_map}
use Rattle.dy_term.specs.Rows.{seen_draft}
use Rattle.dy_assembly.specs.Generics.{made_by}
use Rattle.dy_assembly.specs.Gathered.{gathered}
use Rattle.dy_assembly.proofs.generics.offer_all_made.Given as goal

abbrev pub invariant-loop-place : goal.invariant-loop-place
invariant-loop-place g l =
    gathered l.library (g.E.Environment.outside l.environment).owner l.fn.rows.entries
    (flat_map made_by (map (λ f. seen_draft f.1) l.forms))
    ≡ gathered l.library (g.E.Environment.outside l.environment).owner l.rows.entries
    (flat_map made_by (map (λ f. seen_draft f.1) (drop l._place-index l.forms)))
