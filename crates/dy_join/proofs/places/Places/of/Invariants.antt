use Rattle.std.proofs.Common.{◌≡◌, map, take}
use Rattle.dy_join.specs.Numbering.{place_by}
use Rattle.dy_join.proofs.places.Places.of.Given as goal

abbrev pub invariant-loop-used : goal.invariant-loop-used
invariant-loop-used l = l.of_view
    ≡ map (place_by l.names) (map (λ used. used.0) (take l.used-index l.used-items))
