use Rattle.std.proofs.Common.{◌≡◌, map, take}
use Rattle.dy_join.specs.Numbering.{HoldsPlaces}
use Rattle.dy_join.proofs.places.Names.of.Given as goal

-- the units so far have their places
abbrev pub invariant-loop-unit : goal.invariant-loop-unit
invariant-loop-unit l = record {
  count : l.count ≡ l.unit-index;
  held : HoldsPlaces l.places (map (λ unit. unit.name) (take l.unit-index l.units));
}
