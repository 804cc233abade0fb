use Rattle.std.proofs.Common.{◌≡◌, map}
use Rattle.dy_join.specs.Numbering.{joined, joined_row, place_by}
use Rattle.dy_join.proofs.units.link_units.Given as goal

abbrev pub invariant-loop-unit : goal.invariant-loop-unit
invariant-loop-unit l = record {
  rows : l.rows ≡ map (joined_row (place_by l.names)) l.yielded;
  codes : l.codes ≡ map (joined (place_by l.names)) l.yielded;
}
