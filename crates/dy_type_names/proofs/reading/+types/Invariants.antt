use Rattle.std.proofs.Common.{◌≡◌, map, drop, None}
use Rattle.dy_term.specs.Types.{seen_type, types_of}
use Rattle.dy_type_names.specs.Members.{read_parts}
use Rattle.dy_type_names.specs.Readings.{read_on}
use Rattle.dy_type_names.specs.Standings.{standing_in}
use Rattle.dy_type_names.proofs.reading.+types.Given as goal

abbrev pub invariant-read_union-loop-part : goal.invariant-read_union-loop-part
invariant-read_union-loop-part g l = record {
  read : read_on l.reading (read_parts (standing_in l.types) (g.E.Environment.outside l.names).owner l.scope (types_of (map seen_type (drop l.part-index l.part-items))))
      ≡ read_on (record { members = l.fn.reading.members; first = None })
      (read_parts (standing_in l.types) (g.E.Environment.outside l.names).owner l.scope (types_of (map seen_type l.part-items)));
  first : l.first ≡ l.fn.reading.first;
}
