use Rattle.std.proofs.Common.{◌≡◌, ◌++◌, take}
use Rattle.dy_type_names.proofs.reading.Reading.add_all.Given as goal

abbrev pub invariant-loop-member : goal.invariant-loop-member
invariant-loop-member l = l.self ≡ record { members = l.fn.self.members ++ take l.member-index l.members; first = l.fn.self.first }
