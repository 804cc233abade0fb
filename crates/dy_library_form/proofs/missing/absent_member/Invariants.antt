use Rattle.std.proofs.Common.{◌≡◌, ◌+◌, ◌++◌, [], drop, take, map, length, replicate}
use Rattle.dy_library_form.specs.Told.{absent_member}
use Rattle.dy_library_form.proofs.missing.absent_member.Given as goal

abbrev pub invariant-loop-member : goal.invariant-loop-member
invariant-loop-member l = absent_member l.set (drop l.member-index l.members) ≡ absent_member l.set l.members
