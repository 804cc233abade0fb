use Rattle.std.proofs.Common.{◌≡◌, ◌+◌, ◌++◌, [], drop, take, map, length, replicate}
use Rattle.dy_module_numbers.specs.Options.{with_names, set_of, member_name}
use Rattle.dy_module_numbers.proofs.options.set_of_members.Given as goal

abbrev pub invariant-loop-member : goal.invariant-loop-member
invariant-loop-member l = with_names l.set (map member_name (drop l.member-index l.members)) ≡ set_of (map member_name l.members)
