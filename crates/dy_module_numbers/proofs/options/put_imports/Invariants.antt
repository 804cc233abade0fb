use Rattle.std.proofs.Common.{◌≡◌, ◌+◌, ◌++◌, [], drop, take, map, length, replicate}
use Rattle.dy_module_numbers.specs.Options.{with_imports}
use Rattle.dy_module_numbers.proofs.options.put_imports.Given as goal

abbrev pub invariant-loop-member : goal.invariant-loop-member
invariant-loop-member l = with_imports l.news (drop l.member-index l.members) ≡ with_imports l.fn.news l.members
