use Rattle.std.proofs.Common.{map, Ok}
use Rattle.dy_verdict.specs.Trees.{AreGrouped, seen_file}
use Rattle.dy_verdict.proofs.groups.group_files.Given as goal

abbrev pub invariant-loop-tokens : goal.invariant-loop-tokens
invariant-loop-tokens l = AreGrouped l.words l.yielded (Ok (map seen_file l.trees.items))
