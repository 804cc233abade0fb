use Rattle.std.proofs.Common.{◌≡◌, [], drop}
use Rattle.dy_base.specs.Tables.{names}
use Rattle.dy_module_numbers.specs.Options.{with_names}
use Rattle.dy_graph.proofs.judging.names_of.Given as goal

abbrev pub invariant-loop-place : goal.invariant-loop-place
invariant-loop-place l = with_names l.set (names (drop l.place l.table)) ≡ with_names [] (names l.fn.table)
