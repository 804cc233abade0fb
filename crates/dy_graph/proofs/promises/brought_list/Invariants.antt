use Rattle.std.proofs.Common.{◌≡◌, [], drop}
use Rattle.dy_graph.specs.Judged.{new_rows}
use Rattle.dy_graph.proofs.promises.brought_list.Given as goal

abbrev pub invariant-loop-place : goal.invariant-loop-place
invariant-loop-place l = new_rows l.u l.list (drop l.place l.table) ≡ new_rows l.fn.u [] l.fn.table
