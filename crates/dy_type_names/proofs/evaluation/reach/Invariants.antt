use Rattle.std.proofs.Common.{◌≡◌, ◌≤◌, ◌-◌, length}
use Rattle.dy_base.specs.declared.ids.BindingId.{BindingId}
use Rattle.dy_type_names.specs.Standings.{rows_in, standing_in}
use Rattle.dy_type_names.proofs.evaluation.reach.Given as goal

abbrev pub invariant-loop-alloc : goal.invariant-loop-alloc
invariant-loop-alloc l = record {
  standing : (b : BindingId) → standing_in l.types b ≡ standing_in l.fn.types b;
  least : length (rows_in l.types) ≤ l.library;
}

abbrev pub decreases-loop-alloc : goal.decreases-loop-alloc
decreases-loop-alloc l = l.library - length (rows_in l.types)
