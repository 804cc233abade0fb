use Rattle.std.proofs.Common.{List, ◌++◌, vec_len}
use Rattle.dy_base.specs.declared.ids.MethodId.{MethodId}
use Rattle.dy_classes.specs.Lists.{Once}
use Rattle.dy_order.specs.Methods.{methods_of}
use Rattle.dy_order.specs.Precedence.{IsApplicable, Precedes}
use Rattle.dy_order.specs.Sorting.{Filtered, SortedInto}
use Rattle.dy_order.proofs.sorting.sorted.Given as goal

abbrev pub invariant-loop-place : goal.invariant-loop-place
invariant-loop-place l = record {
  all : List MethodId;
  filtered : Filtered (IsApplicable l.program l.fn.generic l.args) (methods_of l.program) all;
  once : Once l.rest.items;
  same : (taken left : List MethodId) → SortedInto (Precedes l.program l.args) l.rest.items taken left → SortedInto (Precedes l.program l.args) all (l.first.items ++ taken) left;
}

abbrev pub decreases-loop-place : goal.decreases-loop-place
decreases-loop-place l = vec_len l.rest
