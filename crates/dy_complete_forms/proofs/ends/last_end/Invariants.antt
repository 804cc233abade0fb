use Rattle.std.proofs.Common.{◌≡◌, ℕ, ◌≤◌, true}
use Rattle.dy_complete_forms.specs.Forms.{ends_at}
use Rattle.dy_complete_forms.proofs.ends.last_end.Given as goal

abbrev pub invariant-loop-end : goal.invariant-loop-end
invariant-loop-end l = record {
  within : l.end ≤ l.count;
  last : (other : ℕ) → other ≤ l.count → ends_at l.tokens other ≡ true → other ≤ l.end;
}

abbrev pub decreases-loop-end : goal.decreases-loop-end
decreases-loop-end l = l.end
