use Rattle.std.proofs.Common.{◌≡◌, ℕ, ◌≤◌, true, List, length}
use Rattle.dy_tree.specs.Fragments.{SeenFragment}
use Rattle.dy_complete_forms.specs.Forms.{ends_at, AreForms}
use Rattle.dy_complete_forms.proofs.complete.complete_forms.Given as goal

abbrev pub invariant-loop-forms : goal.invariant-loop-forms
invariant-loop-forms l = record {
  within : l.end ≤ length l.tokens;
  ended : ends_at l.tokens l.end ≡ true;
  most : (other : ℕ) (others : List SeenFragment) → AreForms l.words l.tokens other others → other ≤ l.end;
}

abbrev pub decreases-loop-forms : goal.decreases-loop-forms
decreases-loop-forms l = l.end
