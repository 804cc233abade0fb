use Rattle.std.proofs.Common.{◌≡◌, ℕ, ◌<◌, ◌≤◌, length, Some, slice_get}
use Rattle.dy_tree.specs.declared.token.Token.{Token}
use Rattle.dy_complete_forms.proofs.ends.last_from.Given as goal

abbrev pub invariant-loop-left : goal.invariant-loop-left
invariant-loop-left l = record {
  within : l.left ≤ length l.tokens;
  last : (i : ℕ) (t : Token) → slice_get l.tokens i ≡ Some t → t.place.offset ≡ l.offset → i < l.left;
}

abbrev pub decreases-loop-left : goal.decreases-loop-left
decreases-loop-left l = l.left
