-- How the method that precedes all others is found.
use Rattle.std.specs.Prelude.{ℕ, ◌<◌, List, slice_index_or}
use Rattle.dy_base.specs.declared.ids.MethodId.{MethodId}
use Rattle.dy_order.specs.Sorting.{IsFirst}

-- of the first n methods, the one at a place precedes all that follow it, and none before it precedes
-- all others of the whole list
pub record IsBest (P : MethodId → MethodId → Type 0) (ms : List MethodId) (n i : ℕ) : Type 0 where
  pub within : i < n
  pub follow : (k : ℕ) (d : MethodId) → i < k → k < n → P (slice_index_or ms i d) (slice_index_or ms k d)
  pub before : (k : ℕ) (d : MethodId) → k < i → IsFirst P ms (slice_index_or ms k d) → ⊥
