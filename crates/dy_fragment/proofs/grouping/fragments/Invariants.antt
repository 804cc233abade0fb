use Rattle.std.proofs.Common.{◌≡◌, ℕ, ◌+◌, ◌-◌, ◌≤◌, length}
use Rattle.dy_fragment.specs.Steps.{seen_state, run, group_of}
use Rattle.dy_fragment.proofs.grouping.fragments.Given as goal

abbrev pub invariant-loop-state : goal.invariant-loop-state
invariant-loop-state l = record {
  within : l.state.at ≤ length l.tokens;
  same : (n : ℕ) × (length l.tokens ≤ n + l.state.at) × (group_of l.words l.tokens ≡ run 200 l.words l.tokens n (seen_state l.state));
}

abbrev pub decreases-loop-state : goal.decreases-loop-state
decreases-loop-state l = length l.tokens - l.state.at
