use Rattle.std.proofs.Common.{◌≡◌, ℕ, ◌<◌}
use Rattle.dy_module_numbers.specs.Rings.{Leads}
use Rattle.dy_graph.proofs.judging.tell_ring.Given as goal

-- no module so far stands on a ring, and nothing is told
abbrev pub invariant-loop-number : goal.invariant-loop-number
invariant-loop-number l = record {
  free : (k : ℕ) → k < l.number → Leads l.made.modules.now k k → ⊥;
  same : l.found ≡ l.fn.found;
}
