use Rattle.std.proofs.Common.{◌≡◌, ℕ, ◌++◌, drop}
use Rattle.dy_meaning.specs.Layouts.{Layout}
use Rattle.dy_layouts.specs.Views.{seen_layout}
use Rattle.dy_lowered.specs.Turns.{all_operands, bindings}
use Rattle.dy_lower_parts.specs.Seen.{seen_code}
use Rattle.dy_lower_turns.specs.ClauseCode.{clauses_code}
use Rattle.dy_lower_turns.proofs.clauses.put_bindings.Given as goal

abbrev pub invariant-loop-index : goal.invariant-loop-index
invariant-loop-index l = record {
  place : (layout : Layout) (n : ℕ) → l.place ≡ all_operands (clauses_code layout (drop l.index l.all) n);
  code : (n : ℕ) → seen_code l.code ≡ bindings (clauses_code (seen_layout l.layout) (drop l.index l.all) n) ++ seen_code l.fn.code;
}
