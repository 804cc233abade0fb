use Rattle.std.proofs.Common.{◌≡◌, ℕ, ◌+◌, ◌≤◌, List, length}
use Rattle.dy_lexer.specs.Headers.{Line, Lines}
use Rattle.dy_lid_files.specs.Names.{names_in, continuing}
use Rattle.dy_lid_files.proofs.names.continuing_names.Given as goal

abbrev pub invariant-loop-rest : goal.invariant-loop-rest
invariant-loop-rest l = record {
  within : l.count + length l.rest ≤ length l.fn.text;
  left : (at : ℕ) (lines : List Line) (end : ℕ) (body : List ℕ) → Lines at l.fn.text lines end body
      → (place : ℕ) × (more : List Line) × Lines place l.rest more end body × (names_in (continuing lines) ≡ l.count + names_in (continuing more));
}

abbrev pub decreases-loop-rest : goal.decreases-loop-rest
decreases-loop-rest l = length l.rest
