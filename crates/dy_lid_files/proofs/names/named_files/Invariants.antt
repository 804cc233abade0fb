use Rattle.std.proofs.Common.{◌≡◌, ℕ, List, length}
use Rattle.dy_lexer.specs.Headers.{Line, Lines}
use Rattle.dy_lid_files.specs.Names.{files_value}
use Rattle.dy_lid_files.proofs.names.named_files.Given as goal

abbrev pub invariant-loop-rest : goal.invariant-loop-rest
invariant-loop-rest l = (at : ℕ) (lines : List Line) (end : ℕ) (body : List ℕ) → Lines at l.fn.text lines end body
    → (place : ℕ) × (more : List Line) × Lines place l.rest more end body × (files_value lines ≡ files_value more)

abbrev pub decreases-loop-rest : goal.decreases-loop-rest
decreases-loop-rest l = length l.rest
