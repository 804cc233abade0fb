-- `while` and `until`, where the code of the test and of the body do what these do.
use Rattle.std.specs.Prelude.{ℕ}
use Rattle.dy_term.specs.declared.rows.Program.{Program}
use Rattle.dy_outcome.specs.States.{Does}
use Rattle.dy_outcome.specs.Turns.{loop}
use Rattle.dy_lowered.specs.Flat.{Code}
use Rattle.dy_lowered.specs.Parts as parts
use Rattle.dy_lowering_law.specs.Following.{Follows}

abbrev pub LoopsFollow : Type 0
LoopsFollow = (program : Program) (n before locals : ℕ) (test inner : Code) (a b : Does)
    → Follows program n before locals test a → Follows program n before locals inner b
    → Follows program n before locals (parts.loop test inner) (loop a b)
