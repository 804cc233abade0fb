-- No term leaves a block: none is made yet.
use Rattle.std.specs.Prelude.{ℕ}
use Rattle.dy_term.specs.declared.term.Term.{Term}
use Rattle.dy_term.specs.declared.rows.Program.{Program}
use Rattle.dy_outcome.specs.declared.state.State.{State}
use Rattle.dy_outcome.specs.States.{Scope, Outcome, Exits, Does}
use Rattle.dy_meaning.specs.Layouts.{Layout}
use Rattle.dy_meaning.specs.Programs.{meaning_within}

abbrev pub IsNoExit : Outcome → Type 0
IsNoExit (Exits number values state) = ⊥
IsNoExit outcome = Unit {0}

abbrev pub NeverExits : Does → Type 0
NeverExits does = (scope : Scope) (state : State) → IsNoExit (does scope state)

abbrev pub NoTermExits : Type 0
NoTermExits = (program : Program) (n : ℕ) (layout : Layout) (term : Term) (number : ℕ)
    → NeverExits (meaning_within program n layout term number)
