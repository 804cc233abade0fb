-- The theorem for terms, from that for their kinds, and for whole programs.
use Rattle.std.specs.Prelude.{◌≡◌, ℕ, ◌-◌, true, [], ◌∷◌}
use Rattle.dy_term.specs.declared.term.Term.{Term}
use Rattle.dy_term.specs.declared.rows.Program.{Program}
use Rattle.dy_meaning.specs.Layouts.{Layout}
use Rattle.dy_meaning.specs.Programs.{meaning_within}
use Rattle.dy_lowered.specs.Readiness.{is_ready}
use Rattle.dy_lowered.specs.Terms.{code_of}
use Rattle.dy_lowering_law.specs.Behaving.{AreNumbered, TermsFollow, Behaves}
use Rattle.dy_lowering_law.specs.Following.{Follows}
use Rattle.dy_lowering_law.specs.Ready.{IsReady}
use Rattle.dy_lowering_law.specs.calls.Calls.{CallsStand}
use Rattle.dy_prims.specs.Rows.{dylan_row, io_row}
use Rattle.dy_lowering_whole.specs.valid.Scoped.{is_scoped, IsScoped}
use Rattle.dy_lowering_whole.specs.Lowered.{is_lowered, IsLowered}

-- Where calls stand, the code of each term that is lowered yet does what the term does.
abbrev pub ReadyTermsFollow : Type 0
ReadyTermsFollow = (program : Program) (n before closure lambda last : ℕ) (layout : Layout)
    (term : Term) → CallsStand program n → is_ready layout.first last term ≡ true
    → AreNumbered program before closure lambda term
    → Follows program n before (last - layout.first) (code_of layout term closure)
    (meaning_within program n layout term lambda)

-- In a program that is lowered yet, calls stand with every number of units.
abbrev pub ReadyCallsStand : Type 0
ReadyCallsStand = (program : Program) → IsReady program → (n : ℕ) → CallsStand program n

-- so each of its terms follows
abbrev pub AllTermsFollow : Type 0
AllTermsFollow = (program : Program) → IsReady program → TermsFollow program

-- The same with closures, local methods and loops: for terms in scope of the kinds that are lowered
-- yet.
abbrev pub LoweredTermsFollow : Type 0
LoweredTermsFollow = (program : Program) (n before closure lambda last : ℕ) (layout : Layout)
    (term : Term) → CallsStand program n → is_scoped term layout.first last ≡ true
    → is_lowered term ≡ true → AreNumbered program before closure lambda term
    → Follows program n before (last - layout.first) (code_of layout term closure)
    (meaning_within program n layout term lambda)

abbrev pub LoweredCallsStand : Type 0
LoweredCallsStand = (program : Program) → IsScoped program → IsLowered program → (n : ℕ)
    → CallsStand program n

-- With every fuel the code of such a program behaves as the program.
abbrev pub LoweredProgramsBehave : Type 0
LoweredProgramsBehave = (program : Program) (fuel : ℕ) → IsScoped program → IsLowered program
    → Behaves program fuel

-- The libraries that are built in are of this kind.
abbrev pub BuiltInAreLowered : Type 0
BuiltInAreLowered =
    let program : Program = record { libraries = dylan_row ∷ io_row ∷ [] } in
    IsScoped program × IsLowered program
