-- What holds of the verdicts on libraries.
use Rattle.std.specs.Prelude.{◌≡◌, ℕ, true, List, [], ◌∷◌, ◌++◌}
use Rattle.dy_lowering_whole.specs.valid.Scoped.{is_library_scoped}
use Rattle.dy_lowering_whole.specs.Lowered.{is_library_lowered}
use Rattle.dy_views.specs.declared.compiled.Compiled.{Compiled}
use Rattle.dy_views.specs.Views.{order_of, AreThere}
use Rattle.dy_folded_names.specs.Folded.{ExportsAreLower}
use Rattle.dy_verdict.specs.declared.library.ReadLibrary.{ReadLibrary}
use Rattle.dy_verdict.specs.Verdicts.{Verdict, accepted, IsVerdict}

-- The files of a library have one verdict.
abbrev pub VerdictsAreOne : Type 0
VerdictsAreOne = (compiled : Compiled) (library : List ℕ) (texts : List (List ℕ)) (a b : Verdict)
    → IsVerdict compiled library texts a → IsVerdict compiled library texts b → a ≡ b

-- The rows of a library that files were judged to be are in scope and lowered.
abbrev pub AcceptedAreLowered : Type 0
AcceptedAreLowered = (compiled : Compiled) (library : List ℕ) (texts : List (List ℕ))
    (read : ReadLibrary) → IsVerdict compiled library texts (accepted read)
    → (is_library_scoped read.row ≡ true) × (is_library_lowered read.row ≡ true)

-- It uses some of those that were compiled, and its view is that of what it uses.
abbrev pub AcceptedAreViewed : Type 0
AcceptedAreViewed = (compiled : Compiled) (library : List ℕ) (texts : List (List ℕ))
    (read : ReadLibrary) → IsVerdict compiled library texts (accepted read)
    → AreThere compiled read.uses × (read.order ≡ order_of compiled read.uses)

-- The names that it exports are in lower case, where those are that the others export.
abbrev pub AcceptedAreLower : Type 0
AcceptedAreLower = (compiled : Compiled) (library : List ℕ) (texts : List (List ℕ))
    (read : ReadLibrary) → ExportsAreLower compiled.exports
    → IsVerdict compiled library texts (accepted read)
    → ExportsAreLower (compiled.exports ++ read.exports ∷ [])
