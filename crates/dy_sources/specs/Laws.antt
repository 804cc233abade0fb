-- What holds of the libraries of a command.
use Rattle.std.specs.Prelude.{◌≡◌, ℕ, List, Result, Ok}
use Rattle.dy_io.specs.Files.{FileMap}
use Rattle.dy_libraries.specs.declared.libraries.Libraries.{Libraries}
use Rattle.dy_libraries.specs.Commands.{built_in, AreLibraries}
use Rattle.dy_sources.specs.declared.refused.Refused.{Refused}
use Rattle.dy_sources.specs.Verdicts.{Verdict, IsVerdict}
use Rattle.dy_sources.specs.Libraries.{AreRead, AreAccepted}

-- The library of a LID file has one verdict behind others.
abbrev pub VerdictsAreOne : Type 0
VerdictsAreOne = (files : FileMap) (before : Libraries) (lid : List ℕ) (a b : Verdict)
    → IsVerdict files before lid a → IsVerdict files before lid b → a ≡ b

-- LID files come to one thing.
abbrev pub AnswersAreOne : Type 0
AnswersAreOne = (files : FileMap) (before : Libraries) (lids : List (List ℕ))
    (a b : Result Libraries Refused) → AreRead files before lids a → AreRead files before lids b
    → a ≡ b

-- Libraries that are read are compiled one behind the other, behind those that are built in.
abbrev pub ReadAreLibraries : Type 0
ReadAreLibraries = (files : FileMap) (lids : List (List ℕ)) (libraries : Libraries)
    → AreRead files built_in lids (Ok libraries) → AreLibraries libraries

-- They are accepted.
abbrev pub ReadAreAccepted : Type 0
ReadAreAccepted = (files : FileMap) (lids : List (List ℕ)) (libraries : Libraries)
    → AreRead files built_in lids (Ok libraries) → AreAccepted libraries
