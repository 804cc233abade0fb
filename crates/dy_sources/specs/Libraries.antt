-- What the LID files of a command come to (own).
use Rattle.std.specs.Prelude.{◌≡◌, ◌⊎◌, ℕ, false, List, [], ◌∷◌, Result, Ok, Err}
use Rattle.dy_base.specs.Folding.{folded}
use Rattle.dy_io.specs.Files.{FileMap}
use Rattle.dy_libraries.specs.declared.libraries.Libraries.{Libraries}
use Rattle.dy_libraries.specs.Commands.{built_in, with_compiled}
use Rattle.dy_verdict.specs.declared.library.ReadLibrary.{ReadLibrary}
use Rattle.dy_verdict.specs.Verdicts as verdicts
use Rattle.dy_sources.specs.declared.refused.Refused.{Refused}
use Rattle.dy_sources.specs.Verdicts.{refused, accepted, is_full, IsVerdict}

-- a library that was read, behind those that stood before it
abbrev pub with_read : Libraries → ReadLibrary → Libraries
with_read before read = with_compiled before read.row read.exports read.uses read.order

-- The libraries of LID files behind others, each judged behind those in front of it; or why the
-- first that is refused is so. Those behind a refused one are not read.
abbrev pub AreRead : FileMap → Libraries → List (List ℕ) → Result Libraries Refused → Type 0
AreRead files before [] result = result ≡ Ok before
AreRead files before (lid ∷ lids) result =
    ((why : Refused) × IsVerdict files before lid (refused why) × (result ≡ Err why))
    ⊎ ((read : ReadLibrary) × IsVerdict files before lid (accepted read)
    × AreRead files (with_read before read) lids result)

-- Some texts of a library of some name, in lower case, come to this one behind these, whatever is
-- told of files, and these have room for it.
pub record IsAccepted (before : Libraries) (read : ReadLibrary) : Type 0 where
  pub library : List ℕ
  pub texts : List (List ℕ)
  pub lower : folded library ≡ library
  pub judged : verdicts.IsVerdict before.compiled library texts (verdicts.accepted read)
  pub room : is_full before ≡ false

-- Behind those that are built in stand only libraries that some texts were judged to be, each
-- behind those in front of it.
pub data AreAccepted : Libraries → Type 0 where
  none_read : AreAccepted built_in
  one_more : (before : Libraries) (read : ReadLibrary) → AreAccepted before
      → IsAccepted before read → AreAccepted (with_read before read)
