-- The source files of a library, and the forms that are read from them.
use Rattle.std.specs.Prelude.{ℕ, ◌+◌, List, [], ◌∷◌, ◌++◌, length}
use Rattle.dy_tree.specs.declared.words.Words.{Words}
use Rattle.dy_tree.specs.Fragments.{SeenFragment}
use Rattle.dy_lexer.specs.declared.source.Source.{Source}
use Rattle.dy_lexer.specs.Sources.{IsSource}
use Rattle.dy_fragment.specs.Groups.{Grouped}
use Rattle.dy_rules.specs.Forms.{FormTree, IsForm}
use Rattle.dy_file_sizes.specs.Tokens.{StandIn}

-- its number, its bytes, and the forms in it
pub record File : Type 0 where
  pub number : ℕ
  pub text : List ℕ
  pub forms : List FormTree

-- each piece stands for the form at its place
abbrev pub AreForms : List FormTree → List (List SeenFragment) → Type 0
AreForms [] [] = Unit {0}
AreForms (form ∷ forms) (piece ∷ pieces) = IsForm form piece × AreForms forms pieces
AreForms _ _ = ⊥

-- The file is a source file, whose tokens are grouped by the words that are known. The forms stand
-- in the groups, one after the other.
pub record IsRead (file : File) : Type 0 where
  pub source : Source
  pub known : Words
  pub fragments : List SeenFragment
  pub pieces : List (List SeenFragment)
  pub is_source : IsSource file.number file.text source
  pub grouped : Grouped known source.tokens fragments
  pub stand : StandIn pieces fragments
  pub forms : AreForms file.forms pieces

abbrev pub AreRead : List File → Type 0
AreRead [] = Unit {0}
AreRead (file ∷ files) = IsRead file × AreRead files

abbrev pub forms_of : List File → List FormTree
forms_of [] = []
forms_of (file ∷ files) = file.forms ++ forms_of files

abbrev pub bytes_of : List File → ℕ
bytes_of [] = 0
bytes_of (file ∷ files) = length file.text + bytes_of files
