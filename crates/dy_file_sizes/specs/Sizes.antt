-- The laws of sizes of files. Assignments to elements have the most nodes for their tokens.
use Rattle.std.specs.Prelude.{◌≡◌, ℕ, ◌*◌, ◌^◌, ◌<◌, ◌≤◌, List, length, map}
use Rattle.dy_tree.specs.declared.token.Token.{Token}
use Rattle.dy_tree.specs.declared.words.Words.{Words}
use Rattle.dy_tree.specs.Fragments.{SeenFragment}
use Rattle.dy_lexer.specs.declared.source.Source.{Source}
use Rattle.dy_lexer.specs.Sources.{IsSource}
use Rattle.dy_fragment.specs.Groups.{Grouped}
use Rattle.dy_rules.specs.Forms.{FormTree, IsForm}
use Rattle.dy_term.specs.declared.rows.LibraryRow.{LibraryRow}
use Rattle.dy_term.specs.Drafts.{Core}
use Rattle.dy_term.specs.Rows.{CoreDraft}
use Rattle.dy_surface.specs.Forms.{draft_of}
use Rattle.dy_names.specs.Naming.{Locals}
use Rattle.dy_names.specs.Outside.{Outside}
use Rattle.dy_binding.specs.declared.progress.Progress.{Progress}
use Rattle.dy_resolution.specs.Terms.{core_term}
use Rattle.dy_code.specs.Validity.{Every}
use Rattle.dy_library_rows.specs.Libraries.{Form, read_form, rows_of}
use Rattle.dy_lowering_whole.specs.sizes.Nodes.{nodes_of, nodes_of_library}
use Rattle.dy_lowering_whole.specs.sizes.Sizes.{IsSmall}
use Rattle.dy_unit_sizes.specs.Sizes.{PartsHaveAtMost}
use Rattle.dy_token_limit.specs.Tokens.{tokens_of}
use Rattle.dy_file_sizes.specs.Drafts.{size, draft_size}
use Rattle.dy_file_sizes.specs.Rows.{nodes_of_rows, HasCodeOf}
use Rattle.dy_file_sizes.specs.Files.{File, AreRead, forms_of, bytes_of}

-- so many nodes for a token at most
abbrev pub times : ℕ
times = 4

abbrev pub TokensAreFew : Type 0
TokensAreFew = (file : ℕ) (text : List ℕ) (source : Source) → IsSource file text source
    → length source.tokens ≤ length text

abbrev pub GroupsAreSmall : Type 0
GroupsAreSmall = (known : Words) (tokens : List Token) (fragments : List SeenFragment)
    → Grouped known tokens fragments → tokens_of fragments ≤ length tokens

abbrev pub DraftsAreSmall : Type 0
DraftsAreSmall = (form : FormTree) (fragments : List SeenFragment) → IsForm form fragments
    → draft_size (draft_of form) < times * tokens_of fragments

abbrev pub TermsAreSmall : Type 0
TermsAreSmall = (out : Outside) (draft : Core) (locals : Locals) (p : Progress)
    → nodes_of (core_term out draft locals p).0 ≤ size draft

abbrev pub RowsAreSmall : Type 0
RowsAreSmall = (out : Outside) (draft : CoreDraft)
    → nodes_of_rows (read_form out draft).0 ≤ draft_size draft

-- A library is read from files: it has the code of the rows of their forms, whatever names mean
-- outside of these, and wherever each form is said to begin.
pub record IsReadFrom (files : List File) (library : LibraryRow) : Type 0 where
  pub out : Outside
  pub forms : List Form
  pub read : AreRead files
  pub drafts : map (λ form. form.1) forms ≡ map draft_of (forms_of files)
  pub code : HasCodeOf (rows_of out forms) library

abbrev pub LibrariesAreSmall : Type 0
LibrariesAreSmall = (files : List File) (library : LibraryRow) → IsReadFrom files library
    → nodes_of_library library ≤ times * bytes_of files

-- Each part of a library stands in one file.
abbrev pub PartsAreSmall : Type 0
PartsAreSmall = (files : List File) (library : LibraryRow) (most : ℕ) → IsReadFrom files library
    → Every (λ file. length file.text ≤ most) files → PartsHaveAtMost (times * most) library

-- no more than 2^28 bytes in all files, and fewer than 2^24 in each
abbrev pub FilesAreSmall : Type 0
FilesAreSmall = (files : List File) (library : LibraryRow) → IsReadFrom files library
    → bytes_of files ≤ 2 ^ 28 → Every (λ file. length file.text < 2 ^ 24) files → IsSmall library

-- as 64 files of 4,194,304 bytes have
abbrev pub LargestAreSmall : Type 0
LargestAreSmall = (files : List File) (library : LibraryRow) → IsReadFrom files library
    → length files ≤ 64 → Every (λ file. length file.text ≤ 2 ^ 22) files → IsSmall library
