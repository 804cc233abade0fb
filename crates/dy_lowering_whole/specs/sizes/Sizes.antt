-- The laws of sizes. A `for` has the longest code for its size.
use Rattle.std.specs.Prelude.{ℕ, ◌-◌, ◌*◌, ◌^◌, ◌<◌, ◌≤◌, List, length, flat_map}
use Rattle.dy_term.specs.declared.term.Term.{Term}
use Rattle.dy_term.specs.declared.rows.LibraryRow.{LibraryRow}
use Rattle.dy_code.specs.Fetching.{Instruction}
use Rattle.dy_code.specs.Validity.{Every}
use Rattle.dy_meaning.specs.Layouts.{Layout}
use Rattle.dy_lowered.specs.Bodies.{bodies_of}
use Rattle.dy_lowered.specs.Flat.{placed_from}
use Rattle.dy_lowered.specs.Tables.{Tables, tables_of}
use Rattle.dy_lowered.specs.Terms.{code_of}
use Rattle.dy_lowering_whole.specs.sizes.Nodes.{nodes_of, nodes_of_library}

-- so many instructions for a node at most
abbrev pub times : ℕ
times = 64

abbrev pub TermsAreShort : Type 0
TermsAreShort = (layout : Layout) (term : Term) (number : ℕ)
    → length (code_of layout term number) ≤ times * nodes_of term

abbrev pub BodiesAreShort : Type 0
BodiesAreShort = (library : LibraryRow)
    → Every (λ body. length body.code ≤ times * nodes_of_library library) (bodies_of library)

abbrev pub BodiesAreFew : Type 0
BodiesAreFew = (library : LibraryRow)
    → length (bodies_of library) ≤ times * nodes_of_library library

-- what is written of all bodies of a library
abbrev pub instructions_of : LibraryRow → List Instruction
instructions_of library = flat_map (λ body. placed_from 0 body.code) (bodies_of library)

-- no list holds more items than this
pub record HoldsAtMost (most : ℕ) (tables : Tables) : Type 0 where
  pub constants : length tables.constants ≤ most
  pub names : length tables.names ≤ most
  pub bound : length tables.bound ≤ most
  pub lists : length tables.lists ≤ most
  pub types : length tables.types ≤ most
  pub results : length tables.results ≤ most

abbrev pub ItemsAreFew : Type 0
ItemsAreFew = (library : LibraryRow)
    → HoldsAtMost (times * nodes_of_library library) (tables_of (instructions_of library))

-- A unit whose numbers have 32 bits: those of its bodies, of the instructions of each, and of the
-- items of each list.
pub record IsSmall (library : LibraryRow) : Type 0 where
  pub bodies : length (bodies_of library) < 2 ^ 32
  pub codes : Every (λ body. length body.code < 2 ^ 32) (bodies_of library)
  pub items : HoldsAtMost (2 ^ 32 - 1) (tables_of (instructions_of library))

abbrev pub UnitsAreSmall : Type 0
UnitsAreSmall = (library : LibraryRow) → nodes_of_library library < 2 ^ 26 → IsSmall library
