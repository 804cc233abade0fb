-- What holds of linked rows: their code is that of the rows, linked, where libraries that the code
-- mentions do not come together; and what code may do does not see where libraries stand.
use Rattle.std.specs.Prelude.{◌≡◌, ℕ, ◌<◌, List, map, length}
use Rattle.dy_term.specs.declared.rows.LibraryRow.{LibraryRow}
use Rattle.dy_term.specs.declared.rows.Program.{Program}
use Rattle.dy_code.specs.Validity.{Every}
use Rattle.dy_lowered.specs.Bodies.{bodies_of}
use Rattle.dy_lowered.specs.Linking.{linked_code}
use Rattle.dy_lowered.specs.Units.{lowered, bare_row}
use Rattle.dy_linked_rows.specs.Rows.{linked_library}
use Rattle.dy_linked_rows.specs.Code.{linked_body}
use Rattle.dy_linked_rows.specs.Mentioned.{mentioned}

-- The bodies of a linked library are its bodies, each linked: neither the numbers of bodies and
-- locals nor what closures capture sees a reference.
abbrev pub BodiesAreLinked : Type 0
BodiesAreLinked = (places : ℕ → ℕ) (library : LibraryRow)
    → bodies_of (linked_library places library)
    ≡ map (linked_body places) (bodies_of library)

-- any two of these libraries stand at places of their own
abbrev pub KeepsApart : (ℕ → ℕ) → List ℕ → Type 0
KeepsApart places libraries =
    Every (λ left. Every (λ right. places left ≡ places right → left ≡ right) libraries) libraries

-- To lower and to link are the same in either order, where the libraries that the code mentions
-- stand at places of their own.
abbrev pub LoweringCommutes : Type 0
LoweringCommutes = (places : ℕ → ℕ) (view program : Program) (library : LibraryRow)
    → KeepsApart places (mentioned library)
    → lowered program (linked_library places library) ≡ linked_code places (lowered view library)

-- So it is where the code mentions libraries of the view alone, which stand at places of their own.
abbrev pub ViewsCommute : Type 0
ViewsCommute = (places : ℕ → ℕ) (count : ℕ) (view program : Program) (library : LibraryRow)
    → Every (λ mention. mention < count) (mentioned library)
    → ((left right : ℕ) → left < count → right < count → places left ≡ places right
    → left ≡ right)
    → lowered program (linked_library places library) ≡ linked_code places (lowered view library)

-- rows without terms
abbrev pub BareRowsAreLinked : Type 0
BareRowsAreLinked = (places : ℕ → ℕ) (library : LibraryRow)
    → bare_row (linked_library places library) ≡ linked_library places (bare_row library)

-- A linked library has as many rows of each kind.
pub record HasAsMany (one other : LibraryRow) : Type 0 where
  pub classes : length one.classes ≡ length other.classes
  pub generics : length one.generics ≡ length other.generics
  pub methods : length one.methods ≡ length other.methods
  pub domains : length one.domains ≡ length other.domains
  pub variables : length one.variables ≡ length other.variables
  pub tops : length one.tops ≡ length other.tops

abbrev pub CountsStay : Type 0
CountsStay = (places : ℕ → ℕ) (library : LibraryRow)
    → HasAsMany (linked_library places library) library
