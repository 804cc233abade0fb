-- What is known of a library in its view holds of it in a program: its terms are in scope as they
-- were, and of the same kinds.
use Rattle.std.specs.Prelude.{◌≡◌, ℕ}
use Rattle.dy_term.specs.declared.rows.LibraryRow.{LibraryRow}
use Rattle.dy_lowering_whole.specs.Lowered.{is_library_lowered}
use Rattle.dy_lowering_whole.specs.valid.Scoped.{is_library_scoped}
use Rattle.dy_linked_rows.specs.Rows.{linked_library}

-- whether each term names what its body has
abbrev pub ScopeStays : Type 0
ScopeStays = (places : ℕ → ℕ) (library : LibraryRow)
    → is_library_scoped (linked_library places library) ≡ is_library_scoped library

-- whether each term is of a kind that is lowered yet
abbrev pub KindsStay : Type 0
KindsStay = (places : ℕ → ℕ) (library : LibraryRow)
    → is_library_lowered (linked_library places library) ≡ is_library_lowered library
