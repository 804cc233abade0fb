-- Libraries among which is a main one.
use Rattle.std.proofs.Common.{◌≡◌, ◌<◌, ◌≤◌, ℕ, List, [], ◌∷◌, length, take, ap, arith}
use Rattle.dy_term.specs.declared.rows.LibraryRow.{LibraryRow}
use Rattle.dy_prims.specs.Rows.{dylan_row, io_row}
use Rattle.dy_libraries.specs.declared.libraries.Libraries.{Libraries}
use Rattle.dy_libraries.specs.Commands.{AreLibraries}

-- those that are built in are always there
pub some_rows : (libraries : Libraries) → AreLibraries libraries → 1 ≤ length libraries.rows
some_rows libraries are = go libraries.rows (ap (λ (l : Libraries). l.rows) are.first)
  where
    go : (rows : List LibraryRow) → take 2 rows ≡ dylan_row ∷ io_row ∷ [] → 1 ≤ length rows
    go [] e = absurd cc
    go (row ∷ rows) e = omega arith
