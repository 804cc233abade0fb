-- What the libraries `dylan` and `io` export (DRM 4, "Libraries").
use Rattle.std.specs.Prelude.{ℕ, ◌+◌, List, [], ◌∷◌, map, Option, Some, None}
use Rattle.std.specs.Str.{bytes_eq}
use Rattle.std.specs.FinMap as finite
use Rattle.indexmap.specs.IndexMap.{insert_entry}
use Rattle.dy_base.specs.Folding.{folded}
use Rattle.dy_base.specs.Tables.{NamedList, table_of}
use Rattle.dy_base.specs.declared.exports.Exports.{Exports}
use Rattle.dy_base.specs.declared.ids.BindingId.{BindingId}
use Rattle.dy_base.specs.declared.ids.What.{What}
use Rattle.dy_base.specs.declared.ids.What.TheVariants as whats
use Rattle.dy_term.specs.declared.rows.LibraryRow.{LibraryRow}

abbrev pub row_id : ℕ → What → ℕ → BindingId
row_id library what row = record { what = what; at = record { library = library; row = row } }

-- a list with the names of the rows of a kind from this one on, each with its row
abbrev pub with_rows : ℕ → What → ℕ → List (List ℕ) → NamedList BindingId → NamedList BindingId
with_rows library what row [] list = list
with_rows library what row (name ∷ names) list = with_rows library what (row + 1) names
    (insert_entry bytes_eq list name (row_id library what row))

-- the names of all rows of a library; the variables of a built-in one are functions
abbrev pub names_of : ℕ → LibraryRow → NamedList BindingId
names_of library row =
    with_rows library whats.Function 0 (map (λ r. r.name) row.variables)
    (with_rows library whats.Generic 0 (map (λ r. r.name) row.generics)
    (with_rows library whats.Class 0 (map (λ r. r.name) row.classes) []))

-- rows in lower case
abbrev pub folded_rows : List (Option (List ℕ × BindingId)) → NamedList BindingId
folded_rows [] = []
folded_rows (None ∷ rows) = folded_rows rows
folded_rows (Some row ∷ rows) = (folded row.0, row.1) ∷ folded_rows rows

-- what a library exports that has one module with the names of all its rows, sorted by bytes
abbrev pub exports_of : ℕ → List ℕ → List ℕ → LibraryRow → Exports
exports_of number name exported row = record {
  library = folded name;
  modules = (
    folded exported,
    folded_rows (map Some (finite.entries (table_of (names_of number row)))),
  ) ∷ [];
  seen = [];
}
