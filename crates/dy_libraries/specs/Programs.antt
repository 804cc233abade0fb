-- The libraries of a program: a main library and all that it uses, directly or not (DRM 4,
-- "Libraries").
use Rattle.std.specs.Prelude.{ℕ, not, nat_eq, List, [], map, filter, replicate, slice_index_or}
use Rattle.dy_term.specs.declared.rows.LibraryRow.{LibraryRow}
use Rattle.dy_code.specs.declared.unit.Library.{Library}
use Rattle.dy_views.specs.declared.compiled.Compiled.{Compiled}
use Rattle.dy_views.specs.Laws.{view_at}
use Rattle.dy_views.specs.Views.{Name, no_exports}
use Rattle.dy_libraries.specs.declared.libraries.Libraries.{Libraries}

-- the rows of no library
abbrev pub no_row : LibraryRow
no_row = record {
  name = [];
  uses = [];
  classes = [];
  generics = [];
  methods = [];
  domains = [];
  variables = [];
  tops = [];
}

-- the name of the library of this number
abbrev pub name_at : Compiled → ℕ → Name
name_at compiled number = (slice_index_or compiled.exports number no_exports).library

-- No digest is told yet.
abbrev pub no_digest : List ℕ
no_digest = replicate 32 0

-- those of these libraries that are not this one
abbrev pub others_in : Compiled → ℕ → List ℕ → List (Name × List ℕ)
others_in compiled number libraries = map (λ other. (name_at compiled other, no_digest))
    (filter (λ other. not (nat_eq other number)) libraries)

-- the others of a library's view, in load order
abbrev pub others_of : Compiled → ℕ → List (Name × List ℕ)
others_of compiled number = others_in compiled number (view_at compiled number)

-- the library of this number, as its sources give it
abbrev pub library_at : Libraries → ℕ → Library
library_at libraries number = record {
  row = slice_index_or libraries.rows number no_row;
  exports = slice_index_or libraries.compiled.exports number no_exports;
  macros = [];
  uses = others_of libraries.compiled number;
}

-- the libraries of the program of this main library, in load order
abbrev pub libraries_of : Libraries → ℕ → List Library
libraries_of libraries main = map (library_at libraries) (view_at libraries.compiled main)
