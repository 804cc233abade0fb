-- The libraries of a command, in the order in which they are compiled (own).
use Rattle.std.specs.Prelude.{◌≡◌, ℕ, List, [], ◌∷◌, ◌++◌, length, map, take, codes, None}
use Rattle.std.specs.List.{IsDistinct}
use Rattle.std.specs.Str.{bytes_eq}
use Rattle.dy_base.specs.declared.exports.Exports.{Exports}
use Rattle.dy_term.specs.declared.rows.LibraryRow.{LibraryRow}
use Rattle.dy_prims.specs.Rows.{dylan_row, io_row}
use Rattle.dy_built_in_exports.specs.Names.{exports_of}
use Rattle.dy_folded_names.specs.Folded.{ExportsAreLower}
use Rattle.dy_views.specs.Views.{Name, AreCompiled, AreThere, number_of, order_of, with_library}
use Rattle.dy_libraries.specs.declared.libraries.Libraries.{Libraries}

-- Those that are built in: `dylan`, which uses none and sees itself alone, and `io`, which uses
-- `dylan`.
abbrev pub built_in : Libraries
built_in = record {
  compiled = record {
    exports = exports_of 0 (codes "dylan") (codes "dylan") dylan_row
        ∷ exports_of 1 (codes "io") (codes "format-out") io_row ∷ [];
    uses = [] ∷ (0 ∷ []) ∷ [];
    orders = (0 ∷ []) ∷ (0 ∷ 1 ∷ []) ∷ [];
  };
  rows = dylan_row ∷ io_row ∷ [];
}

-- one more library behind the others: its rows, what it exports, what it uses, and its view
abbrev pub with_compiled : Libraries → LibraryRow → Exports → (uses order : List ℕ) → Libraries
with_compiled libraries row exports uses order = record {
  compiled = with_library libraries.compiled exports uses order;
  rows = libraries.rows ++ row ∷ [];
}

-- the first of them
abbrev pub first_libraries : ℕ → Libraries → Libraries
first_libraries count libraries = record {
  compiled = record {
    exports = take count libraries.compiled.exports;
    uses = take count libraries.compiled.uses;
    orders = take count libraries.compiled.orders;
  };
  rows = take count libraries.rows;
}

abbrev pub names_of : List Exports → List Name
names_of exports = map (λ library. library.library) exports

-- Each was compiled behind those that it uses and has its rows, the first two are those that are
-- built in, the names that they export are in lower case, and no two have one name.
pub record AreLibraries (libraries : Libraries) : Type 0 where
  pub compiled : AreCompiled libraries.compiled
  pub rows : length libraries.rows ≡ length libraries.compiled.exports
  pub first : first_libraries 2 libraries ≡ built_in
  pub lower : ExportsAreLower libraries.compiled.exports
  pub apart : IsDistinct bytes_eq (names_of libraries.compiled.exports)

-- A library that exports this, uses these and has this view can stand behind them: it uses some of
-- them, its view is its load order, the names that it exports are in lower case, and none of them
-- has its name.
pub record IsNext (libraries : Libraries) (exports : Exports) (uses order : List ℕ) : Type 0 where
  pub there : AreThere libraries.compiled uses
  pub view : order ≡ order_of libraries.compiled uses
  pub lower : ExportsAreLower (libraries.compiled.exports ++ exports ∷ [])
  pub new : number_of libraries.compiled.exports exports.library ≡ None
