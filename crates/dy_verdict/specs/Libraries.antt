-- What a library is read as (DRM 4, "Libraries"; own in places and numbers).
use Rattle.std.specs.Prelude.{◌≡◌, ℕ, ◌-◌, List, [], length}
use Rattle.dy_base.specs.Folding.{folded}
use Rattle.dy_assembly.specs.declared.library.Heading.{Heading}
use Rattle.dy_load_order.specs.LoadOrder.{place_in}
use Rattle.dy_views.specs.declared.compiled.Compiled.{Compiled}
use Rattle.dy_views.specs.Views.{places_by, order_of, AreCompiled, AreThere}
use Rattle.dy_module_tables.specs.Graphs.{AreFolded, AllExported}
use Rattle.dy_library_rows.specs.Libraries.{Form}
use Rattle.dy_library_modules.specs.declared.own_modules.LibraryModules.{LibraryModules}
use Rattle.dy_library_names.specs.Named.{Reading, library_from}
use Rattle.dy_verdict.specs.declared.library.ReadLibrary.{ReadLibrary}

-- What it is beside its rows: its place in its view, where it stands last, its name, and the places
-- of those that it uses.
abbrev pub heading_of : (library order uses : List ℕ) → Heading
heading_of library order uses = record {
  number = length order - 1;
  name = folded library;
  uses = places_by (place_in order) uses;
}

-- the same where its modules are these
abbrev pub heading_in : List ℕ → LibraryModules → Heading
heading_in library modules = heading_of library modules.order modules.uses

-- its place in its view
abbrev pub place_by : LibraryModules → ℕ
place_by modules = length modules.order - 1

-- The library of these forms, where names are defined and mean so: its rows, what its modules
-- export of its names and of others, what it uses, and its view.
pub record IsReadAs (library : List ℕ) (modules : LibraryModules) (forms : List Form)
    (r : Reading modules.table (place_by modules) forms) (read : ReadLibrary) : Type 0 where
  pub row : read.row ≡ library_from (heading_in library modules) r.out forms
  pub name : read.exports.library ≡ folded library
  pub exported : AllExported modules.table.modules r.defs modules.table.shown read.exports.modules
  pub seen : read.exports.seen ≡ []
  pub uses : read.uses ≡ modules.uses
  pub order : read.order ≡ modules.order

-- what holds of the modules of a library that sees these: it uses some of them, its view is that of
-- what it uses, and the names of its modules are in lower case
pub record AreReady (compiled : Compiled) (modules : LibraryModules) : Type 0 where
  pub compiled_are : AreCompiled compiled
  pub there : AreThere compiled modules.uses
  pub order : modules.order ≡ order_of compiled modules.uses
  pub lower : AreFolded modules.table.modules
