-- What the forms of a library define, by its modules.
use Rattle.std.specs.Prelude.{ℕ, List, ◌≡◌, ◌↔◌, ◌≤◌, true, false, length}
use Rattle.dy_tree.specs.declared.words.Word.{Word}
use Rattle.dy_modules.specs.Builds.{all_clear}
use Rattle.dy_modules.specs.Order.{AreRight}
use Rattle.dy_module_tables.specs.Graphs.{Graph}
use Rattle.dy_module_tables.specs.declared.meant.OpenTable.{OpenTable}
use Rattle.dy_module_tables.specs.Meant.{IsOwner, IsBarred, owner_of, is_open_in}
use Rattle.dy_library_rows.specs.Libraries.{Form}
use Rattle.dy_definitions.specs.Means.{meanings_of}
use Rattle.dy_definitions.specs.Redefined.{all_redefined}
use Rattle.dy_definitions.specs.Seen.{meanings_in}
use Rattle.dy_module_names.specs.declared.library.LibraryDefinitions.{LibraryDefinitions}
use Rattle.dy_module_names.specs.Definitions.{Modules, definitions}

-- what a table of modules says of names
abbrev pub modules_in : OpenTable → Modules
modules_in table = record {
  owner = λ m n. owner_of table.modules table.tables.items m n;
  is_open = λ m n. is_open_in table.own table.modules table.tables.items m n;
}

-- these functions say what the table of modules says
pub record AreModules (g : Graph) (modules : Modules) : Type 0 where
  pub owner : (m : ℕ) (n : List ℕ) → IsOwner g.modules m n (modules.owner m n)
  pub is_open : (m : ℕ) (n : List ℕ) → (modules.is_open m n ≡ false) ↔ IsBarred g.modules g.own m n

-- the definitions of the library with this number, by its forms; what the names that its modules
-- own mean by them; and those that are one too many
pub record IsGiven (g : Graph) (library : ℕ) (words : List Word) (forms : List Form)
    (given : LibraryDefinitions) : Type 0 where
  pub modules : Modules
  pub are : AreModules g modules
  pub listed : given.definitions ≡ definitions modules forms
  pub meanings : meanings_in given.defined.meanings
      ≡ meanings_of library (definitions modules forms)
  pub redefined : given.defined.redefined ≡ all_redefined words (definitions modules forms)

-- the tables of a table of modules, laid open, of which it may be made again
pub record IsLaidOpen (g : Graph) (table : OpenTable) : Type 0 where
  pub modules : table.modules ≡ g.modules
  pub own : table.own ≡ g.own
  pub promised : table.promised ≡ g.promised
  pub shown : table.shown ≡ g.shown
  pub within : table.own ≤ length table.modules
  pub right : AreRight table.modules table.tables.items
  pub clear : all_clear table.tables.items ≡ true
