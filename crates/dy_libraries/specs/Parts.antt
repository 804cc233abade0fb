-- What functions return, as the definitions see it.
use Rattle.std.specs.Prelude.{ℕ, List, [], Option, Some}
use Rattle.dy_base.specs.declared.exports.Exports.{Exports}
use Rattle.dy_term.specs.declared.rows.LibraryRow.{LibraryRow}
use Rattle.dy_code.specs.declared.unit.Library.{Library}
use Rattle.dy_views.specs.Views.{Name}

-- a library of its rows, its exports, and the others that it uses
abbrev pub joined_library : (LibraryRow × Exports) × List (Name × List ℕ) → Option Library
joined_library parts = Some (record {
  row = parts.0.0;
  exports = parts.0.1;
  macros = [];
  uses = parts.1;
})

-- a library in a list of those that were not taken yet
abbrev pub held : Library → Option (Option Library)
held library = Some (Some library)
