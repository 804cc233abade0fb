-- What other libraries see of the class rows and of the type constants of a library.
use Rattle.std.specs.Prelude.{ℕ, List, [], ◌∷◌, ◌++◌, map, Option}
use Rattle.std.specs.Option.{option_map}
use Rattle.dy_term.specs.declared.types.DyType.{DyType}
use Rattle.dy_term.specs.declared.rows.ClassRow.{ClassRow}
use Rattle.dy_term.specs.declared.rows.LibraryRow.{LibraryRow}
use Rattle.dy_term.specs.declared.rows.Program.{Program}
use Rattle.dy_lowered.specs.Linking.{linked_class, linked_type}

-- ---- where libraries are at these places

module _ (places : ℕ → ℕ) where
  -- A class row, with the superclasses and the order renumbered. Slots come later: nothing of them
  -- is seen yet.
  abbrev pub linked_class_row : ClassRow → ClassRow
  linked_class_row row = record row {
    supers = map (linked_class places) row.supers;
    order = map (linked_class places) row.order;
    slots = [];
  }

  abbrev pub linked_class_rows : List ClassRow → List ClassRow
  linked_class_rows rows = map linked_class_row rows

  -- what variable rows stand for, where they are type constants
  abbrev pub linked_named_types : List (Option DyType) → List (Option DyType)
  linked_named_types types = map (option_map (linked_type places)) types

-- ---- by the places of a library's own view

abbrev pub without_slots : ClassRow → ClassRow
without_slots row = record row { slots = [] }

abbrev pub classes_of : LibraryRow → List ClassRow
classes_of library = map without_slots library.classes

-- for each variable row the type that it stands for, where it is a type constant
abbrev pub named_types_of : LibraryRow → List (Option DyType)
named_types_of library = map (λ variable. variable.named) library.variables

-- ---- the class rows of a view as a program

-- a library without a name that has these classes and nothing else
abbrev pub class_library : List ClassRow → LibraryRow
class_library classes = record {
  name = [];
  uses = [];
  classes = classes;
  generics = [];
  methods = [];
  domains = [];
  variables = [];
  tops = [];
}

-- the libraries of a view in front of the own one, and the own one last
abbrev pub view_program : List (List ClassRow) → List ClassRow → Program
view_program seen own = record { libraries = map class_library (seen ++ own ∷ []) }
