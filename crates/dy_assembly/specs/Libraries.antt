-- A library of its rows, and the program of a library.
use Rattle.std.specs.Prelude.{◌≡◌, ℕ, List, [], ◌∷◌, ◌++◌, map, flat_map, Option, Some, None}
use Rattle.std.specs.Prelude.{Result, Ok, Err}
use Rattle.dy_base.specs.Folding.{folded}
use Rattle.dy_base.specs.declared.fault.Fault.{Fault as FaultData}
use Rattle.dy_base.specs.declared.fault.Refusal.{Refusal}
use Rattle.dy_base.specs.declared.fault.Refusal.TheVariants.{Fault, Memory}
use Rattle.dy_term.specs.declared.rows.ClassRow.{ClassRow}
use Rattle.dy_term.specs.declared.rows.GenericRow.{GenericRow}
use Rattle.dy_term.specs.declared.rows.MethodRow.{MethodRow}
use Rattle.dy_term.specs.declared.rows.DomainRow.{DomainRow}
use Rattle.dy_term.specs.declared.rows.VariableRow.{VariableRow}
use Rattle.dy_term.specs.declared.rows.TopTerm.{TopTerm}
use Rattle.dy_term.specs.declared.rows.Row.{Row}
use Rattle.dy_term.specs.declared.rows.Row.TheVariants as rows
use Rattle.dy_term.specs.declared.rows.LibraryRow.{LibraryRow}
use Rattle.dy_term.specs.declared.rows.Program.{Program}
use Rattle.dy_term.specs.Rows.{CoreDraft}
use Rattle.dy_names.specs.Naming.{Table}
use Rattle.dy_prims.specs.Rows.{dylan_row, io_row}
use Rattle.dy_library_rows.specs.Names.{names_of, outside_with}
use Rattle.dy_library_rows.specs.Libraries.{Form, rows_of, told}
use Rattle.dy_assembly.specs.declared.library.Heading.{Heading}
use Rattle.dy_assembly.specs.Generics.{generics_of}

-- what is a row of each kind
abbrev pub class_in : Row → List ClassRow
class_in (rows.Class row) = row ∷ []
class_in row = []

abbrev pub generic_in : Row → List GenericRow
generic_in (rows.Generic row) = row ∷ []
generic_in row = []

abbrev pub method_in : Row → List MethodRow
method_in (rows.Method row) = row ∷ []
method_in row = []

abbrev pub domain_in : Row → List DomainRow
domain_in (rows.Domain row) = row ∷ []
domain_in row = []

abbrev pub variable_in : Row → List VariableRow
variable_in (rows.Variable row) = row ∷ []
variable_in row = []

abbrev pub top_in : Row → List TopTerm
top_in (rows.Top top) = top ∷ []
top_in row = []

-- a library with more rows, each kind in its order
abbrev pub grown : LibraryRow → List Row → LibraryRow
grown library more = record {
  name = library.name;
  uses = library.uses;
  classes = library.classes ++ flat_map class_in more;
  generics = library.generics ++ flat_map generic_in more;
  methods = library.methods ++ flat_map method_in more;
  domains = library.domains ++ flat_map domain_in more;
  variables = library.variables ++ flat_map variable_in more;
  tops = library.tops ++ flat_map top_in more;
}

-- a library with one more row
abbrev pub with_row : Row → LibraryRow → LibraryRow
with_row (rows.Class row) library = record library { classes = library.classes ++ row ∷ [] }
with_row (rows.Generic row) library = record library { generics = library.generics ++ row ∷ [] }
with_row (rows.Method row) library = record library { methods = library.methods ++ row ∷ [] }
with_row (rows.Domain row) library = record library { domains = library.domains ++ row ∷ [] }
with_row (rows.Variable row) library = record library { variables = library.variables ++ row ∷ [] }
with_row (rows.Top top) library = record library { tops = library.tops ++ top ∷ [] }

abbrev pub without_rows : Heading → LibraryRow
without_rows heading = record {
  name = heading.name;
  uses = heading.uses;
  classes = [];
  generics = [];
  methods = [];
  domains = [];
  variables = [];
  tops = [];
}

-- The library of these rows, which forms gave: its generic functions are those that the forms
-- define or make.
abbrev pub library_of : Heading → Table → List CoreDraft → List Row → LibraryRow
library_of heading owner forms more =
    let library = grown (without_rows heading) more in
    record library {
      generics = generics_of heading.number owner forms (flat_map generic_in more);
    }

-- a program's own library of this name, the third, which uses `dylan` and `io`
abbrev pub own_heading : List ℕ → Heading
own_heading name = record { number = 2; name = folded name; uses = 0 ∷ 1 ∷ [] }

abbrev pub drafts_of : List Form → List CoreDraft
drafts_of forms = map (λ form. form.1) forms

abbrev pub own_names : List Form → Table
own_names forms = names_of (drafts_of forms)

-- the library of this name of these forms
abbrev pub own_library : List ℕ → List Form → LibraryRow
own_library name forms =
    library_of (own_heading name) (own_names forms) (drafts_of forms)
    (rows_of (outside_with (own_names forms)) forms)

-- what is wrong with the names of the forms, or with their sizes
abbrev pub wrong_with : List Form → Option FaultData
wrong_with forms = told (outside_with (own_names forms)) forms

-- The library where nothing is wrong, and else the first fault. Want of memory may be answered at
-- any time.
abbrev pub IsAssembled : List ℕ → List Form → Result LibraryRow Refusal → Type 0
IsAssembled name forms (Ok library) =
    (wrong_with forms ≡ None) × (library ≡ own_library name forms)
IsAssembled name forms (Err (Fault fault)) = wrong_with forms ≡ Some fault
IsAssembled name forms (Err Memory) = Unit {0}

-- a library with those that are built in, in load order
abbrev pub program_with : LibraryRow → Program
program_with library = record { libraries = dylan_row ∷ io_row ∷ library ∷ [] }
