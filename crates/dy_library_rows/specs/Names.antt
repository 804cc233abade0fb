-- The names that a program has outside of bodies at this stage: those that the libraries `dylan`
-- and `io` export, and those that its forms define (DRM 4, "Bindings", and 10).
use Rattle.std.specs.Prelude.{ℕ, ◌+◌, Bool, true, false, List, [], ◌∷◌, ◌++◌, map, Option, Some}
use Rattle.std.specs.Prelude.{None, Result, Ok, Err, cond, ◌&&◌, nat_eq}
use Rattle.std.specs.Str.{bytes_eq}
use Rattle.dy_base.specs.declared.fault.Fault.{Fault}
use Rattle.dy_base.specs.declared.ids.BindingId.{BindingId}
use Rattle.dy_base.specs.declared.ids.What.{What}
use Rattle.dy_base.specs.declared.ids.What.TheVariants as whats
use Rattle.dy_base.specs.declared.kind.Kind.TheVariants.{Unbound}
use Rattle.dy_tree.specs.declared.token.Token.{Token}
use Rattle.dy_term.specs.declared.types.DyType.{DyType}
use Rattle.dy_term.specs.declared.types.Member.{Member}
use Rattle.dy_term.specs.declared.types.Member.TheVariants as members
use Rattle.dy_term.specs.Types.{CoreType, object, integer, named, single, single_name, union, range}
use Rattle.dy_term.specs.Rows.{CoreDraft, class_row, generic_row, method_row, domain_row}
use Rattle.dy_term.specs.Rows.{variable_row, top_term, CoreSlot, CoreVariable, function}
use Rattle.dy_term.specs.Rows.{type_constant, CoreTop, init, run}
use Rattle.dy_types.specs.Classes.{built_in}
use Rattle.dy_prims.specs.Rows.{dylan_row, io_row}
use Rattle.dy_names.specs.Naming.{Table}
use Rattle.dy_names.specs.Outside.{Outside}
use Rattle.dy_binding.specs.Faults.{fault_at}
use Rattle.dy_library_rows.specs.declared.names.RowCounts.{RowCounts}

-- the owner of a name of this module and text is this one
abbrev pub bound : ℕ → List ℕ → BindingId → Table → Table
bound module_number text owner table = λ name.
    cond (nat_eq module_number name.module && bytes_eq text name.text) (Some owner) (table name)

-- these names own the rows from this one on of a library
abbrev pub owning : ℕ → What → ℕ → List (List ℕ) → Table → Table
owning library what row [] table = table
owning library what row (text ∷ texts) table = owning library what (row + 1) texts
    (bound 0 text (record { what = what; at = record { library = library; row = row } }) table)

-- what `dylan`, the first library, and `io`, the second, export: the names of their generic
-- functions and of their functions
abbrev pub exports : Table
exports = owning 1 whats.Function 0 (map (λ v. v.name) io_row.variables)
    (owning 0 whats.Function 0 (map (λ v. v.name) dylan_row.variables)
    (owning 0 whats.Generic 0 (map (λ g. g.name) dylan_row.generics) (λ name. None)))

abbrev pub setter_name : Option Token → List (Token × What)
setter_name None = []
setter_name (Some setter) = (setter, whats.Generic) ∷ []

-- the generic functions of a slot
abbrev pub slot_names : CoreSlot → List (Token × What)
slot_names slot = (slot.getter, whats.Generic) ∷ setter_name slot.setter

abbrev pub slots_names : List CoreSlot → List (Token × What)
slots_names [] = []
slots_names (slot ∷ slots) = slot_names slot ++ slots_names slots

abbrev pub what_of : Bool → What
what_of true = whats.Constant
what_of false = whats.Variable

abbrev pub variable_names : CoreVariable → List (Token × What)
variable_names (function adjectives name code) = (name, whats.Function) ∷ []
variable_names (type_constant name declared meant) = (name, whats.Constant) ∷ []

abbrev pub top_names : CoreTop → List (Token × What)
top_names (init is_constant variables term) = map (λ v. (v.0, what_of is_constant)) variables
top_names (run term) = []

-- the names that a form defines, and what they are; a method makes its generic function
abbrev pub defined : CoreDraft → List (Token × What)
defined (class_row class) = (class.name, whats.Class) ∷ slots_names class.slots
defined (generic_row generic) = (generic.name, whats.Generic) ∷ []
defined (method_row method) = (method.generic, whats.Generic) ∷ []
defined (domain_row domain) = []
defined (variable_row variable) = variable_names variable
defined (top_term top) = top_names top

-- the row that comes next of a kind; constants and functions are rows of the variables
abbrev pub next_row : What → RowCounts → ℕ
next_row whats.Class rows = rows.classes
next_row whats.Generic rows = rows.generics
next_row whats.Variable rows = rows.variables
next_row whats.Constant rows = rows.variables
next_row whats.Function rows = rows.variables
next_row whats.Macro rows = rows.variables

abbrev pub counted : What → RowCounts → RowCounts
counted whats.Class rows = record rows { classes = rows.classes + 1 }
counted whats.Generic rows = record rows { generics = rows.generics + 1 }
counted whats.Variable rows = record rows { variables = rows.variables + 1 }
counted whats.Constant rows = record rows { variables = rows.variables + 1 }
counted whats.Function rows = record rows { variables = rows.variables + 1 }
counted whats.Macro rows = record rows { variables = rows.variables + 1 }

-- what the names mean so far, and how many rows the program's own library has
abbrev pub Names : Type 0
Names = Table × RowCounts

-- A name that means something keeps its meaning. Another gets the next row of its kind in the
-- third library, the program's own.
abbrev pub with_name_by : Option BindingId → Token → What → Names → Names
with_name_by (Some owner) name what names = names
with_name_by None name what names = (
  bound name.module name.text
      (record { what = what; at = record { library = 2; row = next_row what names.1 } }) names.0,
  counted what names.1,
)

abbrev pub with_name : Token × What → Names → Names
with_name pair names = with_name_by (names.0 pair.0) pair.0 pair.1 names

abbrev pub with_names : List (Token × What) → Names → Names
with_names [] names = names
with_names (pair ∷ pairs) names = with_names pairs (with_name pair names)

abbrev pub with_forms : List CoreDraft → Names → Names
with_forms [] names = names
with_forms (form ∷ forms) names = with_forms forms (with_names (defined form) names)

abbrev pub no_rows : RowCounts
no_rows = record { classes = 0; generics = 0; variables = 0 }

-- what the names of a program mean
abbrev pub names_of : List CoreDraft → Table
names_of forms = (with_forms forms (exports, no_rows)).0

abbrev pub type_of_member : Member → DyType
type_of_member member = record { members = member ∷ [] }

-- Where no type is written it is `<object>`, and `<integer>` for the numbers of a `for`. No name
-- means a type.
abbrev pub plain_type : CoreType → Result DyType Fault
plain_type object = Ok (type_of_member (members.Class (built_in 0)))
plain_type integer = Ok (type_of_member (members.Class (built_in 9)))
plain_type (named name) = Err (fault_at Unbound name (name.text ∷ []))
plain_type (single value) = Ok (type_of_member (members.Single value))
plain_type (single_name told name) = Err (fault_at Unbound name (name.text ∷ []))
plain_type (union told types) = Err (fault_at Unbound told (told.text ∷ []))
plain_type (range told least greatest) = Err (fault_at Unbound told (told.text ∷ []))

abbrev pub outside_with : Table → Outside
outside_with table = record { owner = table; type = λ locals declared. plain_type declared }
