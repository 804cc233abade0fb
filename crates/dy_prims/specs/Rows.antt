-- The rows of the built-in libraries (DRM 5, 6 and 12; which classes are open or abstract is own).
use Rattle.std.specs.Prelude.{ℕ, Bool, true, false, List, [], ◌∷◌, ◌++◌, map, codes}
use Rattle.std.specs.declared.option.Option.TheVariants.{None, Some}
use Rattle.dy_base.specs.declared.ids.GenericId.{GenericId}
use Rattle.dy_base.specs.declared.ids.ClassId.{ClassId}
use Rattle.dy_term.specs.declared.types.DyType.{DyType}
use Rattle.dy_term.specs.declared.types.Member.TheVariants as members
use Rattle.dy_term.specs.declared.types.Params.{Params}
use Rattle.dy_term.specs.declared.types.Results.{Results}
use Rattle.dy_term.specs.declared.rows.ClassRow.{ClassRow}
use Rattle.dy_term.specs.declared.rows.GenericRow.{GenericRow}
use Rattle.dy_term.specs.declared.rows.MethodRow.{MethodRow}
use Rattle.dy_term.specs.declared.rows.MethodCode.TheVariants.{Builtin}
use Rattle.dy_term.specs.declared.rows.DomainRow.{DomainRow}
use Rattle.dy_term.specs.declared.rows.VariableRow.{VariableRow}
use Rattle.dy_term.specs.declared.rows.LibraryRow.{LibraryRow}
use Rattle.dy_types.specs.Classes.{built_in}

-- the direct superclass in a class precedence list, which is the second class
abbrev pub above : List ℕ → List ℕ
above (class ∷ superclass ∷ others) = superclass ∷ []
above order = []

-- A class by its class precedence list.
abbrev pub class_row : List ℕ → List ℕ → Bool → Bool → ClassRow
class_row name order is_open is_abstract =
    record {
      name = name;
      supers = map built_in (above order);
      order = map built_in order;
      is_open = is_open;
      is_abstract = is_abstract;
      is_primary = false;
      slots = [];
    }

abbrev pub open_abstract : List ℕ → List ℕ → ClassRow
open_abstract name order = class_row name order true true

abbrev pub sealed_abstract : List ℕ → List ℕ → ClassRow
sealed_abstract name order = class_row name order false true

-- sealed and concrete
abbrev pub sealed : List ℕ → List ℕ → ClassRow
sealed name order = class_row name order false false

-- the class of all objects, and classes of single values and numbers
abbrev pub value_classes : List ClassRow
value_classes =
    open_abstract (codes "<object>") (0 ∷ [])
    ∷ sealed (codes "<boolean>") (1 ∷ 0 ∷ [])
    ∷ sealed (codes "<character>") (2 ∷ 0 ∷ [])
    ∷ sealed (codes "<symbol>") (3 ∷ 0 ∷ [])
    ∷ sealed_abstract (codes "<number>") (4 ∷ 0 ∷ [])
    ∷ []

-- the classes of collections, functions, types, conditions and integers
abbrev pub root_classes : List ClassRow
root_classes =
    open_abstract (codes "<collection>") (5 ∷ 0 ∷ [])
    ∷ sealed_abstract (codes "<function>") (6 ∷ 0 ∷ [])
    ∷ sealed (codes "<type>") (7 ∷ 0 ∷ [])
    ∷ open_abstract (codes "<condition>") (8 ∷ 0 ∷ [])
    ∷ sealed (codes "<integer>") (9 ∷ 4 ∷ 0 ∷ [])
    ∷ []

-- the class of sequences, and those directly below it
abbrev pub sequence_classes : List ClassRow
sequence_classes =
    open_abstract (codes "<sequence>") (10 ∷ 5 ∷ 0 ∷ [])
    ∷ sealed_abstract (codes "<list>") (11 ∷ 10 ∷ 5 ∷ 0 ∷ [])
    ∷ sealed_abstract (codes "<vector>") (12 ∷ 10 ∷ 5 ∷ 0 ∷ [])
    ∷ sealed_abstract (codes "<string>") (13 ∷ 10 ∷ 5 ∷ 0 ∷ [])
    ∷ sealed (codes "<range>") (14 ∷ 10 ∷ 5 ∷ 0 ∷ [])
    ∷ []

-- the classes below those of lists, vectors and strings
abbrev pub concrete_sequences : List ClassRow
concrete_sequences =
    sealed (codes "<pair>") (15 ∷ 11 ∷ 10 ∷ 5 ∷ 0 ∷ [])
    ∷ sealed (codes "<empty-list>") (16 ∷ 11 ∷ 10 ∷ 5 ∷ 0 ∷ [])
    ∷ sealed (codes "<simple-object-vector>") (17 ∷ 12 ∷ 10 ∷ 5 ∷ 0 ∷ [])
    ∷ sealed (codes "<stretchy-vector>") (18 ∷ 12 ∷ 10 ∷ 5 ∷ 0 ∷ [])
    ∷ sealed (codes "<byte-string>") (19 ∷ 13 ∷ 10 ∷ 5 ∷ 0 ∷ [])
    ∷ []

-- the classes of tables, functions and classes
abbrev pub other_classes : List ClassRow
other_classes =
    sealed_abstract (codes "<table>") (20 ∷ 5 ∷ 0 ∷ [])
    ∷ sealed (codes "<object-table>") (21 ∷ 20 ∷ 5 ∷ 0 ∷ [])
    ∷ sealed (codes "<generic-function>") (22 ∷ 6 ∷ 0 ∷ [])
    ∷ sealed (codes "<method>") (23 ∷ 6 ∷ 0 ∷ [])
    ∷ sealed (codes "<class>") (24 ∷ 7 ∷ 0 ∷ [])
    ∷ []

-- the open classes of conditions
abbrev pub condition_classes : List ClassRow
condition_classes =
    open_abstract (codes "<serious-condition>") (25 ∷ 8 ∷ 0 ∷ [])
    ∷ open_abstract (codes "<warning>") (26 ∷ 8 ∷ 0 ∷ [])
    ∷ open_abstract (codes "<restart>") (27 ∷ 8 ∷ 0 ∷ [])
    ∷ open_abstract (codes "<error>") (28 ∷ 25 ∷ 8 ∷ 0 ∷ [])
    ∷ []

-- the classes of conditions that can be made
abbrev pub concrete_conditions : List ClassRow
concrete_conditions =
    sealed (codes "<simple-error>") (29 ∷ 28 ∷ 25 ∷ 8 ∷ 0 ∷ [])
    ∷ sealed (codes "<type-error>") (30 ∷ 28 ∷ 25 ∷ 8 ∷ 0 ∷ [])
    ∷ sealed (codes "<simple-warning>") (31 ∷ 26 ∷ 8 ∷ 0 ∷ [])
    ∷ sealed (codes "<simple-restart>") (32 ∷ 27 ∷ 8 ∷ 0 ∷ [])
    ∷ []

abbrev pub first_classes : List ClassRow
first_classes = value_classes ++ root_classes ++ sequence_classes ++ concrete_sequences

-- the 33 classes, by their rows
abbrev pub classes : List ClassRow
classes = first_classes ++ other_classes ++ condition_classes ++ concrete_conditions

-- the type of the instances of a class
abbrev pub type_row : ℕ → DyType
type_row class = record { members = members.Class (built_in class) ∷ [] }

-- required parameters of these classes alone
abbrev pub params_row : List ℕ → Params
params_row classes = record
    { required = map type_row classes; rest = false; keys = None; all_keys = false }

abbrev pub generic_id : ℕ → GenericId
generic_id row = record { 0 = record { library = 0; row = row } }

-- an open generic function whose parameters are objects, and which gives any values
abbrev pub generic_row : List ℕ → List ℕ → GenericRow
generic_row name classes =
    record {
      name = name;
      is_open = true;
      params = params_row classes;
      results = record { required = []; rest = Some (type_row 0) };
    }

abbrev pub generics : List GenericRow
generics =
    generic_row (codes "+") (0 ∷ 0 ∷ [])
    ∷ generic_row (codes "-") (0 ∷ 0 ∷ [])
    ∷ generic_row (codes "*") (0 ∷ 0 ∷ [])
    ∷ generic_row (codes "negative") (0 ∷ [])
    ∷ generic_row (codes "<") (0 ∷ 0 ∷ [])
    ∷ []

-- a method of a generic function: the classes of its parameters, that of its result, and its
-- operation
abbrev pub method_row : ℕ → List ℕ → ℕ → ℕ → MethodRow
method_row generic classes result operation =
    record {
      generic = generic_id generic;
      params = params_row classes;
      results = record { required = type_row result ∷ []; rest = None };
      code = Builtin operation;
    }

abbrev pub methods : List MethodRow
methods =
    method_row 0 (9 ∷ 9 ∷ []) 9 0
    ∷ method_row 1 (9 ∷ 9 ∷ []) 9 1
    ∷ method_row 2 (9 ∷ 9 ∷ []) 9 2
    ∷ method_row 3 (9 ∷ []) 9 3
    ∷ method_row 4 (9 ∷ 9 ∷ []) 1 4
    ∷ method_row 4 (2 ∷ 2 ∷ []) 1 5
    ∷ []

-- Each of these methods is sealed.
abbrev pub domain_row : ℕ → List ℕ → ℕ → DomainRow
domain_row generic classes result =
    record {
      generic = generic_id generic;
      types = map type_row classes;
      result = Some (type_row result);
    }

abbrev pub domains : List DomainRow
domains =
    domain_row 0 (9 ∷ 9 ∷ []) 9
    ∷ domain_row 1 (9 ∷ 9 ∷ []) 9
    ∷ domain_row 2 (9 ∷ 9 ∷ []) 9
    ∷ domain_row 3 (9 ∷ []) 9
    ∷ domain_row 4 (9 ∷ 9 ∷ []) 1
    ∷ domain_row 4 (2 ∷ 2 ∷ []) 1
    ∷ []

-- a function by its operation
abbrev pub function_row : List ℕ → ℕ → VariableRow
function_row name operation =
    record {
      name = name;
      declared = type_row 0;
      is_constant = true;
      function = None;
      named = None;
      builtin = Some operation;
    }

abbrev pub functions : List VariableRow
functions = function_row (codes "==") 28 ∷ function_row (codes "~") 29
    ∷ function_row (codes "values") 61 ∷ []

-- the library `dylan`
abbrev pub dylan_row : LibraryRow
dylan_row =
    record {
      name = codes "dylan";
      uses = [];
      classes = classes;
      generics = generics;
      methods = methods;
      domains = domains;
      variables = functions;
      tops = [];
    }

-- the library `io`, which uses `dylan`
abbrev pub io_row : LibraryRow
io_row =
    record {
      name = codes "io";
      uses = 0 ∷ [];
      classes = [];
      generics = [];
      methods = [];
      domains = [];
      variables = function_row (codes "format-out") 71 ∷ [];
      tops = [];
    }
