-- What the machine asks of the rows of a program without terms: it is answered as with them, or the
-- row is that without terms.
use Rattle.std.proofs.Common.{◌≡◌, ℕ, ◌+◌, List, [], ◌∷◌, map, take, Option, Some, None, slice_get, refl, ap, ◌∙◌}
use Rattle.std.specs.Prelude.{is_some}
use Rattle.std.specs.Option.{option_map}
use Rattle.std.proofs.lemmas.Option.{slice_get-map}
use Rattle.std.proofs.lemmas.List.{take-map}
use Rattle.dy_base.specs.declared.ids.BindingId.{BindingId}
use Rattle.dy_base.specs.declared.ids.GenericId.{GenericId}
use Rattle.dy_base.specs.declared.ids.MethodId.{MethodId}
use Rattle.dy_term.specs.declared.term.Lambda.{Lambda}
use Rattle.dy_term.specs.declared.rows.MethodCode.{MethodCode}
use Rattle.dy_term.specs.declared.rows.MethodCode.TheVariants.{Dylan, Getter, Setter, Builtin}
use Rattle.dy_term.specs.declared.rows.MethodRow.{MethodRow}
use Rattle.dy_term.specs.declared.rows.VariableRow.{VariableRow}
use Rattle.dy_term.specs.declared.rows.LibraryRow.{LibraryRow}
use Rattle.dy_code.specs.declared.unit.Linked.{Linked}
use Rattle.dy_code.specs.Programs.{if_there, library_at, generic_row, method_row, variable_row, is_dylan, dylan_methods, dylan_functions, start_at, method_body, function_body}
use Rattle.dy_code.specs.Validity.{generic_of}
use Rattle.dy_lowered.specs.Units.{bare_lambda, bare_code, bare_method, bare_variable, bare_row}
use Rattle.dy_bare_machines.specs.Machines.{bare_program}
use Rattle.dy_bare_machines.proofs.Lists.{count_mapped}

-- the same code, with rows without terms
abbrev pub bare_linked : Linked → Linked
bare_linked linked = record linked { program = bare_program linked.program }

-- as many methods are written in Dylan, and as many functions
is_dylan_same : (code : MethodCode) → is_dylan (bare_code code) ≡ is_dylan code
is_dylan_same (Dylan lambda) = refl
is_dylan_same (Getter class slot) = refl
is_dylan_same (Setter class slot) = refl
is_dylan_same (Builtin operation) = refl

is_function_same : (function : Option Lambda) → is_some (option_map bare_lambda function) ≡ is_some function
is_function_same None = refl
is_function_same (Some lambda) = refl

methods_same : (methods : List MethodRow) → dylan_methods (map bare_method methods) ≡ dylan_methods methods
methods_same methods = count_mapped bare_method (λ method. is_dylan method.code) (λ method. is_dylan method.code) (λ method. is_dylan_same method.code) methods

functions_same : (variables : List VariableRow) → dylan_functions (map bare_variable variables) ≡ dylan_functions variables
functions_same variables =
    count_mapped bare_variable (λ variable. is_some variable.function) (λ variable. is_some variable.function) (λ variable. is_function_same variable.function) variables

first_methods : (n : ℕ) (methods : List MethodRow) → dylan_methods (take n (map bare_method methods)) ≡ dylan_methods (take n methods)
first_methods n methods = ap dylan_methods (take-map bare_method n methods) ∙ methods_same (take n methods)

first_functions : (n : ℕ) (variables : List VariableRow) → dylan_functions (take n (map bare_variable variables)) ≡ dylan_functions (take n variables)
first_functions n variables = ap dylan_functions (take-map bare_variable n variables) ∙ functions_same (take n variables)

-- rows in a library that may be there
generic_in_library : (row : ℕ) (library : Option LibraryRow) → if_there (option_map bare_row library) (λ l. slice_get l.generics row) ≡ if_there library (λ l. slice_get l.generics row)
generic_in_library row None = refl
generic_in_library row (Some library) = refl

method_in_library : (row : ℕ) (library : Option LibraryRow)
    → if_there (option_map bare_row library) (λ l. slice_get l.methods row) ≡ option_map bare_method (if_there library (λ l. slice_get l.methods row))
method_in_library row None = refl
method_in_library row (Some library) = slice_get-map bare_method library.methods row

variable_in_library : (row : ℕ) (library : Option LibraryRow)
    → if_there (option_map bare_row library) (λ l. slice_get l.variables row) ≡ option_map bare_variable (if_there library (λ l. slice_get l.variables row))
variable_in_library row None = refl
variable_in_library row (Some library) = slice_get-map bare_variable library.variables row

generic_of_method : (method : Option MethodRow) → option_map (λ row. row.generic) (option_map bare_method method) ≡ option_map (λ row. row.generic) method
generic_of_method None = refl
generic_of_method (Some row) = refl

module _ (linked : Linked) where
  library_same : (library : ℕ) → library_at (bare_linked linked) library ≡ option_map bare_row (library_at linked library)
  library_same library = slice_get-map bare_row linked.program.libraries library

  pub generic_row_same : (generic : GenericId) → generic_row (bare_linked linked) generic ≡ generic_row linked generic
  generic_row_same generic =
      ap (λ (o : Option LibraryRow). if_there o (λ l. slice_get l.generics generic.0.row)) (library_same generic.0.library)
      ∙ generic_in_library generic.0.row (library_at linked generic.0.library)

  pub method_row_bare : (method : MethodId) → method_row (bare_linked linked) method ≡ option_map bare_method (method_row linked method)
  method_row_bare method =
      ap (λ (o : Option LibraryRow). if_there o (λ l. slice_get l.methods method.0.row)) (library_same method.0.library)
      ∙ method_in_library method.0.row (library_at linked method.0.library)

  pub variable_row_bare : (named : BindingId) → variable_row (bare_linked linked) named ≡ option_map bare_variable (variable_row linked named)
  variable_row_bare named =
      ap (λ (o : Option LibraryRow). if_there o (λ l. slice_get l.variables named.at.row)) (library_same named.at.library)
      ∙ variable_in_library named.at.row (library_at linked named.at.library)

  -- the bodies of methods and functions
  method_starts : (place row : ℕ) (library : Option LibraryRow)
      → if_there (option_map bare_row library) (λ l. start_at linked place (dylan_methods (take row l.methods))) ≡ if_there library (λ l. start_at linked place (dylan_methods (take row l.methods)))
  method_starts place row None = refl
  method_starts place row (Some library) = ap (start_at linked place) (first_methods row library.methods)

  function_starts : (place row : ℕ) (library : Option LibraryRow)
      → if_there (option_map bare_row library) (λ l. start_at linked place (dylan_methods l.methods + dylan_functions (take row l.variables)))
      ≡ if_there library (λ l. start_at linked place (dylan_methods l.methods + dylan_functions (take row l.variables)))
  function_starts place row None = refl
  function_starts place row (Some library) = λ j. start_at linked place (methods_same library.methods j + first_functions row library.variables j)

  pub method_body_same : (method : MethodId) → method_body (bare_linked linked) method ≡ method_body linked method
  method_body_same method =
      ap (λ (o : Option LibraryRow). if_there o (λ l. start_at linked method.0.library (dylan_methods (take method.0.row l.methods)))) (library_same method.0.library)
      ∙ method_starts method.0.library method.0.row (library_at linked method.0.library)

  pub function_body_same : (named : BindingId) → function_body (bare_linked linked) named ≡ function_body linked named
  function_body_same named =
      ap (λ (o : Option LibraryRow). if_there o (λ l. start_at linked named.at.library (dylan_methods l.methods + dylan_functions (take named.at.row l.variables)))) (library_same named.at.library)
      ∙ function_starts named.at.library named.at.row (library_at linked named.at.library)

  -- the generic function of methods
  pub generic_of_same : (sorted ambiguous : List MethodId) → generic_of (bare_linked linked) sorted ambiguous ≡ generic_of linked sorted ambiguous
  generic_of_same (method ∷ methods) ambiguous =
      ap (option_map (λ (row : MethodRow). row.generic)) (method_row_bare method) ∙ generic_of_method (method_row linked method)
  generic_of_same [] (method ∷ methods) =
      ap (option_map (λ (row : MethodRow). row.generic)) (method_row_bare method) ∙ generic_of_method (method_row linked method)
  generic_of_same [] [] = refl
