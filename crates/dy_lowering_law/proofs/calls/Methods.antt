-- The bodies of functions and of methods.
use Rattle.std.proofs.Common.{◌≡◌, ℕ, suc, ◌+◌, List, [], ◌∷◌, ◌++◌, length, flat_map, slice_get, Option, Some, None, refl, sym, ap, ◌∙◌, subst, arith, cond, Bool, true, false, filter}
use Rattle.std.specs.Option.{option_map}
use Rattle.std.proofs.lemmas.Option.{none-some}
use Rattle.dy_base.specs.declared.ids.BindingId.{BindingId}
use Rattle.dy_base.specs.declared.ids.MethodId.{MethodId}
use Rattle.dy_term.specs.declared.term.Lambda.{Lambda}
use Rattle.dy_term.specs.declared.rows.MethodRow.{MethodRow}
use Rattle.dy_term.specs.declared.rows.VariableRow.{VariableRow}
use Rattle.dy_term.specs.declared.rows.LibraryRow.{LibraryRow}
use Rattle.dy_term.specs.declared.rows.Program.{Program}
use Rattle.dy_code.specs.Programs.{if_there, variable_row, function_body}
use Rattle.dy_meaning.specs.Lambdas.{of_method, of_variable, of_classes, of_library}
use Rattle.dy_meaning.specs.Numbering.{numbered_by, numbered_libraries, numbered_methods}
use Rattle.dy_meaning.specs.Programs.{numbered_variable_in, numbered_variable, methods_of}
use Rattle.dy_lowering_law.specs.Machines.{linked_program, methods_from, all_methods_from}
use Rattle.dy_lowering_law.specs.calls.Lambdas.{HasBody, IsMethod, AreMethods}
use Rattle.dy_lowering_law.proofs.calls.Numbers.{numbered_rows, numbered_at, function_has, method_has}

pub functions_have : (program : Program) (named : BindingId) (row : VariableRow) (number : ℕ) (lambda : Lambda) → numbered_variable program named.at ≡ Some (row, number) → row.function ≡ Some lambda
    → HasBody program number lambda (function_body (linked_program program) named)
functions_have program named row number lambda e f = in_library (slice_get (numbered_libraries program) named.at.library) refl e
  where
    in_library : (held : Option (LibraryRow × ℕ)) → slice_get (numbered_libraries program) named.at.library ≡ held → numbered_variable_in named.at.row held ≡ Some (row, number) → HasBody program number lambda (function_body (linked_program program) named)
    in_library None here e = absurd (none-some {A = VariableRow × ℕ} (row, number) e)
    in_library (Some found) here e =
        let one = numbered_at of_library program.libraries 0 named.at.library found here in
        let other = numbered_at of_variable found.0.variables _ named.at.row (row, number) e in
        function_has program named.at.library found.0 one.0 named row number lambda named.at.row refl refl other.0 (omega (arith, one.1, other.1)) f

-- the row of a variable, with and without the number of its lambda
variable_in : (place : ℕ) (held : Option (LibraryRow × ℕ)) → option_map (λ found. found.0) (numbered_variable_in place held) ≡ if_there (option_map (λ found. found.0) held) (λ l. slice_get l.variables place)
variable_in place None = refl
variable_in place (Some found) = numbered_rows of_variable found.0.variables _ place

pub variable_same : (program : Program) (named : BindingId) → variable_row (linked_program program) named ≡ option_map (λ found. found.0) (numbered_variable program named.at)
variable_same program named =
    ap (λ o. if_there o (λ l. slice_get l.variables named.at.row)) (sym (numbered_rows of_library program.libraries 0 named.at.library))
    ∙ sym (variable_in named.at.row (slice_get (numbered_libraries program) named.at.library))

abbrev numbered_id : (library row : ℕ) → MethodId
numbered_id library row = record { 0 = record { library = library; row = row } }

module _ (program : Program) where
  are_joined : (left : List (MethodId × MethodRow)) (one : List (MethodRow × ℕ)) (right : List (MethodId × MethodRow)) (other : List (MethodRow × ℕ)) → AreMethods program left one → AreMethods program right other → AreMethods program (left ++ right) (one ++ other)
  are_joined [] [] right other a b = b
  are_joined [] (u ∷ one) right other a b = absurd a
  are_joined (m ∷ left) [] right other a b = absurd a
  are_joined (m ∷ left) (u ∷ one) right other a b = (a.0, are_joined left one right other a.1 b)

  rows_are : (library row : ℕ) (methods : List MethodRow) (number : ℕ) → ((k : ℕ) (found : MethodRow × ℕ) → slice_get (numbered_by of_method methods number) k ≡ Some found → IsMethod program (numbered_id library (row + k), found.0) found)
      → AreMethods program (methods_from library row methods) (numbered_by of_method methods number)
  rows_are library row [] number each = tt
  rows_are library row (method ∷ methods) number each =
      let here : row + 0 ≡ row = omega arith in (
        subst (λ (r : ℕ). IsMethod program (numbered_id library r, method) (method, number)) here (each 0 (method, number) refl),
        rows_are library (row + 1) methods (number + length (of_method method))
            (λ k found e. let there : row + suc k ≡ row + 1 + k = omega arith in subst (λ (r : ℕ). IsMethod program (numbered_id library r, found.0) found) there (each (suc k) found e)),
      )

  libraries_are : (place : ℕ) (libraries : List LibraryRow) (start : ℕ) → ((k : ℕ) (found : LibraryRow × ℕ) → slice_get (numbered_by of_library libraries start) k ≡ Some found → AreMethods program (methods_from (place + k) 0 found.0.methods) (numbered_methods found))
      → AreMethods program (all_methods_from place libraries) (flat_map numbered_methods (numbered_by of_library libraries start))
  libraries_are place [] start each = tt
  libraries_are place (library ∷ libraries) start each =
      let here : place + 0 ≡ place = omega arith in
      are_joined (methods_from place 0 library.methods) (numbered_methods (library, start)) (all_methods_from (place + 1) libraries) (flat_map numbered_methods (numbered_by of_library libraries (start + length (of_library library))))
      (subst (λ (p : ℕ). AreMethods program (methods_from p 0 library.methods) (numbered_methods (library, start))) here (each 0 (library, start) refl))
      (libraries_are (place + 1) libraries (start + length (of_library library))
      (λ k found e. let there : place + suc k ≡ place + 1 + k = omega arith in subst (λ (p : ℕ). AreMethods program (methods_from p 0 found.0.methods) (numbered_methods found)) there (each (suc k) found e)))

  is_method : (k : ℕ) (found : LibraryRow × ℕ) → slice_get (numbered_libraries program) k ≡ Some found → (m : ℕ) (method : MethodRow × ℕ) → slice_get (numbered_methods found) m ≡ Some method → IsMethod program (numbered_id k m, method.0) method
  is_method k found e m method h =
      let one = numbered_at of_library program.libraries 0 k found e in
      let other = numbered_at of_method found.0.methods (found.1 + length (of_classes found.0)) m method h in
      record {
        row = refl;
        stands = ap (λ o. if_there o (λ l. slice_get l.methods m)) one.0 ∙ other.0;
        body = λ lambda f. method_has program k found.0 one.0 method.0 method.1 lambda m other.0 (omega (arith, one.1, other.1)) f;
      }

  pub methods_have : AreMethods program (all_methods_from 0 program.libraries) (methods_of program)
  methods_have =
      libraries_are 0 program.libraries 0
      (λ k found e. let at : k ≡ 0 + k = omega arith in
      subst (λ (p : ℕ). AreMethods program (methods_from p 0 found.0.methods) (numbered_methods found)) at
      (rows_are k 0 found.0.methods (found.1 + length (of_classes found.0))
      (λ m method h. let there : m ≡ 0 + m = omega arith in
      subst (λ (r : ℕ). IsMethod program (numbered_id k r, method.0) method) there (is_method k found e m method h))))

  -- those that pass a test of their rows
  kept_if : (b c : Bool) → b ≡ c → (method : MethodId × MethodRow) (numbered : MethodRow × ℕ) (methods : List (MethodId × MethodRow)) (others : List (MethodRow × ℕ)) → IsMethod program method numbered → AreMethods program methods others
      → AreMethods program (cond b (method ∷ methods) methods) (cond c (numbered ∷ others) others)
  kept_if b c e method numbered methods others is are = subst (λ (d : Bool). AreMethods program (cond b (method ∷ methods) methods) (cond d (numbered ∷ others) others)) e (both b)
    where
      both : (b : Bool) → AreMethods program (cond b (method ∷ methods) methods) (cond b (numbered ∷ others) others)
      both true = (is, are)
      both false = are

  pub methods_kept : (test : MethodRow → Bool) (methods : List (MethodId × MethodRow)) (others : List (MethodRow × ℕ)) → AreMethods program methods others → AreMethods program (filter (λ m. test m.1) methods) (filter (λ m. test m.0) others)
  methods_kept test [] [] are = tt
  methods_kept test [] (u ∷ others) are = absurd are
  methods_kept test (m ∷ methods) [] are = absurd are
  methods_kept test (m ∷ methods) (u ∷ others) are =
      kept_if (test m.1) (test u.0) (ap test are.0.row) m u (filter (λ k. test k.1) methods) (filter (λ k. test k.0) others) are.0 (methods_kept test methods others are.1)
