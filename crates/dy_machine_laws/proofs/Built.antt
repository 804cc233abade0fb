-- What is built in fits each program, and adds no units.
use Rattle.std.proofs.Common.{◌≡◌, ℕ, zero, suc, ◌+◌, ◌≤◌, Bool, true, false, ◌&&◌, cond, List, [], ◌∷◌, ◌++◌, map, Option, Some, None, is_some, slice_get, refl, sym, ap, ◌∙◌, subst, arith}
use Rattle.std.specs.Prelude.{nat_eq, IsSome}
use Rattle.std.specs.List.{filter}
use Rattle.dy_base.specs.declared.ids.BindingId.{BindingId}
use Rattle.dy_base.specs.declared.ids.GenericId.{GenericId}
use Rattle.dy_base.specs.declared.ids.MethodId.{MethodId}
use Rattle.dy_term.specs.declared.rows.MethodRow.{MethodRow}
use Rattle.dy_term.specs.declared.rows.LibraryRow.{LibraryRow}
use Rattle.dy_term.specs.declared.rows.Program.{Program}
use Rattle.dy_values.specs.declared.value.Variant.{Variant}
use Rattle.dy_values.specs.declared.store.Store.{Store}
use Rattle.dy_values.specs.declared.error.ErrorRow.{ErrorRow}
use Rattle.dy_values.specs.Errors.{not_a_function, read_too_early}
use Rattle.dy_printing.specs.Formatting as formatting
use Rattle.dy_printing.specs.Formatting.{formatted}
use Rattle.dy_prims.specs.Operations.{Answered, Answers, Fails, NoUnit, applied}
use Rattle.dy_outcome.specs.declared.state.State.{State}
use Rattle.dy_outcome.specs.States.{with_piece}
use Rattle.dy_outcome.specs.Nearness.{units_of}
use Rattle.dy_meaning.specs.Globals.{is_same_ref, name_of, variable_at, value_of, with_global}
use Rattle.dy_meaning.specs.Operations as meaning
use Rattle.dy_meaning.specs.Operations.{with_units, output}
use Rattle.dy_meaning.specs.Programs.{are_instances}
use Rattle.dy_meaning.proofs.Orderly.{orderly}
use Rattle.dy_code.specs.declared.unit.Linked.{Linked}
use Rattle.dy_code.specs.Programs.{if_there}
use Rattle.dy_code.specs.Validity.{Every, IsThere}
use Rattle.dy_steps.proofs.Kept.{every_append}
use Rattle.dy_steps.proofs.Never.{valid_code_ends}
use Rattle.dy_steps.specs.Configurations.{Performed, Gives, Signals, Lacks}
use Rattle.dy_steps.specs.Standing.{IsRightStore, LeavesRight, IsOrderly, AddsNone, IsThrifty}
use Rattle.dy_lowering_law.specs.Machines.{linked_program, failing_from, failing, answered, written, format_out, operated_if, operated, value_or, variable, methods_from, all_methods_from, applicable, sorted, machine_of}
use Rattle.dy_machine_laws.specs.Machines.{MachinesAreOrderly, MachinesAreThrifty, ValidProgramsEnd}

failing_none : (bound units : ℕ) (error : ErrorRow) (state : State) → AddsNone bound (failing_from units error state)
failing_none bound zero error state = tt
failing_none bound (suc units) error state = tt

-- What an operation does here leaves as many units as in what the program means.
answered_none : (program : Program) (a : Answered) (state : State) → units_of (meaning.answer program a state) ≤ state.fuel.left → AddsNone state.fuel.left (answered a state)
answered_none program (Answers values units) state low = low
answered_none program (Fails error units) state low = tt
answered_none program NoUnit state low = tt

written_none : (program : Program) (o : formatting.Outcome) (state : State) → units_of (meaning.written program o state) ≤ state.fuel.left → AddsNone state.fuel.left (written o state)
written_none program (formatting.Written text units) state low = low
written_none program (formatting.Failed error units) state low = tt
written_none program formatting.NoUnit state low = tt

output_none : (program : Program) (values : List Variant) (state : State) → units_of (meaning.format_out program values state) ≤ state.fuel.left → AddsNone state.fuel.left (format_out program values state)
output_none program [] state low = failing_none state.fuel.left state.fuel.left _ state
output_none program (text ∷ arguments) state low = written_none program (formatted program state.store text arguments state.fuel.left) state low

operated_none : (is_output : Bool) (program : Program) (number : ℕ) (values : List Variant) (state : State) → units_of (meaning.operated_if is_output program number values state) ≤ state.fuel.left
    → AddsNone state.fuel.left (operated_if is_output program number values state)
operated_none true program number values state low = output_none program values state low
operated_none false program number values state low = answered_none program (applied number values state.fuel.left) state low

value_none : (value : Option Variant) (error : ErrorRow) (state : State) → AddsNone state.fuel.left (value_or value error state)
value_none None error state = failing_none state.fuel.left state.fuel.left error state
value_none (Some value) error state = omega arith

pub thrifty : MachinesAreThrifty
thrifty program = record {
  operation = λ number values state. operated_none (nat_eq number output) program number values state ((orderly program).operations number values [] state);
  accessor = λ method values state. failing_none state.fuel.left state.fuel.left not_a_function state;
  variable = λ name state. value_none (value_of state.store.globals name) (read_too_early (name_of (variable_at program name.at))) state;
  define = λ name value state. omega arith;
}

-- the store
failing_right : (linked : Linked) (units : ℕ) (error : ErrorRow) (state : State) → LeavesRight linked (failing_from units error state)
failing_right linked zero error state = tt
failing_right linked (suc units) error state = tt

answered_right : (linked : Linked) (a : Answered) (state : State) → IsRightStore linked state.store → LeavesRight linked (answered a state)
answered_right linked (Answers values units) state right = right
answered_right linked (Fails error units) state right = tt
answered_right linked NoUnit state right = tt

piece_right : (linked : Linked) (text : List ℕ) (state : State) → IsRightStore linked state.store → IsRightStore linked (with_piece text state).store
piece_right linked [] state right = right
piece_right linked (byte ∷ bytes) state right = right

written_right : (linked : Linked) (o : formatting.Outcome) (state : State) → IsRightStore linked state.store → LeavesRight linked (written o state)
written_right linked (formatting.Written text units) state right = piece_right linked text (with_units units state) right
written_right linked (formatting.Failed error units) state right = tt
written_right linked formatting.NoUnit state right = tt

output_right : (linked : Linked) (program : Program) (values : List Variant) (state : State) → IsRightStore linked state.store → LeavesRight linked (format_out program values state)
output_right linked program [] state right = failing_right linked state.fuel.left _ state
output_right linked program (text ∷ arguments) state right = written_right linked (formatted program state.store text arguments state.fuel.left) state right

operated_right : (linked : Linked) (is_output : Bool) (program : Program) (number : ℕ) (values : List Variant) (state : State) → IsRightStore linked state.store
    → LeavesRight linked (operated_if is_output program number values state)
operated_right linked true program number values state right = output_right linked program values state right
operated_right linked false program number values state right = answered_right linked (applied number values state.fuel.left) state right

value_right : (linked : Linked) (value : Option Variant) (error : ErrorRow) (state : State) → IsRightStore linked state.store → LeavesRight linked (value_or value error state)
value_right linked None error state right = failing_right linked state.fuel.left error state
value_right linked (Some value) error state right = right

-- sorted methods are methods of the program
filter_every : {A : Type 0} (P : A → Type 0) (test : A → Bool) (xs : List A) → Every P xs → Every P (filter test xs)
filter_every P test [] all = tt
filter_every P test (x ∷ xs) all = step (test x) (filter_every P test xs all.1)
  where
    step : (b : Bool) → Every P (filter test xs) → Every P (cond b (x ∷ filter test xs) (filter test xs))
    step true rest = (all.0, rest)
    step false rest = rest

module _ (program : Program) where
  abbrev linked : Linked
  linked = linked_program program

  abbrev There : MethodId × MethodRow → Type 0
  There method = IsThere linked method.0

  methods_there : (place : ℕ) (library : LibraryRow) → slice_get program.libraries place ≡ Some library → (row : ℕ) (methods : List MethodRow)
      → ((i : ℕ) (m : MethodRow) → slice_get methods i ≡ Some m → slice_get library.methods (row + i) ≡ Some m) → Every There (methods_from place row methods)
  methods_there place library there row [] each = tt
  methods_there place library there row (m ∷ methods) each =
      let first : row + 0 ≡ row = omega arith in
      let at : slice_get library.methods row ≡ Some m = ap (slice_get library.methods) (sym first) ∙ each 0 m refl in (
        ap is_some (ap (λ (o : Option LibraryRow). if_there o (λ l. slice_get l.methods row)) there ∙ at),
        methods_there place library there (row + 1) methods (λ i x e. let next : row + 1 + i ≡ row + suc i = omega arith in ap (slice_get library.methods) next ∙ each (suc i) x e),
      )

  libraries_there : (place : ℕ) (libraries : List LibraryRow) → ((i : ℕ) (l : LibraryRow) → slice_get libraries i ≡ Some l → slice_get program.libraries (place + i) ≡ Some l) → Every There (all_methods_from place libraries)
  libraries_there place [] each = tt
  libraries_there place (library ∷ libraries) each =
      let first : place + 0 ≡ place = omega arith in
      let at : slice_get program.libraries place ≡ Some library = ap (slice_get program.libraries) (sym first) ∙ each 0 library refl in
      every_append There (methods_from place 0 library.methods) (all_methods_from (place + 1) libraries)
      (methods_there place library at 0 library.methods (λ i m e. let same : 0 + i ≡ i = omega arith in ap (slice_get library.methods) same ∙ e))
      (libraries_there (place + 1) libraries (λ i l e. let next : place + 1 + i ≡ place + suc i = omega arith in ap (slice_get program.libraries) next ∙ each (suc i) l e))

  sorted_there : (methods : List (MethodId × MethodRow)) → Every There methods → Every (IsThere linked) (sorted methods).0
  sorted_there [] all = tt
  sorted_there (method ∷ []) all = (all.0, tt)
  sorted_there (method ∷ other ∷ others) all = tt

  all_sorted : (store : Store) (generic : GenericId) (values : List Variant) → Every (IsThere linked) (sorted (applicable program store generic values)).0
  all_sorted store generic values =
      sorted_there (applicable program store generic values)
      (filter_every There (λ method. is_same_ref method.1.generic.0 generic.0 && are_instances program store values method.1.params.required) (all_methods_from 0 program.libraries)
      (libraries_there 0 program.libraries (λ i l e. let same : 0 + i ≡ i = omega arith in ap (slice_get program.libraries) same ∙ e)))

pub machine_orderly : MachinesAreOrderly
machine_orderly program = record {
  sorted = λ store generic values. all_sorted program store generic values;
  operation = λ number values state right. operated_right (linked_program program) (nat_eq number output) program number values state right;
  accessor = λ method values state right. failing_right (linked_program program) state.fuel.left not_a_function state;
  variable = λ name state right. value_right (linked_program program) (value_of state.store.globals name) (read_too_early (name_of (variable_at program name.at))) state right;
  define = λ name value state right. right;
}

pub valid_programs_end : ValidProgramsEnd
valid_programs_end program fuel valid = valid_code_ends (machine_of program) valid (machine_orderly program) (thrifty program) fuel
