-- What is built in, for a program without terms.
use Rattle.std.proofs.Common.{◌≡◌, ℕ, Bool, true, false, List, [], ◌∷◌, Option, Some, None, slice_get, refl, ap, ◌∙◌}
use Rattle.std.specs.Prelude.{nat_eq}
use Rattle.std.specs.Option.{option_map}
use Rattle.std.proofs.lemmas.Option.{slice_get-map}
use Rattle.dy_base.specs.declared.ids.BindingId.{BindingId}
use Rattle.dy_base.specs.declared.ids.Ref.{Ref}
use Rattle.dy_term.specs.declared.rows.LibraryRow.{LibraryRow}
use Rattle.dy_term.specs.declared.rows.VariableRow.{VariableRow}
use Rattle.dy_term.specs.declared.rows.Program.{Program}
use Rattle.dy_values.specs.declared.value.Variant.{Variant}
use Rattle.dy_values.specs.Errors.{read_too_early}
use Rattle.dy_printing.specs.Formatting as formatting
use Rattle.dy_outcome.specs.declared.state.State.{State}
use Rattle.dy_meaning.specs.Globals.{variable_in, variable_at, name_of, value_of}
use Rattle.dy_meaning.specs.Operations.{output}
use Rattle.dy_lowered.specs.Units.{bare_variable, bare_row}
use Rattle.dy_lowering_law.specs.Machines.{written, format_out, operated_if, value_or, variable}
use Rattle.dy_bare_machines.specs.Machines.{bare_program, BuiltInIsAlike}
use Rattle.dy_bare_machines.proofs.Printing.{line_same}
use Rattle.dy_bare_machines.proofs.Directives.{formatted_same}
use Rattle.dy_bare_machines.proofs.Methods.{sorted_same}

-- the names of variables
variable_in_library : (row : ℕ) (library : Option LibraryRow) → variable_in row (option_map bare_row library) ≡ option_map bare_variable (variable_in row library)
variable_in_library row None = refl
variable_in_library row (Some library) = slice_get-map bare_variable library.variables row

name_in_row : (row : Option VariableRow) → name_of (option_map bare_variable row) ≡ name_of row
name_in_row None = refl
name_in_row (Some row) = refl

module _ (program : Program) where
  abbrev bare : Program
  bare = bare_program program

  name_same : (at : Ref) → name_of (variable_at bare at) ≡ name_of (variable_at program at)
  name_same at =
      ap (λ (o : Option LibraryRow). name_of (variable_in at.row o)) (slice_get-map bare_row program.libraries at.library)
      ∙ (ap name_of (variable_in_library at.row (slice_get program.libraries at.library)) ∙ name_in_row (variable_at program at))

  variable_same : (named : BindingId) (state : State) → variable bare named state ≡ variable program named state
  variable_same named state = ap (λ (name : List ℕ). value_or (value_of state.store.globals named) (read_too_early name) state) (name_same named.at)

  -- operations
  output_same : (values : List Variant) (state : State) → format_out bare values state ≡ format_out program values state
  output_same [] state = refl
  output_same (text ∷ arguments) state = ap (λ (o : formatting.Outcome). written o state) (formatted_same program state.store text arguments state.fuel.left)

  operated_same : (is_output : Bool) (number : ℕ) (values : List Variant) (state : State) → operated_if is_output bare number values state ≡ operated_if is_output program number values state
  operated_same true number values state = output_same values state
  operated_same false number values state = refl

pub built_in_is_alike : BuiltInIsAlike
built_in_is_alike program = record {
  is_instance = refl;
  sorted = λ j store generic values. sorted_same program store generic values j;
  operation = λ j number values state. operated_same program (nat_eq number output) number values state j;
  accessor = refl;
  variable = λ j named state. variable_same program named state j;
  define = refl;
  line = λ j store error. line_same program store error j;
}
