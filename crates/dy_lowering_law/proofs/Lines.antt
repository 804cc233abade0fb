-- What is printed does not see the numbers of closures.
use Rattle.std.proofs.Common.{◌≡◌, ℕ, zero, suc, Bool, true, false, List, [], ◌∷◌, ◌++◌, map, Option, Some, None, refl, sym, ap, ◌∙◌}
use Rattle.std.specs.Prelude.{codes, slice_get}
use Rattle.std.specs.Option.{option_map}
use Rattle.std.proofs.lemmas.Option.{slice_get-map}
use Rattle.dy_term.specs.declared.rows.Program.{Program}
use Rattle.dy_values.specs.declared.value.Variant.{Variant}
use Rattle.dy_values.specs.declared.value.Variant.TheVariants.{Int, Char, Bool as Truth, Symbol, Nil, Class, TypeValue, Generic, Function, Builtin, Object}
use Rattle.dy_values.specs.declared.object.ObjectRow.{ObjectRow}
use Rattle.dy_values.specs.declared.object.ObjectRow.TheVariants as object
use Rattle.dy_values.specs.declared.error.ErrorRow.{ErrorRow}
use Rattle.dy_values.specs.declared.error.ErrorRow.TheVariants.{Simple, WrongType}
use Rattle.dy_values.specs.declared.store.Store.{Store}
use Rattle.dy_values.specs.Classes.{class_name}
use Rattle.dy_printing.specs.Printing.{Printed, Text, after_text, and_print, costing, object_text, text_of, Element, next_printed, rest_within, rest_printed, list_printed, held_printed, inside, printed_within}
use Rattle.dy_values.specs.Objects.{pair_in, pair_at, vector_in, vector_at}
use Rattle.dy_printing.specs.Unhandled.{type_text}
use Rattle.dy_values.specs.Errors.{error_class}
use Rattle.dy_printing.specs.Unhandled.{error_printed, cut_text, unhandled_line}
use Rattle.dy_lowering_law.specs.Renumbering.{renumbered_row, renumbered_store}

module _ (number : ℕ → ℕ) where
  pair_row : (row : Option ObjectRow) → pair_in (option_map (renumbered_row number) row) ≡ pair_in row
  pair_row None = refl
  pair_row (Some (object.Pair head tail)) = refl
  pair_row (Some (object.Instance class slots)) = refl
  pair_row (Some (object.Vector stretchy items)) = refl
  pair_row (Some (object.Bytes bytes)) = refl
  pair_row (Some (object.Table entries)) = refl
  pair_row (Some (object.Range start step end)) = refl
  pair_row (Some (object.Closure lambda captured)) = refl
  pair_row (Some (object.Exit block)) = refl
  pair_row (Some (object.NextMethod generic methods ambiguous arguments)) = refl
  pair_row (Some (object.NextHandler block value)) = refl
  pair_row (Some (object.Cell value)) = refl

  vector_row : (row : Option ObjectRow) → vector_in (option_map (renumbered_row number) row) ≡ vector_in row
  vector_row None = refl
  vector_row (Some (object.Pair head tail)) = refl
  vector_row (Some (object.Instance class slots)) = refl
  vector_row (Some (object.Vector stretchy items)) = refl
  vector_row (Some (object.Bytes bytes)) = refl
  vector_row (Some (object.Table entries)) = refl
  vector_row (Some (object.Range start step end)) = refl
  vector_row (Some (object.Closure lambda captured)) = refl
  vector_row (Some (object.Exit block)) = refl
  vector_row (Some (object.NextMethod generic methods ambiguous arguments)) = refl
  vector_row (Some (object.NextHandler block value)) = refl
  vector_row (Some (object.Cell value)) = refl

  text_row : (program : Program) (escaped : Bool) (row : Option ObjectRow) → object_text program escaped (option_map (renumbered_row number) row) ≡ object_text program escaped row
  text_row program escaped None = refl
  text_row program escaped (Some (object.Pair head tail)) = refl
  text_row program escaped (Some (object.Instance class slots)) = refl
  text_row program escaped (Some (object.Vector stretchy items)) = refl
  text_row program escaped (Some (object.Bytes bytes)) = refl
  text_row program escaped (Some (object.Table entries)) = refl
  text_row program escaped (Some (object.Range start step end)) = refl
  text_row program escaped (Some (object.Closure lambda captured)) = refl
  text_row program escaped (Some (object.Exit block)) = refl
  text_row program escaped (Some (object.NextMethod generic methods ambiguous arguments)) = refl
  text_row program escaped (Some (object.NextHandler block value)) = refl
  text_row program escaped (Some (object.Cell value)) = refl

  pair_same : (store : Store) (value : Variant) → pair_at (renumbered_store number store) value ≡ pair_at store value
  pair_same store (Object place) = ap pair_in (slice_get-map (renumbered_row number) store.objects place) ∙ pair_row (slice_get store.objects place)
  pair_same store value = refl

  vector_same : (store : Store) (value : Variant) → vector_at (renumbered_store number store) value ≡ vector_at store value
  vector_same store (Object place) = ap vector_in (slice_get-map (renumbered_row number) store.objects place) ∙ vector_row (slice_get store.objects place)
  vector_same store value = refl

  text_same : (program : Program) (store : Store) (escaped : Bool) (value : Variant) → text_of program (renumbered_store number store) escaped value ≡ text_of program store escaped value
  text_same program store escaped (Object place) = ap (object_text program escaped) (slice_get-map (renumbered_row number) store.objects place) ∙ text_row program escaped (slice_get store.objects place)
  text_same program store escaped value = refl

  rest_same : (element : Element) (store : Store) (bound : ℕ) (rest : Variant) (units : ℕ) → rest_within element (renumbered_store number store) bound rest units ≡ rest_within element store bound rest units
  rest_same element store zero rest units = refl
  rest_same element store (suc bound) rest units =
      λ i. next_printed element (pair_same store rest i) rest units (λ r u. rest_same element store bound r u i)

  held_same : (element : Element) (store : Store) (items : Option (List Variant)) (pair : Option (Variant × Variant)) (text : List ℕ) (units : ℕ)
      → held_printed element (renumbered_store number store) items pair text units ≡ held_printed element store items pair text units
  held_same element store (Some items) pair text units = refl
  held_same element store None (Some pair) text units =
      λ i. after_text (codes "#(") (and_print (element pair.0 units) (λ u. rest_same element store (suc u) pair.1 u i))
  held_same element store None None text units = refl

  inside_same : (program : Program) (store : Store) (levels : ℕ) (escaped : Bool) (value : Variant) (units : ℕ) → inside program (renumbered_store number store) levels escaped value units ≡ inside program store levels escaped value units
  inside_same program store zero escaped value units = refl
  inside_same program store (suc levels) escaped value units =
      (λ i. held_printed (λ inner left. costing left (λ u. inside_same program store levels true inner u i)) (renumbered_store number store) (vector_same store value i) (pair_same store value i) (text_same program store escaped value i) units)
      ∙ held_same (λ inner left. costing left (inside program store levels true inner)) store (vector_at store value) (pair_at store value) (text_of program store escaped value) units

  pub within_same : (program : Program) (store : Store) (levels : ℕ) (escaped : Bool) (value : Variant) (units : ℕ) → printed_within program (renumbered_store number store) levels escaped value units ≡ printed_within program store levels escaped value units
  within_same program store levels escaped value units = λ i. costing units (λ u. inside_same program store levels escaped value u i)

  error_same : (program : Program) (store : Store) (error : ErrorRow) (units : ℕ) → error_printed program (renumbered_store number store) error units ≡ error_printed program store error units
  error_same program store (Simple text) units = refl
  error_same program store (WrongType value type) units =
      λ i. costing units (λ n. and_print (within_same program store 99 true value n i) (λ m. after_text (codes " is not of type ") (costing m (Text (type_text program type.members)))))

  -- the line of an error that nothing handles
  pub line_same : (program : Program) (store : Store) (error : ErrorRow) → unhandled_line program (renumbered_store number store) error ≡ unhandled_line program store error
  line_same program store error = ap (λ (p : Printed). codes "unhandled " ++ class_name program (error_class error) ++ codes ": " ++ cut_text p) (error_same program store error 65536)
