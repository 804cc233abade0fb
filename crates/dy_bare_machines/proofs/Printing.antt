-- What is printed names classes alone, which stand in rows without terms too.
use Rattle.std.proofs.Common.{◌≡◌, ℕ, zero, suc, Bool, true, List, [], ◌∷◌, ◌++◌, Option, Some, None, slice_get, codes, refl, ap}
use Rattle.dy_base.specs.declared.ids.ClassId.{ClassId}
use Rattle.dy_term.specs.declared.types.Member.{Member}
use Rattle.dy_term.specs.declared.types.Member.TheVariants as members
use Rattle.dy_term.specs.declared.rows.Program.{Program}
use Rattle.dy_values.specs.declared.value.Variant.{Variant}
use Rattle.dy_values.specs.declared.value.Variant.TheVariants as variants
use Rattle.dy_values.specs.declared.object.ObjectRow.{ObjectRow}
use Rattle.dy_values.specs.declared.object.ObjectRow.TheVariants as objects
use Rattle.dy_values.specs.declared.store.Store.{Store}
use Rattle.dy_values.specs.declared.error.ErrorRow.{ErrorRow}
use Rattle.dy_values.specs.declared.error.ErrorRow.TheVariants.{Simple, WrongType}
use Rattle.dy_values.specs.Classes.{object, class_of, class_of_row, class_name}
use Rattle.dy_values.specs.Errors.{error_class}
use Rattle.dy_values.specs.Objects.{pair_at, vector_at}
use Rattle.dy_printing.specs.Printing.{Text, after_text, and_print, costing, in_braces, class_text, row_text, object_text, text_of, held_printed, inside, printed_within, most_levels, printed}
use Rattle.dy_printing.specs.Unhandled.{type_text, error_printed, cut_text, unhandled_line}
use Rattle.dy_bare_machines.specs.Machines.{bare_program}
use Rattle.dy_bare_machines.proofs.Classes.{class_name_same}

module _ (program : Program) where
  -- the program without terms
  abbrev bare : Program
  bare = bare_program program

  in_braces_same : (class : ClassId) → in_braces (class_name bare class) ≡ in_braces (class_name program class)
  in_braces_same class = ap in_braces (class_name_same program class)

  class_same : (class : ClassId) → class_text bare class ≡ class_text program class
  class_same class = ap (λ (name : List ℕ). in_braces (codes "class " ++ name)) (class_name_same program class)

  row_same : (escaped : Bool) (row : ObjectRow) → row_text bare escaped row ≡ row_text program escaped row
  row_same escaped (objects.Bytes bytes) = refl
  row_same escaped row = in_braces_same (class_of_row row)

  object_same : (escaped : Bool) (row : Option ObjectRow) → object_text bare escaped row ≡ object_text program escaped row
  object_same escaped None = in_braces_same object
  object_same escaped (Some row) = row_same escaped row

  text_same : (store : Store) (escaped : Bool) (value : Variant) → text_of bare store escaped value ≡ text_of program store escaped value
  text_same store escaped (variants.Int number) = refl
  text_same store escaped (variants.Char code) = refl
  text_same store escaped (variants.Bool value) = refl
  text_same store escaped (variants.Symbol place) = refl
  text_same store escaped variants.Nil = refl
  text_same store escaped (variants.Class class) = class_same class
  text_same store escaped (variants.TypeValue place) = refl
  text_same store escaped (variants.Object place) = object_same escaped (slice_get store.objects place)
  text_same store escaped value = in_braces_same (class_of store value)

  inside_same : (store : Store) (levels : ℕ) (escaped : Bool) (value : Variant) (units : ℕ) → inside bare store levels escaped value units ≡ inside program store levels escaped value units
  inside_same store zero escaped value units = refl
  inside_same store (suc levels) escaped value units =
      λ j. held_printed (λ inner left. costing left (λ n. inside_same store levels true inner n j)) store (vector_at store value) (pair_at store value) (text_same store escaped value j) units

  pub within_same : (store : Store) (levels : ℕ) (escaped : Bool) (value : Variant) (units : ℕ) → printed_within bare store levels escaped value units ≡ printed_within program store levels escaped value units
  within_same store levels escaped value units = λ j. costing units (λ n. inside_same store levels escaped value n j)

  pub printed_same : (store : Store) (escaped : Bool) (value : Variant) (units : ℕ) → printed bare store escaped value units ≡ printed program store escaped value units
  printed_same store escaped value units = within_same store most_levels escaped value units

  -- the line of an error
  type_same : (types : List Member) → type_text bare types ≡ type_text program types
  type_same (members.Class class ∷ []) = class_same class
  type_same types = refl

  error_same : (store : Store) (error : ErrorRow) (units : ℕ) → error_printed bare store error units ≡ error_printed program store error units
  error_same store (Simple text) units = refl
  error_same store (WrongType value type) units =
      λ j. costing units (λ n. and_print (within_same store 99 true value n j) (λ k. after_text (codes " is not of type ") (costing k (Text (type_same type.members j)))))

  pub line_same : (store : Store) (error : ErrorRow) → unhandled_line bare store error ≡ unhandled_line program store error
  line_same store error =
      λ j. codes "unhandled " ++ class_name_same program (error_class error) j ++ codes ": " ++ cut_text (error_same store error 65536 j)
