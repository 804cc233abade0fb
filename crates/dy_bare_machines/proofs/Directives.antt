-- Texts with directives, for a program without terms. Kinds of directives have no names here; so they
-- are told by a letter that stands for them.
use Rattle.std.proofs.Common.{◌≡◌, ℕ, true, false, ◌==◌, List, [], ◌∷◌, Option, Some, None, refl, ap}
use Rattle.dy_term.specs.declared.rows.Program.{Program}
use Rattle.dy_values.specs.declared.value.Variant.{Variant}
use Rattle.dy_values.specs.declared.value.Variant.TheVariants.{Int}
use Rattle.dy_values.specs.declared.store.Store.{Store}
use Rattle.dy_values.specs.Objects.{string_at}
use Rattle.dy_printing.specs.Printing.{Printed, after_text, and_print}
use Rattle.dy_printing.specs.Formatting.{directive_of, part_of, parts_of, first_error, field, field_at, part_printed, filled, unless_error, formatted_as, formatted}
use Rattle.dy_bare_machines.specs.Machines.{bare_program}
use Rattle.dy_bare_machines.proofs.Lists.{same_if}
use Rattle.dy_bare_machines.proofs.Printing.{printed_same}

module _ (program : Program) (store : Store) where
  -- the program without terms
  abbrev bare : Program
  bare = bare_program program

  decimal : (value : Variant) (units : ℕ) → field bare store (directive_of 100) value units ≡ field program store (directive_of 100) value units
  decimal (Int number) units = refl
  decimal value units = printed_same program store false value units

  hexadecimal : (value : Variant) (units : ℕ) → field bare store (directive_of 120) value units ≡ field program store (directive_of 120) value units
  hexadecimal (Int number) units = refl
  hexadecimal value units = printed_same program store false value units

  octal : (value : Variant) (units : ℕ) → field bare store (directive_of 111) value units ≡ field program store (directive_of 111) value units
  octal (Int number) units = refl
  octal value units = printed_same program store false value units

  binary : (value : Variant) (units : ℕ) → field bare store (directive_of 98) value units ≡ field program store (directive_of 98) value units
  binary (Int number) units = refl
  binary value units = printed_same program store false value units

  -- what a directive prints
  field_same : (letter : ℕ) → field bare store (directive_of letter) ≡ field program store (directive_of letter)
  field_same letter =
      let either = same_if (field bare store) (field program store) in
      either (letter == 100) _ _ (λ j value units. decimal value units j) (
      either (letter == 68) _ _ (λ j value units. decimal value units j) (
      either (letter == 120) _ _ (λ j value units. hexadecimal value units j) (
      either (letter == 88) _ _ (λ j value units. hexadecimal value units j) (
      either (letter == 111) _ _ (λ j value units. octal value units j) (
      either (letter == 79) _ _ (λ j value units. octal value units j) (
      either (letter == 98) _ _ (λ j value units. binary value units j) (
      either (letter == 66) _ _ (λ j value units. binary value units j) (
      either (letter == 99) _ _ (λ j value units. printed_same program store false value units j) (
      either (letter == 67) _ _ (λ j value units. printed_same program store false value units j) (
      either (letter == 115) _ _ (λ j value units. printed_same program store false value units j) (
      either (letter == 83) _ _ (λ j value units. printed_same program store false value units j) (
      either (letter == 61) _ _ (λ j value units. printed_same program store true value units j) (λ j value units. printed_same program store false value units j)))))))))))))

  field_at_same : (letter : ℕ) (values : List Variant) (units : ℕ) (go other : List Variant → ℕ → Printed) → ((vs : List Variant) (n : ℕ) → go vs n ≡ other vs n)
      → field_at bare store (directive_of letter) values units go ≡ field_at program store (directive_of letter) values units other
  field_at_same letter [] units go other same = refl
  field_at_same letter (value ∷ values) units go other same = λ j. and_print (field_same letter j value units) (λ n. same values n j)

  part_same : (letter : ℕ) (values : List Variant) (units : ℕ) (go other : List Variant → ℕ → Printed) → ((vs : List Variant) (n : ℕ) → go vs n ≡ other vs n)
      → part_printed bare store (part_of letter) values units go ≡ part_printed program store (part_of letter) values units other
  part_same letter values units go other same =
      same_if (λ part. part_printed bare store part values units go) (λ part. part_printed program store part values units other) (letter == 37) _ _
      (ap (after_text (letter ∷ [])) (same values units)) (field_at_same letter values units go other same)

  filled_same : (bytes : List ℕ) (values : List Variant) (units : ℕ) → filled bare store (parts_of bytes) values units ≡ filled program store (parts_of bytes) values units
  filled_same [] values units = refl
  filled_same (byte ∷ []) values units =
      same_if (λ parts. filled bare store parts values units) (λ parts. filled program store parts values units) (byte == 37) _ _
      (field_at_same 0 values units (λ vs n. filled bare store [] vs n) (λ vs n. filled program store [] vs n) (λ vs n. refl)) refl
  filled_same (byte ∷ letter ∷ bytes) values units =
      same_if (λ parts. filled bare store parts values units) (λ parts. filled program store parts values units) (byte == 37) _ _
      (part_same letter values units (filled bare store (parts_of bytes)) (filled program store (parts_of bytes)) (filled_same bytes))
      (ap (after_text (byte ∷ [])) (filled_same (letter ∷ bytes) values units))

  as_same : (text : Variant) (bytes : Option (List ℕ)) (values : List Variant) (units : ℕ) → formatted_as bare store text bytes values units ≡ formatted_as program store text bytes values units
  as_same text None values units = refl
  as_same text (Some bytes) values units = ap (unless_error (first_error (parts_of bytes) values) units) (filled_same bytes values units)

  pub formatted_same : (text : Variant) (values : List Variant) (units : ℕ) → formatted bare store text values units ≡ formatted program store text values units
  formatted_same text values units = as_same text (string_at store text) values units
