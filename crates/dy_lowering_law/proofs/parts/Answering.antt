-- Built-in operations, and what `format-out` prints, which does not see the numbers of closures.
use Rattle.std.proofs.Common.{◌≡◌, ℕ, zero, suc, Bool, true, false, List, [], ◌∷◌, Option, Some, None, refl, sym, ap, ◌∙◌, subst, arith}
use Rattle.std.specs.Prelude.{nat_eq, slice_get, ◌==◌, if◌then◌else◌}
use Rattle.std.specs.Option.{option_map}
use Rattle.std.proofs.lemmas.Option.{slice_get-map}
use Rattle.dy_term.specs.declared.rows.Program.{Program}
use Rattle.dy_values.specs.declared.value.Variant.{Variant}
use Rattle.dy_values.specs.declared.value.Variant.TheVariants.{Int, Object}
use Rattle.dy_values.specs.declared.object.ObjectRow.{ObjectRow}
use Rattle.dy_values.specs.declared.object.ObjectRow.TheVariants as object
use Rattle.dy_values.specs.declared.store.Store.{Store}
use Rattle.dy_values.specs.declared.error.ErrorRow.{ErrorRow}
use Rattle.dy_values.specs.Errors.{wrong_number}
use Rattle.dy_printing.specs.Printing.{Printed, Text, after_text, and_print, printed}
use Rattle.dy_printing.specs.Formatting as formatting
use Rattle.dy_values.specs.Objects.{bytes_in, string_at}
use Rattle.dy_printing.specs.Formatting.{directive_of, parts_of, behind_percent, first_error, field, filled, unless_error, formatted_as, formatted}
use Rattle.dy_prims.specs.declared.operation.Operation.{Operation}
use Rattle.dy_prims.specs.Operations as operations
use Rattle.dy_prims.specs.Operations.{paid, of_number, operation_at, given, applied}
use Rattle.dy_outcome.specs.declared.state.State.{State}
use Rattle.dy_outcome.specs.States.{unit_from, with_piece}
use Rattle.dy_meaning.specs.Operations.{failed, with_units, written, format_out, operated, operated_if, output}
use Rattle.dy_meaning.proofs.Orderly.{orderly}
use Rattle.dy_code.specs.Fetching as instr
use Rattle.dy_steps.specs.Configurations.{Signalled}
use Rattle.dy_steps.specs.Effects.{gives, performed, ended}
use Rattle.dy_steps.specs.Calling.{operate}
use Rattle.dy_lowering_law.specs.Following.{Spot, standing, after, IsRight, IsRightAfter}
use Rattle.dy_lowering_law.specs.Kinds.{Takes, IsLow}
use Rattle.dy_lowering_law.specs.Machines as machines
use Rattle.dy_lowering_law.specs.Machines.{machine_of}
use Rattle.dy_lowering_law.specs.Renumbering.{body_of, renumbered, renumbered_row, renumbered_store}
use Rattle.dy_lowering_law.proofs.Arguments.{taken_all}
use Rattle.dy_lowering_law.proofs.Lines.{line_same, within_same}
use Rattle.dy_lowering_law.proofs.Operating.{operation_takes}
use Rattle.dy_lowering_law.proofs.parts.Looping.{unit_keeps}

-- no operation adds to the units
failing_low : (error : ErrorRow) (units : ℕ) → IsLow (operations.failing error units) units
failing_low error zero = tt
failing_low error (suc units) = omega arith

paid_low : (o : operations.Outcome (List Variant)) (units : ℕ) → IsLow (paid o units) units
paid_low (operations.Gives values) units = omega arith
paid_low (operations.Signals error) units = failing_low error units

numbered_low : (operation : Option Operation) (values : List Variant) (units : ℕ) → IsLow (of_number operation values units) units
numbered_low (Some operation) values units = paid_low (given operation values) units
numbered_low None values units = tt

pub applied_low : (number : ℕ) (values : List Variant) (units : ℕ) → IsLow (applied number values units) units
applied_low number values units = numbered_low (operation_at number) values units

-- what two functions do alike with either of two things
field_if : {A : Type 0} (f g : A → Variant → ℕ → Printed) (value : Variant) (units : ℕ) (b : Bool) (x y : A) → f x value units ≡ g x value units → f y value units ≡ g y value units
    → f (if b then x else y) value units ≡ g (if b then x else y) value units
field_if f g value units true x y one other = one
field_if f g value units false x y one other = other

parts_if : {A : Type 0} (f g : A → List Variant → ℕ → Printed) (arguments : List Variant) (units : ℕ) (b : Bool) (x y : A) → f x arguments units ≡ g x arguments units → f y arguments units ≡ g y arguments units
    → f (if b then x else y) arguments units ≡ g (if b then x else y) arguments units
parts_if f g arguments units true x y one other = one
parts_if f g arguments units false x y one other = other

part_if : {A : Type 0} (f g : List A → List Variant → ℕ → Printed) (others : List A) (arguments : List Variant) (units : ℕ) (b : Bool) (x y : A) → f (x ∷ others) arguments units ≡ g (x ∷ others) arguments units
    → f (y ∷ others) arguments units ≡ g (y ∷ others) arguments units → f ((if b then x else y) ∷ others) arguments units ≡ g ((if b then x else y) ∷ others) arguments units
part_if f g others arguments units true x y one other = one
part_if f g others arguments units false x y one other = other

-- texts are the same
module _ (number : ℕ → ℕ) (program : Program) (store : Store) where
  bytes_row : (row : Option ObjectRow) → bytes_in (option_map (renumbered_row number) row) ≡ bytes_in row
  bytes_row None = refl
  bytes_row (Some (object.Instance class slots)) = refl
  bytes_row (Some (object.Pair head tail)) = refl
  bytes_row (Some (object.Vector stretchy items)) = refl
  bytes_row (Some (object.Bytes bytes)) = refl
  bytes_row (Some (object.Table entries)) = refl
  bytes_row (Some (object.Range start step end)) = refl
  bytes_row (Some (object.Closure lambda captured)) = refl
  bytes_row (Some (object.Exit block)) = refl
  bytes_row (Some (object.NextMethod generic methods ambiguous arguments)) = refl
  bytes_row (Some (object.NextHandler block value)) = refl
  bytes_row (Some (object.Cell value)) = refl

  string_same : (text : Variant) → string_at (renumbered_store number store) text ≡ string_at store text
  string_same (Object place) = ap bytes_in (slice_get-map (renumbered_row number) store.objects place) ∙ bytes_row (slice_get store.objects place)
  string_same text = refl

  printed_same : (escaped : Bool) (value : Variant) (units : ℕ) → printed program (renumbered_store number store) escaped value units ≡ printed program store escaped value units
  printed_same escaped value units = within_same number program store 100 escaped value units

  -- what a directive of this letter prints; a directive is looked at by its letter alone
  field_same : (letter : ℕ) (value : Variant) (units : ℕ) → field program (renumbered_store number store) (directive_of letter) value units ≡ field program store (directive_of letter) value units
  field_same letter (Int k) units =
      let plain = printed_same false (Int k) units in
      let other = printed_same true (Int k) units in
      field_if (field program (renumbered_store number store)) (field program store) (Int k) units (letter == 100) _ _ refl (field_if (field program (renumbered_store number store)) (field program store) (Int k) units (letter == 68) _ _ refl (field_if (field program (renumbered_store number store)) (field program store) (Int k) units (letter == 120) _ _ refl (field_if (field program (renumbered_store number store)) (field program store) (Int k) units (letter == 88) _ _ refl (field_if (field program (renumbered_store number store)) (field program store) (Int k) units (letter == 111) _ _ refl (field_if (field program (renumbered_store number store)) (field program store) (Int k) units (letter == 79) _ _ refl (field_if (field program (renumbered_store number store)) (field program store) (Int k) units (letter == 98) _ _ refl (field_if (field program (renumbered_store number store)) (field program store) (Int k) units (letter == 66) _ _ refl (field_if (field program (renumbered_store number store)) (field program store) (Int k) units (letter == 99) _ _ plain (field_if (field program (renumbered_store number store)) (field program store) (Int k) units (letter == 67) _ _ plain (field_if (field program (renumbered_store number store)) (field program store) (Int k) units (letter == 115) _ _ plain (field_if (field program (renumbered_store number store)) (field program store) (Int k) units (letter == 83) _ _ plain (field_if (field program (renumbered_store number store)) (field program store) (Int k) units (letter == 61) _ _ other plain))))))))))))
  field_same letter value units =
      let plain = printed_same false value units in
      let other = printed_same true value units in
      field_if (field program (renumbered_store number store)) (field program store) value units (letter == 100) _ _ plain (field_if (field program (renumbered_store number store)) (field program store) value units (letter == 68) _ _ plain (field_if (field program (renumbered_store number store)) (field program store) value units (letter == 120) _ _ plain (field_if (field program (renumbered_store number store)) (field program store) value units (letter == 88) _ _ plain (field_if (field program (renumbered_store number store)) (field program store) value units (letter == 111) _ _ plain (field_if (field program (renumbered_store number store)) (field program store) value units (letter == 79) _ _ plain (field_if (field program (renumbered_store number store)) (field program store) value units (letter == 98) _ _ plain (field_if (field program (renumbered_store number store)) (field program store) value units (letter == 66) _ _ plain (field_if (field program (renumbered_store number store)) (field program store) value units (letter == 99) _ _ plain (field_if (field program (renumbered_store number store)) (field program store) value units (letter == 67) _ _ plain (field_if (field program (renumbered_store number store)) (field program store) value units (letter == 115) _ _ plain (field_if (field program (renumbered_store number store)) (field program store) value units (letter == 83) _ _ plain (field_if (field program (renumbered_store number store)) (field program store) value units (letter == 61) _ _ other plain))))))))))))

  abbrev FilledSame : List ℕ → Type 0
  FilledSame bytes = (arguments : List Variant) (units : ℕ) → filled program (renumbered_store number store) (parts_of bytes) arguments units ≡ filled program store (parts_of bytes) arguments units

  abbrev BehindSame : List ℕ → Type 0
  BehindSame bytes = (arguments : List Variant) (units : ℕ) → filled program (renumbered_store number store) (behind_percent bytes) arguments units ≡ filled program store (behind_percent bytes) arguments units

  behind_none : BehindSame []
  behind_none [] units = refl
  behind_none (value ∷ values) units = λ i. and_print (printed_same false value units i) (λ left. Text [] left)

  behind_same : (letter : ℕ) (bytes : List ℕ) → FilledSame bytes → BehindSame (letter ∷ bytes)
  behind_same letter bytes others [] units =
      part_if (filled program (renumbered_store number store)) (filled program store) (parts_of bytes) [] units (letter == 37) _ _ (ap (after_text (letter ∷ [])) (others [] units)) refl
  behind_same letter bytes others (value ∷ values) units =
      part_if (filled program (renumbered_store number store)) (filled program store) (parts_of bytes) (value ∷ values) units (letter == 37) _ _ (ap (after_text (letter ∷ [])) (others (value ∷ values) units))
      (λ i. and_print (field_same letter value units i) (λ left. others values left i))

  parts_same : (byte : ℕ) (bytes : List ℕ) → FilledSame bytes → BehindSame bytes → FilledSame (byte ∷ bytes)
  parts_same byte bytes others behind arguments units =
      parts_if (filled program (renumbered_store number store)) (filled program store) arguments units (byte == 37) _ _ (behind arguments units) (ap (after_text (byte ∷ [])) (others arguments units))

  both_same : (bytes : List ℕ) → FilledSame bytes × BehindSame bytes
  both_same [] = ((λ arguments units. refl), behind_none)
  both_same (byte ∷ bytes) =
      let rest = both_same bytes in
      (parts_same byte bytes rest.0 rest.1, behind_same byte bytes rest.0)

  as_same : (text : Variant) (bytes : Option (List ℕ)) (arguments : List Variant) (units : ℕ)
      → formatted_as program (renumbered_store number store) text bytes arguments units ≡ formatted_as program store text bytes arguments units
  as_same text (Some bytes) arguments units =
      ap (unless_error (first_error (parts_of bytes) arguments) units) ((both_same bytes).0 arguments units)
  as_same text None arguments units = refl

  formatted_same : (text : Variant) (arguments : List Variant) (units : ℕ) → formatted program (renumbered_store number store) text arguments units ≡ formatted program store text arguments units
  formatted_same text arguments units =
      ap (λ bytes. formatted_as program (renumbered_store number store) text bytes arguments units) (string_same text)
      ∙ as_same text (string_at store text) arguments units

module _ (program : Program) (n before locals : ℕ) where
  piece_same : (text : List ℕ) (s : State) → with_piece text (renumbered (body_of program) s) ≡ renumbered (body_of program) (with_piece text s)
  piece_same [] s = refl
  piece_same (byte ∷ bytes) s = refl

  failing_after : (error : ErrorRow) (units : ℕ) (x : Spot) (place : ℕ) (register : List Variant) (s : State) (k : ℕ)
      → performed (machine_of program) (machines.failing_from units error (renumbered (body_of program) s)) (standing (body_of program) x place register s k) gives
      ≡ after (body_of program) x place (unit_from units s (failed program error)) k
  failing_after error zero x place register s k = refl
  failing_after error (suc units) x place register s k =
      ap (λ line. ended (Signalled line) (renumbered (body_of program) (with_units units s)) k) (line_same (body_of program) program s.store error)

  written_after : (o : formatting.Outcome) (x : Spot) (place : ℕ) (register : List Variant) (s : State) (k : ℕ)
      → performed (machine_of program) (machines.written o (renumbered (body_of program) s)) (standing (body_of program) x place register s k) gives
      ≡ after (body_of program) x place (written program o s) k
  written_after (formatting.Written text units) x place register s k =
      ap (λ (t : State). gives [] (record (standing (body_of program) x place register s k) { state = t })) (piece_same text (with_units units s))
  written_after (formatting.Failed error units) x place register s k =
      ap (λ line. ended (Signalled line) (renumbered (body_of program) (with_units units s)) k) (line_same (body_of program) program s.store error)
  written_after formatting.NoUnit x place register s k = refl

  output_after : (values : List Variant) (x : Spot) (place : ℕ) (register : List Variant) (s : State) (k : ℕ)
      → performed (machine_of program) (machines.format_out program values (renumbered (body_of program) s)) (standing (body_of program) x place register s k) gives
      ≡ after (body_of program) x place (format_out program values s) k
  output_after [] x place register s k = failing_after wrong_number s.fuel.left x place register s k
  output_after (text ∷ arguments) x place register s k =
      ap (λ o. performed (machine_of program) (machines.written o (renumbered (body_of program) s)) (standing (body_of program) x place register s k) gives) (formatted_same (body_of program) program s.store text arguments s.fuel.left)
      ∙ written_after (formatted program s.store text arguments s.fuel.left) x place register s k

  piece_right : (text : List ℕ) (s : State) → IsRight program locals s → IsRight program locals (with_piece text s)
  piece_right [] s right = right
  piece_right (byte ∷ bytes) s right = record { objects = right.objects; frame = right.frame; words = record { locals = right.words.locals; captured = right.words.captured; globals = right.words.globals } }

  written_right : (o : formatting.Outcome) (s : State) → IsRight program locals s → IsRightAfter program locals (written program o s)
  written_right (formatting.Written text units) s right = (piece_right text (with_units units s) (record { objects = right.objects; frame = right.frame; words = record { locals = right.words.locals; captured = right.words.captured; globals = right.words.globals } }), tt)
  written_right (formatting.Failed error units) s right = tt
  written_right formatting.NoUnit s right = tt

  output_right : (values : List Variant) (s : State) → IsRight program locals s → IsRightAfter program locals (format_out program values s)
  output_right [] s right = unit_keeps program n before locals s.fuel.left s (failed program wrong_number) (λ left. tt)
  output_right (text ∷ arguments) s right = written_right (formatted program s.store text arguments s.fuel.left) s right

  taken_if : (number count : ℕ) (b : Bool) → nat_eq number output ≡ b → Takes program n before locals count (instr.Op number count) (operated program number)
  taken_if number count false e = operation_takes program n before locals number count e (applied_low number)
  taken_if number count true e = record {
    falls = λ values. (orderly program).operations number values;
    keeps = λ values words scope s right. subst (λ b. IsRightAfter program locals (operated_if b program number values s)) (sym e) (output_right values s right);
    runs = λ values x place register s k long words fit right few. record {
      count = 0;
      searches = k;
      there = taken_all (body_of program) values count x place register s k (operate (machine_of program) number) long
          ∙ (λ i. performed (machine_of program) (machines.operated_if (e i) program number values (renumbered (body_of program) s)) (standing (body_of program) x place register s k) gives)
          ∙ output_after values x place register s k
          ∙ (λ i. after (body_of program) x place (operated_if (sym e i) program number values s) k);
    };
  }

  pub all_taken : (number count : ℕ) → Takes program n before locals count (instr.Op number count) (operated program number)
  all_taken number count = taken_if number count (nat_eq number output) refl
