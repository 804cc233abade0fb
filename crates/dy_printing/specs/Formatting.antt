-- Texts with directives (DRM 12, "format-out"; the directives and their errors are own).
use Rattle.std.specs.Prelude.{ℕ, zero, suc, ℤ, pos, int_lt, unsigned_abs, Bool, true, false, ◌≡◌}
use Rattle.std.specs.Prelude.{◌==◌, List, [], ◌∷◌, ◌++◌, codes, if◌then◌else◌}
use Rattle.std.specs.declared.option.Option.{Option}
use Rattle.std.specs.declared.option.Option.TheVariants.{None, Some}
use Rattle.std.specs.Fmt.{digits}
use Rattle.dy_term.specs.declared.rows.Program.{Program}
use Rattle.dy_types.specs.Classes.{integer, character}
use Rattle.dy_values.specs.declared.value.Variant.{Variant}
use Rattle.dy_values.specs.declared.value.Variant.TheVariants.{Int, Char}
use Rattle.dy_values.specs.declared.store.Store.{Store}
use Rattle.dy_values.specs.Objects.{string_at}
use Rattle.dy_values.specs.declared.error.ErrorRow.{ErrorRow}
use Rattle.dy_values.specs.declared.answer.Formatted.{Formatted}
use Rattle.dy_values.specs.declared.answer.Formatted.TheVariants.{Done, Signal, OutOfFuel}
use Rattle.dy_printing.specs.declared.formatting.Base.{Base}
use Rattle.dy_printing.specs.declared.formatting.Base.TheVariants.{Binary, Octal, Decimal}
use Rattle.dy_printing.specs.declared.formatting.Base.TheVariants.{Hexadecimal}
use Rattle.dy_printing.specs.declared.formatting.Directive.{Directive}
use Rattle.dy_printing.specs.declared.formatting.Directive.TheVariants.{Integer, Character, Any}
use Rattle.dy_printing.specs.declared.formatting.Directive.TheVariants.{Unknown}
use Rattle.dy_printing.specs.declared.formatting.Part.{Part}
use Rattle.dy_printing.specs.declared.formatting.Part.TheVariants.{Byte, Field}
use Rattle.dy_values.specs.Classes.{string}
use Rattle.dy_values.specs.Errors.{format_directive, wrong_class}
use Rattle.dy_printing.specs.Printing.{Printed, Text, Spent, after_text, and_print, costing}
use Rattle.dy_printing.specs.Printing.{printed}

-- what a letter behind `%` stands for, in either case
abbrev pub directive_of : ℕ → Directive
directive_of letter =
    if letter == 100 then Integer Decimal else if letter == 68 then Integer Decimal
    else if letter == 120 then Integer Hexadecimal else if letter == 88 then Integer Hexadecimal
    else if letter == 111 then Integer Octal else if letter == 79 then Integer Octal
    else if letter == 98 then Integer Binary else if letter == 66 then Integer Binary
    else if letter == 99 then Character else if letter == 67 then Character
    else if letter == 115 then Any false else if letter == 83 then Any false
    else if letter == 61 then Any true
    else Unknown

-- `%%` is one `%`
abbrev pub part_of : ℕ → Part
part_of letter = if letter == 37 then Byte letter else Field (directive_of letter)

-- a text as bytes that stand for themselves, and directives. A `%` at the end is no directive.
abbrev mutual
  pub parts_of : List ℕ → List Part
  parts_of [] = []
  parts_of (byte ∷ bytes) = if byte == 37 then behind_percent bytes else Byte byte ∷ parts_of bytes

  pub behind_percent : List ℕ → List Part
  behind_percent [] = Field Unknown ∷ []
  behind_percent (letter ∷ bytes) = part_of letter ∷ parts_of bytes

-- the error of a directive at this argument
abbrev pub misfit : Directive → Variant → Option ErrorRow
misfit (Integer base) (Int number) = None
misfit (Integer base) value = Some (wrong_class value integer)
misfit Character (Char code) = None
misfit Character value = Some (wrong_class value character)
misfit (Any escaped) value = None
misfit Unknown value = Some format_directive

abbrev pub or_else : Option ErrorRow → Option ErrorRow → Option ErrorRow
or_else (Some error) other = Some error
or_else None other = other

-- a directive takes the next argument
abbrev pub error_at : Directive → List Variant → (List Variant → Option ErrorRow) → Option ErrorRow
error_at directive [] go = Some format_directive
error_at directive (value ∷ values) go = or_else (misfit directive value) (go values)

abbrev pub error_in : Part → List Variant → (List Variant → Option ErrorRow) → Option ErrorRow
error_in (Byte byte) arguments go = go arguments
error_in (Field directive) arguments go = error_at directive arguments go

-- The first error, from the left. More arguments than are taken are none.
abbrev pub first_error : List Part → List Variant → Option ErrorRow
first_error [] arguments = None
first_error (part ∷ parts) arguments = error_in part arguments (first_error parts)

abbrev pub radix : Base → ℕ
radix Binary = 2
radix Octal = 8
radix Decimal = 10
radix Hexadecimal = 16

abbrev pub sign : ℤ → List ℕ
sign number = if int_lt number (pos 0) then 45 ∷ [] else []

-- a number with its sign, in lower case
abbrev pub numeral : Base → ℤ → List ℕ
numeral base number = sign number ++ digits (radix base) false (unsigned_abs number)

-- what a directive prints of an argument that fits it
abbrev pub field : Program → Store → Directive → Variant → ℕ → Printed
field program store (Integer base) (Int number) units = costing units (Text (numeral base number))
field program store (Any escaped) value units = printed program store escaped value units
field program store directive value units = printed program store false value units

abbrev pub field_at : Program → Store → Directive → List Variant → ℕ → (List Variant → ℕ → Printed)
    → Printed
field_at program store directive [] units go = Text [] units
field_at program store directive (value ∷ values) units go =
    and_print (field program store directive value units) (go values)

abbrev pub part_printed : Program → Store → Part → List Variant → ℕ → (List Variant → ℕ → Printed)
    → Printed
part_printed program store (Byte byte) arguments units go =
    after_text (byte ∷ []) (go arguments units)
part_printed program store (Field directive) arguments units go =
    field_at program store directive arguments units go

-- the text of parts without errors
abbrev pub filled : Program → Store → List Part → List Variant → ℕ → Printed
filled program store [] arguments units = Text [] units
filled program store (part ∷ parts) arguments units =
    part_printed program store part arguments units (filled program store parts)

-- A built-in error costs a unit. Else the text is printed.
pub data Outcome : Type 0 where
  Written : (text : List ℕ) (units : ℕ) → Outcome
  Failed : (error : ErrorRow) (units : ℕ) → Outcome
  NoUnit : Outcome

abbrev pub failing : ErrorRow → ℕ → Outcome
failing error zero = NoUnit
failing error (suc units) = Failed error units

abbrev pub writing : Printed → Outcome
writing (Text text units) = Written text units
writing (Spent text) = NoUnit

abbrev pub unless_error : Option ErrorRow → ℕ → Printed → Outcome
unless_error (Some error) units text = failing error units
unless_error None units text = writing text

-- the text of a string with these arguments
abbrev pub string_formatted : Program → Store → List ℕ → List Variant → ℕ → Outcome
string_formatted program store bytes arguments units =
    unless_error (first_error (parts_of bytes) arguments) units
    (filled program store (parts_of bytes) arguments units)

abbrev pub formatted_as : Program → Store → Variant → Option (List ℕ) → List Variant → ℕ → Outcome
formatted_as program store text (Some bytes) arguments units =
    string_formatted program store bytes arguments units
formatted_as program store text None arguments units = failing (wrong_class text string) units

-- what `format-out` makes of a text and arguments: the text that it prints, or the error that is
-- signalled
abbrev pub formatted : Program → Store → Variant → List Variant → ℕ → Outcome
formatted program store text arguments units =
    formatted_as program store text (string_at store text) arguments units

-- What a call has done that formats: written all of the text, or nothing and it gives the error, or
-- come to the end of the units. Then nothing is said of the text.
abbrev pub Formats : Outcome → Formatted → List ℕ → List ℕ → ℕ → Type 0
Formats (Written text units) Done old new left = (new ≡ old ++ text) × (left ≡ units)
Formats (Failed error units) (Signal row) old new left = (row ≡ error) × (new ≡ old)
    × (left ≡ units)
Formats NoUnit OutOfFuel old new left = left ≡ 0
Formats _ _ old new left = ⊥

-- how many directives there are
abbrev pub fields : List Part → ℕ
fields [] = 0
fields (Byte byte ∷ parts) = fields parts
fields (Field directive ∷ parts) = suc (fields parts)
