-- The line of an error that nothing handles (own).
use Rattle.std.specs.Prelude.{ℕ, true, List, [], ◌∷◌, ◌++◌, codes}
use Rattle.dy_term.specs.declared.rows.Program.{Program}
use Rattle.dy_term.specs.declared.types.DyType.{DyType}
use Rattle.dy_term.specs.declared.types.Member.{Member}
use Rattle.dy_term.specs.declared.types.Member.TheVariants as members
use Rattle.dy_values.specs.declared.store.Store.{Store}
use Rattle.dy_values.specs.declared.error.ErrorRow.{ErrorRow}
use Rattle.dy_values.specs.declared.error.ErrorRow.TheVariants.{Simple, WrongType}
use Rattle.dy_values.specs.Classes.{class_name}
use Rattle.dy_values.specs.Errors.{error_class}
use Rattle.dy_printing.specs.Printing.{Printed, Text, Spent, after_text, and_print, costing}
use Rattle.dy_printing.specs.Printing.{class_text, printed_within}

-- a type of one class is told as the class
abbrev pub type_text : Program → List Member → List ℕ
type_text program (members.Class class ∷ []) = class_text program class
type_text program _ = codes "{type}"

-- What is printed of an error's condition, which is itself a value that is printed. A value and a
-- type in its text lie one level further in.
abbrev pub error_printed : Program → Store → ErrorRow → ℕ → Printed
error_printed program store (Simple text) units = costing units (Text text)
error_printed program store (WrongType value type) units =
    costing units (λ n. and_print (printed_within program store 99 true value n)
    (λ m. after_text (codes " is not of type ")
    (costing m (Text (type_text program type.members)))))

-- where the units end, dots behind what is printed
abbrev pub cut_text : Printed → List ℕ
cut_text (Text text units) = text
cut_text (Spent text) = text ++ codes "..."

-- the text of an error's condition, with units of its own
abbrev pub error_text : Program → Store → ErrorRow → List ℕ
error_text program store error = cut_text (error_printed program store error 65536)

abbrev pub unhandled_line : Program → Store → ErrorRow → List ℕ
unhandled_line program store error =
    codes "unhandled " ++ class_name program (error_class error) ++ codes ": "
    ++ error_text program store error
