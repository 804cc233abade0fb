-- How values are printed (own).
use Rattle.std.specs.Prelude.{ℕ, zero, suc, Bool, true, false, ◌≡◌, List, [], ◌∷◌, ◌++◌, codes}
use Rattle.std.specs.Prelude.{slice_get, if◌then◌else◌}
use Rattle.std.specs.declared.option.Option.{Option}
use Rattle.std.specs.declared.option.Option.TheVariants.{None, Some}
use Rattle.std.specs.Fmt.{signed_decimal}
use Rattle.dy_base.specs.declared.ids.ClassId.{ClassId}
use Rattle.dy_term.specs.declared.rows.Program.{Program}
use Rattle.dy_values.specs.declared.value.Variant.{Variant}
use Rattle.dy_values.specs.declared.value.Variant.TheVariants.{Int, Char, Bool as Truth, Symbol}
use Rattle.dy_values.specs.declared.value.Variant.TheVariants.{Nil, Class, TypeValue, Object}
use Rattle.dy_values.specs.declared.object.ObjectRow.{ObjectRow}
use Rattle.dy_values.specs.declared.object.ObjectRow.TheVariants.{Bytes}
use Rattle.dy_values.specs.declared.store.Store.{Store}
use Rattle.dy_values.specs.Classes.{object, class_of, class_of_row, class_name}
use Rattle.dy_printing.specs.Escapes.{quoted}
use Rattle.dy_values.specs.Objects.{pair_at, vector_at}
use Rattle.dy_values.specs.Stores.{name_at}

-- a text, and the units that are left; or the text up to where a unit was wanted and none was left
pub data Printed : Type 0 where
  Text : (text : List ℕ) (units : ℕ) → Printed
  Spent : (text : List ℕ) → Printed

abbrev pub after_text : List ℕ → Printed → Printed
after_text text (Text rest units) = Text (text ++ rest) units
after_text text (Spent rest) = Spent (text ++ rest)

-- goes on with the units that are left, behind the text
abbrev pub and_print : Printed → (ℕ → Printed) → Printed
and_print (Text text units) go = after_text text (go units)
and_print (Spent text) go = Spent text

-- A unit is spent first.
abbrev pub costing : ℕ → (ℕ → Printed) → Printed
costing zero go = Spent []
costing (suc units) go = go units

abbrev pub in_braces : List ℕ → List ℕ
in_braces text = codes "{" ++ text ++ codes "}"

-- a class as a value
abbrev pub class_text : Program → ClassId → List ℕ
class_text program class = in_braces (codes "class " ++ class_name program class)

-- the bytes of a string as they are, or between quotes
abbrev pub string_text : Bool → List ℕ → List ℕ
string_text escaped bytes = if escaped then quoted 34 bytes else bytes

abbrev pub character_text : Bool → ℕ → List ℕ
character_text escaped code = if escaped then quoted 39 (code ∷ []) else code ∷ []

abbrev pub symbol_text : Bool → List ℕ → List ℕ
symbol_text escaped name = if escaped then codes "#\"" ++ name ++ codes "\"" else name

abbrev pub truth_text : Bool → List ℕ
truth_text true = codes "#t"
truth_text false = codes "#f"

-- the class of the object in braces, but for a string
abbrev pub row_text : Program → Bool → ObjectRow → List ℕ
row_text program escaped (Bytes bytes) = string_text escaped bytes
row_text program escaped row = in_braces (class_name program (class_of_row row))

abbrev pub object_text : Program → Bool → Option ObjectRow → List ℕ
object_text program escaped None = in_braces (class_name program object)
object_text program escaped (Some row) = row_text program escaped row

-- the text of a value that holds no others
abbrev pub text_of : Program → Store → Bool → Variant → List ℕ
text_of program store escaped (Int number) = signed_decimal number
text_of program store escaped (Char code) = character_text escaped code
text_of program store escaped (Truth value) = truth_text value
text_of program store escaped (Symbol place) = symbol_text escaped (name_at store.symbols place)
text_of program store escaped Nil = codes "#()"
text_of program store escaped (Class class) = class_text program class
text_of program store escaped (TypeValue place) = codes "{type}"
text_of program store escaped (Object place) =
    object_text program escaped (slice_get store.objects place)
text_of program store escaped value = in_braces (class_name program (class_of store value))

-- how an element is printed
abbrev pub Element : Type 0
Element = Variant → ℕ → Printed

-- elements behind a first one, each with a comma before it, and what closes them
abbrev pub behind_commas : Element → List ℕ → List Variant → ℕ → Printed
behind_commas element close [] units = Text close units
behind_commas element close (value ∷ values) units =
    after_text (codes ", ") (and_print (element value units) (behind_commas element close values))

-- elements with commas between, and what closes them
abbrev pub separated : Element → List ℕ → List Variant → ℕ → Printed
separated element close [] units = Text close units
separated element close (value ∷ values) units =
    and_print (element value units) (behind_commas element close values)

abbrev pub vector_printed : Element → List Variant → ℕ → Printed
vector_printed element values units =
    after_text (codes "#[") (separated element (codes "]") values units)

abbrev pub is_nil : Variant → Bool
is_nil Nil = true
is_nil value = false

-- the end of a list: the empty list, or another value behind a dot
abbrev pub end_printed : Element → Variant → ℕ → Printed
end_printed element value units =
    if is_nil value then Text (codes ")") units
    else after_text (codes " . ") (and_print (element value units) (Text (codes ")")))

-- the rest of a list, which is the next pair, or the end
abbrev pub next_printed : Element → Option (Variant × Variant) → Variant → ℕ → Element → Printed
next_printed element (Some pair) rest units go =
    after_text (codes ", ") (and_print (element pair.0 units) (go pair.1))
next_printed element None rest units go = end_printed element rest units

-- The rest of a list behind an element, within a bound on how many elements follow. Each costs a
-- unit, so a bound above the units is never met.
abbrev pub rest_within : Element → Store → ℕ → Element
rest_within element store zero rest units = Spent []
rest_within element store (suc bound) rest units =
    next_printed element (pair_at store rest) rest units (rest_within element store bound)

abbrev pub rest_printed : Element → Store → Element
rest_printed element store rest units = rest_within element store (suc units) rest units

abbrev pub list_printed : Element → Store → Variant → Variant → ℕ → Printed
list_printed element store head tail units =
    after_text (codes "#(") (and_print (element head units) (rest_printed element store tail))

-- a vector by its elements, or else a pair by its head and tail, or else a text
abbrev pub held_printed : Element → Store → Option (List Variant) → Option (Variant × Variant)
    → List ℕ → ℕ → Printed
held_printed element store (Some items) pair text units = vector_printed element items units
held_printed element store None (Some pair) text units =
    list_printed element store pair.0 pair.1 units
held_printed element store None None text units = Text text units

-- What is printed once a value's own unit is spent. Elements are printed escaped, a level further
-- in. Only so many levels are printed, and dots for what is deeper.
abbrev pub inside : Program → Store → ℕ → Bool → Variant → ℕ → Printed
inside program store zero escaped value units = Text (codes "...") units
inside program store (suc levels) escaped value units =
    held_printed (λ inner left. costing left (inside program store levels true inner)) store
    (vector_at store value) (pair_at store value) (text_of program store escaped value) units

-- A printed value costs a unit, and each element of a printed vector or list is one.
abbrev pub printed_within : Program → Store → ℕ → Bool → Element
printed_within program store levels escaped value units =
    costing units (inside program store levels escaped value)

-- how many levels are printed
abbrev pub most_levels : ℕ
most_levels = 100

abbrev pub printed : Program → Store → Bool → Element
printed program store escaped value units =
    printed_within program store most_levels escaped value units

-- whether all is printed, these bytes with the printed text behind them, and the units that are
-- left
abbrev pub behind : List ℕ → Printed → Bool × List ℕ × ℕ
behind old (Text text units) = (true, old ++ text, units)
behind old (Spent text) = (false, old ++ text, 0)

-- What a call has done that prints: whether it printed all, the bytes before and after it, and the
-- units that it left.
abbrev pub Prints : Printed → Bool → List ℕ → List ℕ → ℕ → Type 0
Prints printed done old new left = behind old printed ≡ (done, new, left)
