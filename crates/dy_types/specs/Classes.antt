-- Classes of a program, and which is at or below which.
use Rattle.std.specs.Prelude.{ℕ, ◌≡◌, ◌⊎◌, List, [], Contains, slice_get}
use Rattle.std.specs.declared.option.Option.{Option}
use Rattle.std.specs.declared.option.Option.TheVariants.{None, Some}
use Rattle.dy_base.specs.declared.ids.ClassId.{ClassId}
use Rattle.dy_term.specs.declared.literal.Literal.{Literal, Literal-F, out-Literal}
use Rattle.dy_term.specs.declared.rows.ClassRow.{ClassRow}
use Rattle.dy_term.specs.declared.rows.LibraryRow.{LibraryRow}
use Rattle.dy_term.specs.declared.rows.Program.{Program}

-- the order that a row stores
abbrev pub order_in : Option ClassRow → List ClassId
order_in None = []
order_in (Some row) = row.order

-- the row of this number
abbrev pub row_in : ℕ → Option LibraryRow → Option ClassRow
row_in number None = None
row_in number (Some library) = slice_get library.classes number

-- the class precedence list of a class, which its row stores. One without a row has none
abbrev pub order_of : Program → ClassId → List ClassId
order_of program class = order_in (row_in class.0.row (slice_get program.libraries class.0.library))

-- a class is at or below another: it is the other, or its order lists the other
abbrev pub IsAtOrBelow : Program → ClassId → ClassId → Type 0
IsAtOrBelow program class other = (class ≡ other) ⊎ Contains (order_of program class) other

-- a class of the library `dylan`, which is the first of each program
abbrev pub built_in : ℕ → ClassId
built_in row = record { 0 = record { library = 0; row = row } }

abbrev pub boolean : ClassId
boolean = built_in 1

abbrev pub character : ClassId
character = built_in 2

abbrev pub symbol : ClassId
symbol = built_in 3

abbrev pub integer : ClassId
integer = built_in 9

abbrev pub pair : ClassId
pair = built_in 15

abbrev pub empty_list : ClassId
empty_list = built_in 16

abbrev pub simple_object_vector : ClassId
simple_object_vector = built_in 17

abbrev pub byte_string : ClassId
byte_string = built_in 19

-- the class of classes
abbrev pub class_of_classes : ClassId
class_of_classes = built_in 24

abbrev pub class_of_kind : Literal-F Literal → ClassId
class_of_kind (Literal-F.Int value) = integer
class_of_kind (Literal-F.Char value) = character
class_of_kind (Literal-F.Bool value) = boolean
class_of_kind (Literal-F.Symbol name) = symbol
class_of_kind Literal-F.Nil = empty_list
class_of_kind (Literal-F.Str text) = byte_string
class_of_kind (Literal-F.List items last) = pair
class_of_kind (Literal-F.Vector items) = simple_object_vector

-- the direct class of what a literal stands for
abbrev pub literal_class : Literal → ClassId
literal_class literal = class_of_kind (out-Literal literal)
