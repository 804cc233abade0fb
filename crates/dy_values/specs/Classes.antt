-- The direct classes of values (DRM 5).
use Rattle.std.specs.Prelude.{ℕ, Bool, true, false, List, [], slice_get}
use Rattle.std.specs.declared.option.Option.{Option}
use Rattle.std.specs.declared.option.Option.TheVariants.{None, Some}
use Rattle.dy_base.specs.declared.ids.ClassId.{ClassId}
use Rattle.dy_term.specs.declared.rows.ClassRow.{ClassRow}
use Rattle.dy_term.specs.declared.rows.Program.{Program}
use Rattle.dy_types.specs.Classes.{built_in, row_in, boolean, character, symbol, integer, pair}
use Rattle.dy_types.specs.Classes.{empty_list, simple_object_vector, byte_string, class_of_classes}
use Rattle.dy_values.specs.declared.value.Variant.{Variant}
use Rattle.dy_values.specs.declared.value.Variant.TheVariants.{Int, Char, Bool as Truth, Symbol}
use Rattle.dy_values.specs.declared.value.Variant.TheVariants.{Nil, Class, TypeValue, Generic}
use Rattle.dy_values.specs.declared.value.Variant.TheVariants.{Function, Builtin, Object}
use Rattle.dy_values.specs.declared.object.ObjectRow.{ObjectRow}
use Rattle.dy_values.specs.declared.object.ObjectRow.TheVariants as objects
use Rattle.dy_values.specs.declared.store.Store.{Store}

abbrev pub object : ClassId
object = built_in 0

-- the class of types that are no classes
abbrev pub type : ClassId
type = built_in 7

abbrev pub string : ClassId
string = built_in 13

abbrev pub range : ClassId
range = built_in 14

abbrev pub stretchy_vector : ClassId
stretchy_vector = built_in 18

abbrev pub object_table : ClassId
object_table = built_in 21

abbrev pub generic_function : ClassId
generic_function = built_in 22

abbrev pub method : ClassId
method = built_in 23

abbrev pub simple_error : ClassId
simple_error = built_in 29

abbrev pub type_error : ClassId
type_error = built_in 30

abbrev pub vector_class : Bool → ClassId
vector_class true = stretchy_vector
vector_class false = simple_object_vector

-- Closures, and exit, next-method and next-handler procedures are methods. What is kept for code
-- alone is an object.
abbrev pub class_of_row : ObjectRow → ClassId
class_of_row (objects.Instance class slots) = class
class_of_row (objects.Pair head tail) = pair
class_of_row (objects.Vector grows items) = vector_class grows
class_of_row (objects.Bytes bytes) = byte_string
class_of_row (objects.Table entries) = object_table
class_of_row (objects.Range start step end) = range
class_of_row (objects.Closure body captured) = method
class_of_row (objects.Exit number) = method
class_of_row (objects.NextMethod generic first rest arguments) = method
class_of_row (objects.NextHandler number handler) = method
class_of_row (objects.Cell value) = object

abbrev pub class_of_object : Option ObjectRow → ClassId
class_of_object None = object
class_of_object (Some row) = class_of_row row

-- the class that a value is a direct instance of
abbrev pub class_of : Store → Variant → ClassId
class_of store (Int number) = integer
class_of store (Char code) = character
class_of store (Truth value) = boolean
class_of store (Symbol place) = symbol
class_of store Nil = empty_list
class_of store (Class class) = class_of_classes
class_of store (TypeValue place) = type
class_of store (Generic generic) = generic_function
class_of store (Function named) = method
class_of store (Builtin number) = method
class_of store (Object place) = class_of_object (slice_get store.objects place)

abbrev pub name_in : Option ClassRow → List ℕ
name_in None = []
name_in (Some row) = row.name

-- the name of a class of a program
abbrev pub class_name : Program → ClassId → List ℕ
class_name program class =
    name_in (row_in class.0.row (slice_get program.libraries class.0.library))
