-- What the laws of types suppose.
use Rattle.std.specs.Prelude.{ℤ, ◌≡◌, ◌≤ℤ◌, All, Contains}
use Rattle.std.specs.declared.option.Option.TheVariants.{Some}
use Rattle.dy_base.specs.declared.ids.ClassId.{ClassId}
use Rattle.dy_term.specs.declared.literal.Literal.{Literal, Literal-F, out-Literal}
use Rattle.dy_term.specs.declared.literal.Literal.TheVariants.{Int}
use Rattle.dy_term.specs.declared.types.Member.{Member}
use Rattle.dy_term.specs.declared.types.Member.TheVariants.{Single, SingleClass, Range}
use Rattle.dy_term.specs.declared.types.DyType.{DyType}
use Rattle.dy_term.specs.declared.types.Shape1.{Shape1}
use Rattle.dy_term.specs.declared.rows.Program.{Program}
use Rattle.dy_types.specs.Classes.{order_of, literal_class, integer, class_of_classes}

-- the order of a class lists what is listed in the orders of the classes that it lists
abbrev pub AreOrdersClosed : Program → Type 0
AreOrdersClosed program =
    (lower class upper : ClassId) → Contains (order_of program lower) class
    → Contains (order_of program class) upper → Contains (order_of program lower) upper

-- a range holds a number
abbrev pub IsFilled : Member → Type 0
IsFilled (Range least greatest) = least ≤ℤ greatest
IsFilled member = Unit {0}

-- each range of a type holds a number
abbrev pub AreFilled : DyType → Type 0
AreFilled type = All IsFilled type.members

-- what `==` tells by its value: strings, lists that are not empty and vectors are objects of their
-- own
abbrev pub IsPlain : Literal-F Literal → Type 0
IsPlain (Literal-F.Str text) = ⊥
IsPlain (Literal-F.List items last) = ⊥
IsPlain (Literal-F.Vector items) = ⊥
IsPlain literal = Unit {0}

-- an argument of this class can be the member itself
abbrev pub IsItself : ClassId → Member → Type 0
IsItself class (Single value) = IsPlain (out-Literal value) × (class ≡ literal_class value)
IsItself class (SingleClass shown) = class ≡ class_of_classes
IsItself class member = ⊥

-- what dispatch sees of some argument
abbrev pub IsArgument : Shape1 → Type 0
IsArgument shape = (member : Member) → shape.single ≡ Some member → IsItself shape.class member

-- what dispatch sees of a number
abbrev pub number_shape : ℤ → Shape1
number_shape number = record { class = integer; single = Some (Single (Int number)) }
