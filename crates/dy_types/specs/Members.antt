-- Members of types: what is an instance of one, what lies below one, and which two can meet.
use Rattle.std.specs.Prelude.{ℤ, ◌≡◌, ◌⊎◌, ◌≤ℤ◌, Any, Contains}
use Rattle.std.specs.declared.option.Option.TheVariants.{Some}
use Rattle.dy_base.specs.declared.ids.ClassId.{ClassId}
use Rattle.dy_term.specs.declared.literal.Literal.TheVariants.{Int}
use Rattle.dy_term.specs.declared.types.Member.{Member}
use Rattle.dy_term.specs.declared.types.Member.TheVariants.{Class, Single, SingleClass, Range}
use Rattle.dy_term.specs.declared.types.Shape1.{Shape1}
use Rattle.dy_term.specs.declared.rows.Program.{Program}
use Rattle.dy_types.specs.Classes.{IsAtOrBelow, literal_class, integer, class_of_classes}

-- a number lies between two bounds, which count
abbrev pub IsBetween : ℤ → ℤ → ℤ → Type 0
IsBetween least greatest number = (least ≤ℤ number) × (number ≤ℤ greatest)

-- an argument is an instance of a member: of a class by the order of its own class, of a single
-- value where it is that value, and of a range where it is an integer in it
abbrev pub IsInstanceOf : Program → Shape1 → Member → Type 0
IsInstanceOf program shape (Class class) = IsAtOrBelow program shape.class class
IsInstanceOf program shape (Single value) = shape.single ≡ Some (Single value)
IsInstanceOf program shape (SingleClass class) = shape.single ≡ Some (SingleClass class)
IsInstanceOf program shape (Range least greatest) =
    (number : ℤ) × (shape.single ≡ Some (Single (Int number))) × IsBetween least greatest number

-- a member is at or below another
abbrev pub IsBelow : Program → Member → Member → Type 0
-- the class of a value, and that of a range's integers, tell
IsBelow program (Class lower) (Class class) = IsAtOrBelow program lower class
IsBelow program (Single value) (Class class) = IsAtOrBelow program (literal_class value) class
IsBelow program (SingleClass lower) (Class class) = IsAtOrBelow program class_of_classes class
IsBelow program (Range least greatest) (Class class) = IsAtOrBelow program integer class
-- only itself is below a single value, and a range of that value alone
IsBelow program (Single lower) (Single value) = lower ≡ value
IsBelow program (Range least greatest) (Single value) = (value ≡ Int least) × (value ≡ Int greatest)
IsBelow program (SingleClass lower) (SingleClass class) = lower ≡ class
-- an integer in a range, and a range that it holds
IsBelow program (Single value) (Range least greatest) = (number : ℤ) × (value ≡ Int number)
    × IsBetween least greatest number
IsBelow program (Range lower upper) (Range least greatest) = (least ≤ℤ lower) × (upper ≤ℤ greatest)
IsBelow program lower upper = ⊥

-- some class of the program lists both in its order
abbrev pub HaveCommonClass : Program → ClassId → ClassId → Type 0
HaveCommonClass program class other =
    Any (λ library. Any (λ row. Contains row.order class × Contains row.order other)
    library.classes) program.libraries

-- two members can meet: two classes where one is at or below the other, or a class of the program
-- is below both; two ranges where they share a number; other members where one is below the other
abbrev pub CanMeet : Program → Member → Member → Type 0
CanMeet program (Class class) (Class other) =
    (IsAtOrBelow program class other ⊎ IsAtOrBelow program other class)
    ⊎ HaveCommonClass program class other
CanMeet program (Range least greatest) (Range lower upper) =
    (number : ℤ) × IsBetween least greatest number × IsBetween lower upper number
CanMeet program member other = IsBelow program member other ⊎ IsBelow program other member
