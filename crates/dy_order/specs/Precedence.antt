-- Which methods are applicable, and which precedes which (DRM 6, "Method Dispatch").
use Rattle.std.specs.Prelude.{ℕ, ◌≡◌, ◌⊎◌, ◌<◌, List, [], ◌∷◌, length, All, Any, position, zip}
use Rattle.std.specs.declared.option.Option.{Option}
use Rattle.std.specs.declared.option.Option.TheVariants.{None, Some}
use Rattle.dy_base.specs.declared.ids.ClassId.{ClassId}
use Rattle.dy_base.specs.declared.ids.GenericId.{GenericId}
use Rattle.dy_base.specs.declared.ids.MethodId.{MethodId}
use Rattle.dy_base.specs.Orders.{is_class}
use Rattle.dy_term.specs.declared.types.DyType.{DyType}
use Rattle.dy_term.specs.declared.types.Member.{Member}
use Rattle.dy_term.specs.declared.types.Member.TheVariants.{Class}
use Rattle.dy_term.specs.declared.types.Shape1.{Shape1}
use Rattle.dy_term.specs.declared.rows.MethodRow.{MethodRow}
use Rattle.dy_term.specs.declared.rows.Program.{Program}
use Rattle.dy_types.specs.Classes.{order_of}
use Rattle.dy_types.specs.Types.{IsInstance, IsSubtype}
use Rattle.dy_order.specs.Methods.{method_at, specializers_of}

-- there is one argument for each type, and each is an instance of its type
abbrev pub AreInstances : Program → List Shape1 → List DyType → Type 0
AreInstances program args types =
    (length args ≡ length types) × All (λ pair. IsInstance program pair.0 pair.1) (zip args types)

-- a method of the generic function that takes the arguments
abbrev pub IsApplicable : Program → GenericId → List Shape1 → MethodId → Type 0
IsApplicable program generic args method =
    (row : MethodRow) × (method_at program method ≡ Some row) × (row.generic ≡ generic) × AreInstances program args row.params.required

-- neither type is a subtype of the other
abbrev pub AreUnrelated : Program → DyType → DyType → Type 0
AreUnrelated program type other = (IsSubtype program type other → ⊥) × (IsSubtype program other type → ⊥)

-- a class stands before another in a list, by the first place of each
abbrev pub IsBefore : ClassId → ClassId → List ClassId → Type 0
IsBefore class other classes =
    (i j : ℕ) × (position (is_class class) classes ≡ Some i) × (position (is_class other) classes ≡ Some j) × (i < j)

-- the class of a list of members that is one class
abbrev pub one_class : List Member → Option ClassId
one_class (Class class ∷ []) = Some class
one_class members = None

-- two types are one class each, and unrelated; the class precedence list of the argument's class has
-- the first before the second
abbrev pub IsEarlier : Program → Shape1 → DyType → DyType → Type 0
IsEarlier program shape type other =
    (class second : ClassId) × (one_class type.members ≡ Some class) × (one_class other.members ≡ Some second)
    × AreUnrelated program type other × IsBefore class second (order_of program shape.class)

-- a type is at least as specific as another, for an argument
abbrev pub IsAsSpecific : Program → Shape1 → DyType → DyType → Type 0
IsAsSpecific program shape type other = IsSubtype program type other ⊎ IsEarlier program shape type other

-- it is more specific: at least as specific, and the other is not
abbrev pub IsMoreSpecific : Program → Shape1 → DyType → DyType → Type 0
IsMoreSpecific program shape type other =
    IsAsSpecific program shape type other × (IsAsSpecific program shape other type → ⊥)

-- each argument with the types that two methods have at its position
abbrev pub positions : List Shape1 → List DyType → List DyType → List (Shape1 × (DyType × DyType))
positions args types others = zip args (zip types others)

-- a method precedes another, for the arguments: at each position its specializer is at least as
-- specific, and at some position it is more specific
abbrev pub Precedes : Program → List Shape1 → MethodId → MethodId → Type 0
Precedes program args method other =
    let places = positions args (specializers_of program method) (specializers_of program other) in
    All (λ place. IsAsSpecific program place.0 place.1.0 place.1.1) places
    × Any (λ place. IsMoreSpecific program place.0 place.1.0 place.1.1) places
