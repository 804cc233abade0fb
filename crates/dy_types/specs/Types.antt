-- Types as lists of members (DRM 4, "Types").
use Rattle.std.specs.Prelude.{All, Any}
use Rattle.dy_term.specs.declared.types.DyType.{DyType}
use Rattle.dy_term.specs.declared.types.Shape1.{Shape1}
use Rattle.dy_term.specs.declared.rows.Program.{Program}
use Rattle.dy_types.specs.Members.{IsInstanceOf, IsBelow, CanMeet}

-- an argument is an instance of a type: of some member
abbrev pub IsInstance : Program → Shape1 → DyType → Type 0
IsInstance program shape type = Any (IsInstanceOf program shape) type.members

-- a type is a subtype of another: each of its members is at or below some member of the other
abbrev pub IsSubtype : Program → DyType → DyType → Type 0
IsSubtype program type other =
    All (λ member. Any (IsBelow program member) other.members) type.members

-- two types meet: some member of one can meet some member of the other
abbrev pub Meet : Program → DyType → DyType → Type 0
Meet program type other = Any (λ member. Any (CanMeet program member) other.members) type.members
