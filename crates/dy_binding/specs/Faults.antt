-- Which of several faults is told: the one at the earliest place, then the one of the smaller kind,
-- then the one in front.
use Rattle.std.specs.Prelude.{ℕ, Bool, true, false, ◌&&◌, ◌||◌, nat_eq, nat_lt, [], List, Option}
use Rattle.std.specs.Prelude.{Some, None, if◌then◌else◌}
use Rattle.dy_base.specs.Kinds.{code_of}
use Rattle.dy_base.specs.declared.kind.Kind.{Kind}
use Rattle.dy_base.specs.declared.fault.Fault.{Fault}
use Rattle.dy_base.specs.declared.fault.Place.{Place}
use Rattle.dy_tree.specs.declared.token.Token.{Token}

-- no place stands before each place
abbrev pub is_earlier : Option Place → Option Place → Bool
is_earlier None None = false
is_earlier None (Some b) = true
is_earlier (Some a) None = false
is_earlier (Some a) (Some b) =
    nat_lt a.file b.file || (nat_eq a.file b.file && nat_lt a.offset b.offset)

-- at an earlier place, or at one place with a smaller number
abbrev pub comes_before : Fault → Fault → Bool
comes_before a b = if is_earlier a.place b.place then true
    else if is_earlier b.place a.place then false else nat_lt (code_of a.kind) (code_of b.kind)

-- of a fault and one behind it; of two that are alike the one in front
abbrev pub first_of_two : Option Fault → Fault → Fault
first_of_two None fault = fault
first_of_two (Some first) fault = if comes_before fault first then fault else first

-- a fault at a token, which shows these texts
abbrev pub fault_at : Kind → Token → List (List ℕ) → Fault
fault_at kind token shown =
    record { kind = kind; library = []; place = Some token.place; shown = shown; numbers = [] }
