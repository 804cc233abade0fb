-- The methods of each generic function of a program.
use Rattle.std.specs.Prelude.{◌≡◌, ℕ, nat_eq, Bool, true, false, List, [], ◌∷◌, ◌++◌, map}
use Rattle.std.specs.Prelude.{slice_get, IfSome}
use Rattle.std.specs.Global.{Vec}
use Rattle.std.specs.List.{filter}
use Rattle.std.specs.Option.{option_map}
use Rattle.std.specs.declared.option.Option.{Option}
use Rattle.std.specs.declared.option.Option.TheVariants.{None, Some}
use Rattle.dy_base.specs.declared.ids.GenericId.{GenericId}
use Rattle.dy_base.specs.declared.ids.MethodId.{MethodId}
use Rattle.dy_term.specs.declared.rows.MethodRow.{MethodRow}
use Rattle.dy_term.specs.declared.rows.LibraryRow.{LibraryRow}
use Rattle.dy_term.specs.declared.rows.Program.{Program}
use Rattle.dy_code.specs.Programs.{if_there}
use Rattle.dy_meaning.specs.Globals.{is_same_ref}
use Rattle.dy_lowering_law.specs.Machines.{all_methods_from}

-- all methods of a program, in load order and the order of the text
abbrev pub all_methods : Program → List (MethodId × MethodRow)
all_methods program = all_methods_from 0 program.libraries

-- the numbers of those that are methods of a generic function
abbrev pub own : GenericId → List (MethodId × MethodRow) → List MethodId
own generic methods = map (λ method. method.0)
    (filter (λ method. is_same_ref method.1.generic.0 generic.0) methods)

-- the list at a place, if there is one
abbrev pub list_at : List (Vec MethodId) → ℕ → Option (List MethodId)
list_at lists place = option_map (λ list. list.items) (slice_get lists place)

-- what a table has for a generic function, if it has a place for it
abbrev pub entry : List (Vec (Vec MethodId)) → GenericId → Option (List MethodId)
entry table generic = if_there (slice_get table generic.0.library)
    (λ lists. list_at lists.items generic.0.row)

-- the table has, for each generic function, just its methods in order
abbrev pub IsTable : Program → List (Vec (Vec MethodId)) → Type 0
IsTable program table = (generic : GenericId)
    → IfSome (entry table generic) (λ methods. methods ≡ own generic (all_methods program))

-- no list has a method yet
abbrev pub AreEmpty : List (Vec MethodId) → Type 0
AreEmpty lists = (place : ℕ) → IfSome (list_at lists place) (λ methods. methods ≡ [])

abbrev pub IsEmpty : List (Vec (Vec MethodId)) → Type 0
IsEmpty table = (generic : GenericId) → IfSome (entry table generic) (λ methods. methods ≡ [])

-- a list with a method behind the others, if it is the one
abbrev pub entered_if : Bool → MethodId → List MethodId → List MethodId
entered_if true method methods = methods ++ method ∷ []
entered_if false method methods = methods

-- A method has come to the end of the list of its generic function. The others are as they were.
abbrev pub IsEnteredIn : (row : ℕ) → MethodId → (old new : List (Vec MethodId)) → Type 0
IsEnteredIn row method old new = (place : ℕ)
    → list_at new place ≡ option_map (entered_if (nat_eq row place) method) (list_at old place)

abbrev pub IsEntered : GenericId → MethodId → (old new : List (Vec (Vec MethodId))) → Type 0
IsEntered named method old new = (generic : GenericId) → entry new generic
    ≡ option_map (entered_if (is_same_ref named.0 generic.0) method) (entry old generic)

-- the table awaits these methods yet, which are the last of all
abbrev pub Awaits : (all last : List (MethodId × MethodRow)) → List (Vec (Vec MethodId)) → Type 0
Awaits all last table = (generic : GenericId)
    → IfSome (entry table generic) (λ methods. methods ++ own generic last ≡ own generic all)

abbrev pub method_in : ℕ → Option LibraryRow → Option MethodRow
method_in row None = None
method_in row (Some library) = slice_get library.methods row

-- the row of a method
abbrev pub method_at : Program → MethodId → Option MethodRow
method_at program method = method_in method.0.row (slice_get program.libraries method.0.library)
