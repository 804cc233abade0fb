-- What the names that the modules of a library own are, by its definitions.
use Rattle.std.specs.Prelude.{ℕ, Bool, true, false, not, ◌&&◌, ◌||◌, cond, List, Option}
use Rattle.std.specs.Prelude.{Some, None}
use Rattle.std.specs.Prelude.{find, option_map, is_some}
use Rattle.std.specs.List.{list_any}
use Rattle.dy_base.specs.declared.ids.What.{What}
use Rattle.dy_base.specs.declared.ids.What.TheVariants as whats
use Rattle.dy_modules.specs.declared.owner.Owner.{Owner}
use Rattle.dy_modules.specs.declared.owner.Owner.TheVariants.{Own}
use Rattle.dy_modules.specs.Clauses.{is_same_owner}
use Rattle.dy_definitions.specs.declared.definitions.Role.{Role}
use Rattle.dy_definitions.specs.declared.definitions.Role.TheVariants.{Makes, Adds}
use Rattle.dy_definitions.specs.declared.definitions.Definition.{Definition}

abbrev pub is_generic : What → Bool
is_generic whats.Generic = true
is_generic whats.Class = false
is_generic whats.Variable = false
is_generic whats.Constant = false
is_generic whats.Function = false
is_generic whats.Macro = false

abbrev pub is_owned : Option Owner → ℕ → List ℕ → Bool
is_owned None c a = false
is_owned (Some k) c a = is_same_owner k (Own c a)

-- the definition is one of the name that module c of the library owns as a
abbrev pub is_of : ℕ → List ℕ → Definition → Bool
is_of c a d = is_owned d.owner c a

-- it is one, and stands where one may
abbrev pub is_placed : ℕ → List ℕ → Definition → Bool
is_placed c a d = is_of c a d && d.is_open

-- a method makes its name a generic function
abbrev pub what_made : Role → What
what_made Adds = whats.Generic
what_made (Makes what) = what

-- what a name is: what the first definition makes it of those that stand where one may
abbrev pub what_is : List Definition → ℕ → List ℕ → Option What
what_is ds c a = option_map (λ d. what_made d.role) (find (is_placed c a) ds)

abbrev pub is_function : Option What → Bool
is_function None = false
is_function (Some what) = is_generic what

abbrev pub is_method : Role → Bool
is_method Adds = true
is_method (Makes what) = false

-- it is one, and stands where one may or is a method, which may stand elsewhere too
abbrev pub is_leading : ℕ → List ℕ → Definition → Bool
is_leading c a d = is_of c a d && (d.is_open || is_method d.role)

-- what the first of those makes the name
abbrev pub first_made : List Definition → ℕ → List ℕ → Option What
first_made ds c a = option_map (λ d. what_made d.role) (find (is_leading c a) ds)

-- The name means a generic function: one of the definitions that stand where one may makes it
-- something, and what comes first makes it that. Of a method and a definition of another thing the
-- later is one too many, wherever the method stands.
abbrev pub is_generic_name : List Definition → ℕ → List ℕ → Bool
is_generic_name ds c a = is_some (what_is ds c a) && is_function (first_made ds c a)

abbrev pub makes_generic : Role → Bool
makes_generic Adds = false
makes_generic (Makes what) = is_generic what

abbrev pub makes_other : Role → Bool
makes_other Adds = false
makes_other (Makes what) = not (is_generic what)

-- it is one that makes its name a generic function, and stands where it may
abbrev pub is_form : ℕ → List ℕ → Definition → Bool
is_form c a d = is_placed c a d && makes_generic d.role

abbrev pub has_form : List Definition → ℕ → List ℕ → Bool
has_form ds c a = list_any (is_form c a) ds

-- Whether a definition may give its name its row, where the name is a generic function or is none,
-- and a form makes it one or none does. A method does where no form does. Another definition does
-- where it may stand and makes the name what it is.
abbrev pub may_give : Role → Bool → Bool → Bool → Bool
may_give Adds is_open function form = function && not form
may_give (Makes what) is_open function form =
    is_open && cond (is_generic what) function (not function)

abbrev pub gives : List Definition → ℕ → List ℕ → Definition → Bool
gives ds c a d =
    is_of c a d && may_give d.role d.is_open (is_generic_name ds c a) (has_form ds c a)
