-- What passes a test, and how much of a list does.
use Rattle.std.specs.Prelude.{Bool, true, false, nat_lt, List, count_by, Option, Some, None}

abbrev pub at_most_one : {X : Type 0} → (X → Bool) → List X → Bool
at_most_one test list = nat_lt (count_by test list) 2

abbrev pub only_if : {X : Type 0} → Bool → X → Option X
only_if true x = Some x
only_if false x = None

abbrev pub if_passes : {X : Type 0} → (X → Bool) → X → Option X
if_passes test x = only_if (test x) x
