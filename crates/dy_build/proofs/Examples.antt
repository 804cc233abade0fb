-- The definitions at examples, which they compute.
use Rattle.std.proofs.Common.{◌≡◌, ℕ, List, [], ◌∷◌, Option, Some, None, refl}
use Rattle.std.specs.Prelude.{codes}
use Rattle.dy_build.specs.Words.{Word, build, check, command_of}

no_main : Option Word
no_main = None

one : command_of (codes "build" ∷ codes "hello.lid" ∷ []) ≡ Some (build 10000000 None (codes "hello.lid" ∷ []))
one = refl

several : command_of (codes "build" ∷ codes "a.lid" ∷ codes "b.lid" ∷ codes "a.lid" ∷ []) ≡ Some (build 10000000 None (codes "a.lid" ∷ codes "b.lid" ∷ codes "a.lid" ∷ []))
several = refl

no_lid : command_of (codes "build" ∷ []) ≡ None
no_lid = refl

no_word : command_of [] ≡ None
no_word = refl

help : command_of (codes "build" ∷ codes "--help" ∷ []) ≡ None
help = refl

standard_input : command_of (codes "build" ∷ codes "-" ∷ []) ≡ Some (build 10000000 None (codes "-" ∷ []))
standard_input = refl

fuel : command_of (codes "build" ∷ codes "--fuel" ∷ codes "0000000000026" ∷ codes "hello.lid" ∷ []) ≡ Some (build 26 None (codes "hello.lid" ∷ []))
fuel = refl

most_fuel : command_of (codes "build" ∷ codes "--fuel" ∷ codes "1000000000000" ∷ codes "hello.lid" ∷ []) ≡ Some (build 1000000000000 None (codes "hello.lid" ∷ []))
most_fuel = refl

too_much_fuel : command_of (codes "build" ∷ codes "--fuel" ∷ codes "1000000000001" ∷ codes "hello.lid" ∷ []) ≡ None
too_much_fuel = refl

signed_fuel : command_of (codes "build" ∷ codes "--fuel" ∷ codes "+5" ∷ codes "hello.lid" ∷ []) ≡ None
signed_fuel = refl

fuel_alone : command_of (codes "build" ∷ codes "--fuel" ∷ codes "5" ∷ []) ≡ None
fuel_alone = refl

fuel_twice : command_of (codes "build" ∷ codes "--fuel" ∷ codes "5" ∷ codes "--fuel" ∷ codes "5" ∷ codes "a.lid" ∷ []) ≡ None
fuel_twice = refl

fuel_behind : command_of (codes "build" ∷ codes "a.lid" ∷ codes "--fuel" ∷ codes "5" ∷ []) ≡ None
fuel_behind = refl

main : command_of (codes "build" ∷ codes "--main" ∷ codes "B" ∷ codes "a.lid" ∷ codes "b.lid" ∷ []) ≡ Some (build 10000000 (Some (codes "B")) (codes "a.lid" ∷ codes "b.lid" ∷ []))
main = refl

fuel_and_main : command_of (codes "build" ∷ codes "--fuel" ∷ codes "5" ∷ codes "--main" ∷ codes "" ∷ codes "a.lid" ∷ []) ≡ Some (build 5 (Some (codes "")) (codes "a.lid" ∷ []))
fuel_and_main = refl

main_and_fuel : command_of (codes "build" ∷ codes "--main" ∷ codes "a" ∷ codes "--fuel" ∷ codes "5" ∷ codes "a.lid" ∷ []) ≡ None
main_and_fuel = refl

main_with_a_hyphen : command_of (codes "build" ∷ codes "--main" ∷ codes "-" ∷ codes "a.lid" ∷ []) ≡ None
main_with_a_hyphen = refl

checked : command_of (codes "check" ∷ codes "a.lid" ∷ codes "-" ∷ []) ≡ Some (check (codes "a.lid" ∷ codes "-" ∷ []))
checked = refl

checked_with_fuel : command_of (codes "check" ∷ codes "--fuel" ∷ codes "5" ∷ codes "a.lid" ∷ []) ≡ None
checked_with_fuel = refl
