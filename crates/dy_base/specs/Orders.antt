-- The order of a class, with a sorted copy.
use Rattle.std.specs.Prelude.{ℕ, suc, Bool, nat_eq, ◌&&◌, List, [], ◌∷◌}
use Rattle.std.specs.Ordering.{nat_cmp, ordering_then}
use Rattle.std.specs.declared.cmp.Ordering.{Ordering}
use Rattle.std.specs.List.Sorted.{IsPermutation, IsSorted}
use Rattle.dy_base.specs.declared.ids.ClassId.{ClassId}

abbrev pub is_class : ClassId → ClassId → Bool
is_class a b = nat_eq a.0.library b.0.library && nat_eq a.0.row b.0.row

-- by the library and then by the row
abbrev pub class_cmp : ClassId → ClassId → Ordering
class_cmp a b = ordering_then (nat_cmp a.0.library b.0.library) (nat_cmp a.0.row b.0.row)

-- by the class and then by the place
abbrev pub placed_cmp : ClassId × ℕ → ClassId × ℕ → Ordering
placed_cmp a b = ordering_then (class_cmp a.0 b.0) (nat_cmp a.1 b.1)

-- each class of a list with its place, counted from a number on
abbrev pub placed : ℕ → List ClassId → List (ClassId × ℕ)
placed from [] = []
placed from (class ∷ rest) = (class, from) ∷ placed (suc from) rest

-- all of a list's classes, sorted, each with its place
pub record IsSortedCopy (classes : List ClassId) (copy : List (ClassId × ℕ)) : Type 0 where
  pub same : IsPermutation (placed 0 classes) copy
  pub sorted : IsSorted placed_cmp copy
