-- Searches over pairs and slots.
use Rattle.std.specs.Prelude.{Bool, true, false, cond, not, ◌&&◌, List, [], ◌∷◌, Option, Some, None}
use Rattle.std.specs.Prelude.{nat_eq}
use Rattle.dy_base.specs.declared.ids.ClassId.{ClassId}
use Rattle.dy_base.specs.declared.ids.GenericId.{GenericId}
use Rattle.dy_term.specs.declared.rows.Program.{Program}
use Rattle.dy_classes.specs.Rows.{order_at}
use Rattle.dy_classes.specs.Merge.{mem, find}
use Rattle.dy_classes.specs.Legal.{primary_at}

-- both classes are primary, and neither stands in the order of the other
abbrev pub clashes : Program → ClassId → ClassId → Bool
clashes program a b =
    cond (primary_at program a)
    (cond (primary_at program b)
    (cond (mem b (order_at program a)) false (not (mem a (order_at program b)))) false) false

-- the first pair of a list that passes, by its first and then by its second element
abbrev pub first_pair : (ClassId → ClassId → Bool) → List ClassId → Option (ClassId × ClassId)
first_pair p [] = None
first_pair p (x ∷ xs) = elim (find (p x) xs) as (λ _. Option (ClassId × ClassId))
    [ Some y ↦ Some (x, y) | None ↦ first_pair p xs ]

abbrev pub is_generic : GenericId → GenericId → Bool
is_generic a b = nat_eq a.0.library b.0.library && nat_eq a.0.row b.0.row

abbrev pub has_generic : GenericId → List GenericId → Bool
has_generic g [] = false
has_generic g (h ∷ gs) = cond (is_generic g h) true (has_generic g gs)
