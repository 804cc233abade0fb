-- What is in joined lists.
use Rattle.std.proofs.Common.{◌≡◌, ◌⊎◌, inl, inr, List, [], ◌∷◌, ◌++◌}
use Rattle.dy_modules.specs.Clauses.{IsIn}

pub IsIn-append : {X : Type 0} (xs ys : List X) (x : X) → IsIn x (xs ++ ys) → IsIn x xs ⊎ IsIn x ys
IsIn-append [] ys x h = inr h
IsIn-append (y ∷ xs) ys x (inl e) = inl (inl e)
IsIn-append (y ∷ xs) ys x (inr h) = elim (IsIn-append xs ys x h) [ inl a ↦ inl (inr a) | inr b ↦ inr b ]

pub IsIn-left : {X : Type 0} (xs ys : List X) (x : X) → IsIn x xs → IsIn x (xs ++ ys)
IsIn-left [] ys x h = absurd h
IsIn-left (y ∷ xs) ys x (inl e) = inl e
IsIn-left (y ∷ xs) ys x (inr h) = inr (IsIn-left xs ys x h)

pub IsIn-right : {X : Type 0} (xs ys : List X) (x : X) → IsIn x ys → IsIn x (xs ++ ys)
IsIn-right [] ys x h = h
IsIn-right (y ∷ xs) ys x h = inr (IsIn-right xs ys x h)
