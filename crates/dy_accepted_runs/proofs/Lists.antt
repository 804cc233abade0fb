-- Lists with an item more at the end, and what holds of all items of a list.
use Rattle.std.proofs.Common.{◌≡◌, ℕ, suc, ◌<◌, List, [], ◌∷◌, ◌++◌, map, length, get_or, All, refl, arith}
use Rattle.dy_code.specs.Validity.{Every}

pub every_of : {A : Type 0} (P : A → Type 0) (xs : List A) → All P xs → Every P xs
every_of P [] all = tt
every_of P (x ∷ xs) all = (all 0 x (omega arith), every_of P xs (λ k d low. all (suc k) d (omega (arith, low))))

-- functions that are the same on the items of a list
pub map_on : {A B : Type 0} (P : A → Type 0) (f g : A → B) → ((x : A) → P x → f x ≡ g x) → (xs : List A) → Every P xs → map f xs ≡ map g xs
map_on P f g same [] all = refl
map_on P f g same (x ∷ xs) all = λ i. same x all.0 i ∷ map_on P f g same xs all.1 i
