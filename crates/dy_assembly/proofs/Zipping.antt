-- Pairs whose first parts are lent.
use Rattle.std.proofs.Common.{◌≡◌, List, [], ◌∷◌, map, Bor, refl, ap, ◌∙◌}
use Rattle.std.specs.Prelude.{zip}

-- a pair whose first part is lent, and one whose first part is lent twice
abbrev pub lent : {A B : Type 0} → Bor A × B → A × B
lent p = (p.0.now, p.1)

abbrev pub lent_twice : {A B : Type 0} → Bor (Bor A) × B → A × B
lent_twice p = (p.0.now.now, p.1)

zip_lent : {A B : Type 0} (xs : List (Bor A)) (ys : List B) → map lent (zip xs ys) ≡ zip (map (λ (x : Bor A). x.now) xs) ys
zip_lent [] ys = refl
zip_lent (x ∷ xs) [] = refl
zip_lent {A} {B} (x ∷ xs) (y ∷ ys) = ap (λ (l : List (A × B)). (x.now, y) ∷ l) (zip_lent xs ys)

lent_again : {A B : Type 0} (ps : List (Bor (Bor A) × B)) → map (lent_twice {A = A} {B = B}) ps ≡ map (lent {A = A} {B = B}) (map (lent {A = Bor A} {B = B}) ps)
lent_again [] = refl
lent_again {A} {B} (p ∷ ps) = ap (λ (l : List (A × B)). (p.0.now.now, p.1) ∷ l) (lent_again ps)

pub zip_lent_twice : {A B : Type 0} (ps : List (Bor (Bor A) × B)) (xs : List (Bor A)) (ys : List B) → map (lent {A = Bor A} {B = B}) ps ≡ zip xs ys
    → map (lent_twice {A = A} {B = B}) ps ≡ zip (map (λ (x : Bor A). x.now) xs) ys
zip_lent_twice {A} {B} ps xs ys is = lent_again ps ∙ ap (map (lent {A = A} {B = B})) is ∙ zip_lent xs ys
