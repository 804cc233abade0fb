-- Lists and options that are mapped more than once.
use Rattle.std.proofs.Common.{◌≡◌, ℕ, ◌+◌, List, [], ◌∷◌, ◌++◌, length, map, Option, Some, None, refl, sym, ap, ◌∙◌}
use Rattle.std.specs.Prelude.{flat_map}
use Rattle.std.specs.Option.{option_map}
use Rattle.std.proofs.lemmas.List.{map-append}

pub map_twice : {A B C : Type 0} (g : B → C) (f : A → B) (xs : List A) → map g (map f xs) ≡ map (λ x. g (f x)) xs
map_twice g f [] = refl
map_twice g f (x ∷ xs) = ap (λ ys. g (f x) ∷ ys) (map_twice g f xs)

pub map_all : {A B : Type 0} (f g : A → B) → ((x : A) → f x ≡ g x) → (xs : List A) → map f xs ≡ map g xs
map_all f g same [] = refl
map_all f g same (x ∷ xs) = λ i. same x i ∷ map_all f g same xs i

pub option_twice : {A B C : Type 0} (g : B → C) (f : A → B) (x : Option A) → option_map g (option_map f x) ≡ option_map (λ y. g (f y)) x
option_twice g f None = refl
option_twice g f (Some x) = refl

pub option_all : {A B : Type 0} (f g : A → B) → ((x : A) → f x ≡ g x) → (x : Option A) → option_map f x ≡ option_map g x
option_all f g same None = refl
option_all f g same (Some x) = λ i. Some (same x i)

-- what is joined from a mapped list
pub flat_mapped : {A B C : Type 0} (g : B → List C) (f : A → B) (xs : List A) → flat_map g (map f xs) ≡ flat_map (λ x. g (f x)) xs
flat_mapped g f [] = refl
flat_mapped g f (x ∷ xs) = ap (λ ys. g (f x) ++ ys) (flat_mapped g f xs)

pub flat_all : {A B : Type 0} (f g : A → List B) → ((x : A) → f x ≡ g x) → (xs : List A) → flat_map f xs ≡ flat_map g xs
flat_all f g same [] = refl
flat_all f g same (x ∷ xs) = λ i. same x i ++ flat_all f g same xs i

pub mapped_flat : {A B C : Type 0} (g : B → C) (f : A → List B) (xs : List A) → map g (flat_map f xs) ≡ flat_map (λ x. map g (f x)) xs
mapped_flat g f [] = refl
mapped_flat g f (x ∷ xs) = map-append g (f x) (flat_map f xs) ∙ ap (λ ys. map g (f x) ++ ys) (mapped_flat g f xs)

-- two lists that are mapped, one behind the other
pub map_both : {A B : Type 0} (f : A → B) (xs ys : List A) (xs' ys' : List B) → xs' ≡ map f xs → ys' ≡ map f ys → xs' ++ ys' ≡ map f (xs ++ ys)
map_both f xs ys xs' ys' e h = (λ i. e i ++ h i) ∙ sym (map-append f xs ys)
