-- Conditions that each member of a list meets.
use Rattle.std.proofs.Common.{◌≡◌, ℕ, Bool, true, false, cond, not, List, [], ◌∷◌, ◌++◌, map, Option, Some, None, unwrap_or, refl, sym, ap, ◌∙◌, subst}
use Rattle.std.specs.Prelude.{flat_map, filter, filter_map}
use Rattle.std.specs.List.{cons_option}
use Rattle.std.specs.Option.{option_map}
use Rattle.dy_code.specs.Validity.{Every}

pub every_first : {A : Type 0} (P : A → Type 0) (xs ys : List A) → Every P (xs ++ ys) → Every P xs
every_first P [] ys all = tt
every_first P (x ∷ xs) ys all = (all.0, every_first P xs ys all.1)

pub every_last : {A : Type 0} (P : A → Type 0) (xs ys : List A) → Every P (xs ++ ys) → Every P ys
every_last P [] ys all = all
every_last P (x ∷ xs) ys all = every_last P xs ys all.1

pub every_map : {A : Type 0} (P Q : A → Type 0) → ((x : A) → P x → Q x) → (xs : List A) → Every P xs → Every Q xs
every_map P Q one [] all = tt
every_map P Q one (x ∷ xs) all = (one x all.0, every_map P Q one xs all.1)

pub every_both : {A : Type 0} (P Q R : A → Type 0) → ((x : A) → P x → Q x → R x) → (xs : List A) → Every P xs → Every Q xs → Every R xs
every_both P Q R one [] all others = tt
every_both P Q R one (x ∷ xs) all others = (one x all.0 others.0, every_both P Q R one xs all.1 others.1)

pub every_filtered : {A : Type 0} (P : A → Type 0) (test : A → Bool) (xs : List A) → Every P xs → Every P (filter test xs)
every_filtered P test [] all = tt
every_filtered {A} P test (x ∷ xs) all = kept (test x) (filter test xs) (every_filtered P test xs all.1)
  where
    kept : (is : Bool) (rest : List A) → Every P rest → Every P (cond is (x ∷ rest) rest)
    kept true rest others = (all.0, others)
    kept false rest others = others

-- in parts that are joined, part by part
pub every_part : {A B : Type 0} (P : B → Type 0) (f : A → List B) (xs : List A) → Every P (flat_map f xs) → Every (λ x. Every P (f x)) xs
every_part P f [] all = tt
every_part P f (x ∷ xs) all = (every_first P (f x) (flat_map f xs) all, every_part P f xs (every_last P (f x) (flat_map f xs) all))

-- a list that stays as it is where it is mapped
abbrev first_or : {A : Type 0} → A → List A → A
first_or x [] = x
first_or x (y ∷ ys) = y

abbrev others : {A : Type 0} → List A → List A
others [] = []
others (x ∷ xs) = xs

pub every_stays : {A : Type 0} (f : A → A) (xs : List A) → map f xs ≡ xs → Every (λ x. f x ≡ x) xs
every_stays f [] e = tt
every_stays f (x ∷ xs) e = (ap (first_or x) e, every_stays f xs (ap others e))

pub stays_every : {A : Type 0} (f : A → A) (xs : List A) → Every (λ x. f x ≡ x) xs → map f xs ≡ xs
stays_every f [] all = refl
stays_every f (x ∷ xs) all = λ j. all.0 j ∷ stays_every f xs all.1 j

-- what is mapped before it is chosen
pub chosen_mapped : {X Y : Type 0} (h : X → Option Y) (u : X → X) (f : Y → Y) → ((x : X) → h (u x) ≡ option_map f (h x)) → (xs : List X) → filter_map h (map u xs) ≡ map f (filter_map h xs)
chosen_mapped h u f one [] = refl
chosen_mapped {X} {Y} h u f one (x ∷ xs) = (λ j. cons_option (one x j) (chosen_mapped h u f one xs j)) ∙ consed (h x) (filter_map h xs)
  where
    consed : (o : Option Y) (ys : List Y) → cons_option (option_map f o) (map f ys) ≡ map f (cons_option o ys)
    consed None ys = refl
    consed (Some y) ys = refl

pub chosen_same : {X Y : Type 0} (h : X → Option Y) (u : X → X) → ((x : X) → h (u x) ≡ h x) → (xs : List X) → filter_map h (map u xs) ≡ filter_map h xs
chosen_same h u one [] = refl
chosen_same h u one (x ∷ xs) = λ j. cons_option (one x j) (chosen_same h u one xs j)

-- what is chosen of members that stay stays
pub chosen_stays : {X Y : Type 0} (h : X → Option Y) (u : X → X) (f : Y → Y) → ((x : X) → h (u x) ≡ option_map f (h x)) → (xs : List X) → Every (λ x. u x ≡ x) xs → Every (λ y. f y ≡ y) (filter_map h xs)
chosen_stays h u f one [] all = tt
chosen_stays {X} {Y} h u f one (x ∷ xs) all = consed (h x) refl (chosen_stays h u f one xs all.1)
  where
    consed : (o : Option Y) → h x ≡ o → Every (λ y. f y ≡ y) (filter_map h xs) → Every (λ y. f y ≡ y) (cons_option o (filter_map h xs))
    consed None e rest = rest
    consed (Some y) e rest =
        let path : Some (f y) ≡ Some y = sym (one x ∙ ap (option_map f) e) ∙ (ap h all.0 ∙ e) in
        (ap (λ (o : Option Y). unwrap_or o y) path, rest)
