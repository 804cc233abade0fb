-- Options, lists and choices that are the same once they are changed.
use Rattle.std.proofs.Common.{◌≡◌, Bool, true, false, if◌then◌else◌, List, [], ◌∷◌, map, Option, Some, None, option_map, option_and_then, refl, sym, ap, ◌∙◌}
use Rattle.dy_rules.specs.Reading.{or_else}

-- What is the same of something and of it changed is the same of all that are the same once they are changed.
pub lifted : {A B C : Type 0} (change : A → A) (see : B → C) (f : A → B) → ((a : A) → see (f (change a)) ≡ see (f a)) → (a b : A) → change a ≡ change b → see (f a) ≡ see (f b)
lifted change see f h a b e = sym (h a) ∙ ap (λ c. see (f c)) e ∙ h b

pub if_same : {A B : Type 0} (see : A → B) (b : Bool) (x y v w : A) → see x ≡ see v → see y ≡ see w → see (if b then x else y) ≡ see (if b then v else w)
if_same see true x y v w e f = e
if_same see false x y v w e f = f

pub map_twice : {A : Type 0} (change : A → A) → ((a : A) → change (change a) ≡ change a) → (list : List A) → map change (map change list) ≡ map change list
map_twice change h [] = refl
map_twice change h (first ∷ rest) = cc (h first, map_twice change h rest)

pub option_twice : {A : Type 0} (change : A → A) → ((a : A) → change (change a) ≡ change a) → (found : Option A) → option_map change (option_map change found) ≡ option_map change found
option_twice change h None = refl
option_twice change h (Some a) = ap Some (h a)

pub map_same : {A B : Type 0} (on_a : A → A) (on_b : B → B) (f g : A → B) (found other : Option A) → ((a b : A) → on_a a ≡ on_a b → on_b (f a) ≡ on_b (g b)) → option_map on_a found ≡ option_map on_a other
    → option_map on_b (option_map f found) ≡ option_map on_b (option_map g other)
map_same on_a on_b f g None None h e = refl
map_same on_a on_b f g (Some a) (Some b) h e = ap Some (h a b cc)
map_same on_a on_b f g found other h e = absurd cc

pub then_same : {A B : Type 0} (on_a : A → A) (on_b : B → B) (f g : A → Option B) (found other : Option A) → ((a b : A) → on_a a ≡ on_a b → option_map on_b (f a) ≡ option_map on_b (g b)) → option_map on_a found ≡ option_map on_a other
    → option_map on_b (option_and_then f found) ≡ option_map on_b (option_and_then g other)
then_same on_a on_b f g None None h e = refl
then_same on_a on_b f g (Some a) (Some b) h e = h a b cc
then_same on_a on_b f g found other h e = absurd cc

pub else_same : {A : Type 0} (change : A → A) (found other others rest : Option A) → option_map change found ≡ option_map change other → option_map change others ≡ option_map change rest
    → option_map change (or_else found others) ≡ option_map change (or_else other rest)
else_same change None None others rest e f = f
else_same change (Some a) (Some b) others rest e f = e
else_same change found other others rest e f = absurd cc

pub then_on : {A B : Type 0} (change : A → A) (on : B → B) (f g : A → Option B) (found : Option A) → ((a : A) → option_map on (f (change a)) ≡ option_map on (g a)) → option_map on (option_and_then f (option_map change found)) ≡ option_map on (option_and_then g found)
then_on change on f g None h = refl
then_on change on f g (Some a) h = h a
