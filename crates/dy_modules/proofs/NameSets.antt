-- Sets of names, against the lists that hold them.
use Rattle.std.proofs.Common.{◌≡◌, ℕ, Bool, true, false, cond, if◌then◌else◌, ◌||◌, List, [], ◌∷◌, ◌++◌, Option, Some, None, is_some, position, refl, sym, ap, ◌∙◌}
use Rattle.std.specs.List.{list_any}
use Rattle.std.specs.Str.{bytes_eq}
use Rattle.indexmap.specs.IndexMap.{insert_entry}
use Rattle.dy_base.specs.Tables.{NamedList, names}
use Rattle.dy_base.proofs.Positions.{behind, position-cons}

some_first : (b : Bool) (o : Option ℕ) → is_some (cond b (Some 0) (behind o)) ≡ (b || is_some o)
some_first true o = refl
some_first false None = refl
some_first false (Some i) = refl

pub placed_any : {X : Type 0} (p : X → Bool) (xs : List X) → is_some (position p xs) ≡ list_any p xs
placed_any p [] = refl
placed_any p (x ∷ xs) = ap is_some (position-cons p x xs) ∙ some_first (p x) (position p xs) ∙ ap (λ b. p x || b) (placed_any p xs)

names_with : (b : Bool) {V : Type 0} (q : List ℕ) (v : V) (e : List ℕ × V) (list more : NamedList V) (rest : Bool)
    → names more ≡ (if rest then names list else names list ++ q ∷ [])
    → names (if b then (e.0, v) ∷ list else e ∷ more) ≡ (if b || rest then names (e ∷ list) else names (e ∷ list) ++ q ∷ [])
names_with true q v e list more rest is = refl
names_with false q v e list more true is = ap (λ l. e.0 ∷ l) is
names_with false q v e list more false is = ap (λ l. e.0 ∷ l) is

-- a name that is put is new, or stays where it was
pub names-insert : {V : Type 0} (list : NamedList V) (q : List ℕ) (v : V)
    → names (insert_entry bytes_eq list q v) ≡ (if list_any (bytes_eq q) (names list) then names list else names list ++ q ∷ [])
names-insert [] q v = refl
names-insert (e ∷ list) q v = names_with (bytes_eq q e.0) q v e list _ (list_any (bytes_eq q) (names list)) (names-insert list q v)
