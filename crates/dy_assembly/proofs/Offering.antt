-- Offers one after another.
use Rattle.std.proofs.Common.{◌≡◌, ℕ, suc, ◌+◌, ◌<◌, map, flat_map, drop, length, get_or, List, [], ◌∷◌, ◌++◌, drop-cons, add-one, refl, sym, ap, ◌∙◌}
use Rattle.dy_names.specs.Naming.{Table}
use Rattle.dy_assembly.specs.Generics.{Offer, number_in}
use Rattle.dy_assembly.specs.Gathered.{Entries, with_offer, gathered}

-- Offers behind others are gathered behind them.
pub gathered_twice : (library : ℕ) (owner : Table) (rows : Entries) (some more : List Offer)
    → gathered library owner rows (some ++ more) ≡ gathered library owner (gathered library owner rows some) more
gathered_twice library owner rows [] more = refl
gathered_twice library owner rows (offer ∷ some) more =
    gathered_twice library owner (with_offer rows (number_in library (owner offer.0)) offer.1) some more

-- After the offers of one item come those of the rest.
pub gathered_next : {A B : Type 0} (library : ℕ) (owner : Table) (see : A → B) (made : B → List Offer) (xs : List A) (i : ℕ) (x : A) (whole before after : Entries)
    → i < length xs → x ≡ get_or xs i x
    → whole ≡ gathered library owner before (flat_map made (map see (drop i xs)))
    → after ≡ gathered library owner before (made (see x))
    → whole ≡ gathered library owner after (flat_map made (map see (drop (i + 1) xs)))
gathered_next {A} library owner see made xs i x whole before after inside is so_far one =
    let rest = flat_map made (map see (drop (suc i) xs)) in
    rw (add-one i)
    (so_far
    ∙ ap (λ (l : List A). gathered library owner before (flat_map made (map see l))) (drop-cons xs i x inside)
    ∙ ap (λ (y : A). gathered library owner before (made (see y) ++ rest)) (sym is)
    ∙ gathered_twice library owner before (made (see x)) rest
    ∙ ap (λ (es : Entries). gathered library owner es rest) (sym one))

-- one more offer
pub gathered_more : {A : Type 0} (library : ℕ) (owner : Table) (see : A → Offer) (start before after : Entries) (xs : List A) (x : A)
    → before ≡ gathered library owner start (map see xs)
    → after ≡ gathered library owner before (see x ∷ [])
    → after ≡ gathered library owner start (map see (xs ++ x ∷ []))
gathered_more library owner see start before after [] x so_far one =
    one ∙ ap (λ (es : Entries). gathered library owner es (see x ∷ [])) so_far
gathered_more library owner see start before after (y ∷ ys) x so_far one =
    gathered_more library owner see (with_offer start (number_in library (owner (see y).0)) (see y).1) before after ys x so_far one
