-- What holds of load orders.
use Rattle.std.proofs.Common.{◌≡◌, ◌⊎◌, ℕ, zero, suc, ◌+◌, ◌<◌, ◌≤◌, true, false, eqb, List, [], ◌∷◌, ◌++◌, fold, take, length, get_or, Contains, refl, sym, ap, subst, ◌∙◌, inl, inr, ne_eqb, take_at, arith}
use Rattle.std.specs.List.{IsDistinct, AllByRecursion}
use Rattle.std.proofs.lemmas.Bool.{cases_lt, or_parts, eqb-false}
use Rattle.std.proofs.lemmas.List.{get_or_append_left, get_or_at, get_or_default, take-append-le, length_push}
use Rattle.std.proofs.lemmas.Map.Steps.{length-le_from_distinct_below}
use Rattle.dy_load_order.specs.LoadOrder.{AreEarlier, used_by, is_in, visited, load_order}
use Rattle.dy_load_order.specs.Laws.{DylanIsFirst, MainIsLast, NoneIsTwice, UsedAreInFront, Reaches, itself, by_use, ReachedAreLoaded}
use Rattle.dy_load_order.proofs.Members.{in_tail, in_parts, in_contains, contains_in, all_in, in_taken}
use Rattle.dy_load_order.proofs.Visiting.{used_earlier}
use Rattle.dy_load_order.proofs.Keeping.{has, only, walk, fold_walk}

pub main_is_last : MainIsLast
main_is_last uses main earlier = (fold (visited main uses) [] (used_by uses main), refl)

-- ---- dylan

abbrev Begins : List ℕ → Type 0
Begins order = (others : List ℕ) × (order ≡ 0 ∷ others)

begins_more : (order : List ℕ) (n : ℕ) → Begins order → Begins (order ++ n ∷ [])
begins_more order n (others, e) = (others ++ n ∷ [], ap (λ (xs : List ℕ). xs ++ n ∷ []) e)

pub dylan_is_first : DylanIsFirst
dylan_is_first uses zero earlier = ([], refl)
dylan_is_first uses (suc m) earlier =
    begins_more (fold (visited (suc m) uses) (0 ∷ []) (get_or uses (suc m) [])) (suc m)
    (fold_walk uses earlier Begins (λ n. Unit {0}) (λ n u q i. tt) (λ order n p q new all. begins_more order n p) (suc m)
    (walk uses earlier Begins (λ n. Unit {0}) (λ n u q i. tt) (λ order n p q new all. begins_more order n p) (suc m))
    (get_or uses (suc m) []) (λ n i. (used_earlier uses earlier (suc m) n (in_tail 0 (get_or uses (suc m) []) n i), tt)) (0 ∷ []) ([], refl))

-- ---- none is twice

each_push : (P : ℕ → Type 0) (xs : List ℕ) (y : ℕ) → AllByRecursion P xs → P y → AllByRecursion P (xs ++ y ∷ [])
each_push P [] y all p = (p, tt)
each_push P (x ∷ xs) y (q, all) p = (q, each_push P xs y all p)

distinct_push : (xs : List ℕ) (n : ℕ) → IsDistinct eqb xs → is_in xs n ≡ false → IsDistinct eqb (xs ++ n ∷ [])
unfolding IsDistinct
distinct_push [] n d new = (tt, tt)
distinct_push (x ∷ xs) n (apart, d) new =
    let (other, rest) = or_parts (eqb n x) (is_in xs n) new in
    (each_push (λ y. eqb x y ≡ false) xs n apart (ne_eqb x n (λ e. eqb-false n x other (sym e))), distinct_push xs n d rest)

pub none_is_twice : NoneIsTwice
unfolding IsDistinct
none_is_twice uses main earlier =
    walk uses earlier (IsDistinct eqb) (λ n. Unit {0}) (λ n u q i. tt) (λ order n p q new all. distinct_push order n p new) (suc main) main [] (omega arith) tt tt

pub at_most : (uses : List (List ℕ)) (main : ℕ) → AreEarlier uses → length (load_order uses main) ≤ main + 1
at_most uses main earlier =
    length-le_from_distinct_below (load_order uses main) (main + 1) (none_is_twice uses main earlier)
    (λ q i. small q (only uses earlier (suc main) main [] q (omega arith) i))
  where
    small : (q : ℕ) → (q ≤ main) ⊎ (is_in [] q ≡ true) → q < main + 1
    small q (inl l) = omega arith
    small q (inr i) = absurd cc

-- ---- all that is used stands in front

abbrev HasInFront : List (List ℕ) → List ℕ → Type 0
HasInFront uses order = (place : ℕ) → place < length order → (u : ℕ) → is_in (used_by uses (get_or order place 0)) u ≡ true → is_in (take place order) u ≡ true

front_push : (uses : List (List ℕ)) (order : List ℕ) (n : ℕ) → HasInFront uses order → ((u : ℕ) → is_in (used_by uses n) u ≡ true → is_in order u ≡ true) → HasInFront uses (order ++ n ∷ [])
front_push uses order n front all place within u i = go (cases_lt place (length order))
  where
    long : length (order ++ n ∷ []) ≡ length order + 1
    long = length_push order n

    go : (place < length order) ⊎ (length order ≤ place) → is_in (take place (order ++ n ∷ [])) u ≡ true
    go (inl l) =
        ap (λ xs. is_in xs u) (take-append-le place order (n ∷ []) (omega arith))
        ∙ front place l u (sym (ap (λ m. is_in (used_by uses m) u) (get_or_append_left order (n ∷ []) 0 place l)) ∙ i)
    go (inr m) =
        let end : length order ≡ place = omega (arith, long) in
        ap (λ xs. is_in xs u) (take_at order (n ∷ []) place end)
        ∙ all u (sym (ap (λ m. is_in (used_by uses m) u) (get_or_at order n [] 0 place end)) ∙ i)

in_front : (uses : List (List ℕ)) (main : ℕ) → AreEarlier uses → HasInFront uses (load_order uses main)
in_front uses main earlier =
    walk uses earlier (HasInFront uses) (λ n. Unit {0}) (λ n u q i. tt) (λ order n p q new all. front_push uses order n p all) (suc main) main [] (omega arith) tt
    (λ place within. absurd (omega arith))

pub used_are_in_front : UsedAreInFront
used_are_in_front uses main earlier place within =
    let order = load_order uses main in
    all_in (Contains (take place order)) (used_by uses (get_or order place 0)) (λ u i. in_contains (take place order) u (in_front uses main earlier place within u i))

-- ---- what is reached

reaches_on : {uses : List (List ℕ)} {a b : ℕ} (u : ℕ) → Reaches uses a b → Contains (used_by uses b) u → Reaches uses a u
reaches_on u (itself n) c = by_use n u u c (itself u)
reaches_on u (by_use n m b d r) c = by_use n m u d (reaches_on u r c)

loaded_reached : (uses : List (List ℕ)) (main : ℕ) → AreEarlier uses → (x : ℕ) → is_in (load_order uses main) x ≡ true → Reaches uses main x
loaded_reached uses main earlier =
    walk uses earlier (λ order. (x : ℕ) → is_in order x ≡ true → Reaches uses main x) (Reaches uses main)
    (λ n u q i. reaches_on u q (in_contains (used_by uses n) u i)) (λ order n p q no all x i. last order n p q x (in_parts order n x i)) (suc main) main [] (omega arith) (itself main)
    (λ x i. absurd cc)
  where
    last : (order : List ℕ) (n : ℕ) → ((x : ℕ) → is_in order x ≡ true → Reaches uses main x) → Reaches uses main n → (x : ℕ) → (is_in order x ≡ true) ⊎ (x ≡ n) → Reaches uses main x
    last order n p q x (inl i) = p x i
    last order n p q x (inr e) = subst (Reaches uses main) (sym e) q

used_in : (uses : List (List ℕ)) (order : List ℕ) → HasInFront uses order → (a u : ℕ) → is_in order a ≡ true → Contains (used_by uses a) u → is_in order u ≡ true
used_in uses order front a u i c =
    let (place, within, same) = in_contains order a i in
    let at : get_or order place 0 ≡ a = get_or_default order place 0 a within ∙ same in
    in_taken place order u (front place within u (contains_in (used_by uses (get_or order place 0)) u (subst (λ m. Contains (used_by uses m) u) (sym at) c)))

reached_in : {uses : List (List ℕ)} {a x : ℕ} (order : List ℕ) → HasInFront uses order → Reaches uses a x → is_in order a ≡ true → is_in order x ≡ true
reached_in order front (itself n) i = i
reached_in {uses} order front (by_use n m x c r) i = reached_in order front r (used_in uses order front n m i c)

pub reached_are_loaded : ReachedAreLoaded
reached_are_loaded uses main library earlier =
    let order = load_order uses main in (
      λ c. loaded_reached uses main earlier library (contains_in order library c),
      λ r. in_contains order library (reached_in order (in_front uses main earlier) r (has uses (suc main) main [] (omega arith))),
    )
