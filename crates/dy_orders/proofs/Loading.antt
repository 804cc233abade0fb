-- Load orders and places do not hang on how libraries are numbered: what corresponds stays so.
use Rattle.std.proofs.Common.{◌≡◌, ◌⊎◌, ℕ, zero, suc, ◌+◌, ◌<◌, Bool, true, false, ◌||◌, cond, eqb, List, [], ◌∷◌, ◌++◌, fold, length, map, get_or, Option, Some, None, refl, sym, ap, subst, ◌∙◌, inl, inr, ne_eqb, eq-eqb, arith}
use Rattle.std.specs.Prelude.{unwrap_or}
use Rattle.std.specs.List.{AllZip, AllByRecursion, list_any, filter_map, cons_option, position_from}
use Rattle.std.proofs.lemmas.Bool.{cases_eq, or_left}
use Rattle.std.proofs.lemmas.Iterator.Adapters.{position_from-zero}
use Rattle.dy_base.specs.declared.exports.Exports.{Exports}
use Rattle.dy_load_order.specs.LoadOrder.{AreEarlier, used_by, is_in, visit, load_order, place_in}
use Rattle.dy_load_order.proofs.Members.{in_head, in_tail, in_more, in_end}
use Rattle.dy_load_order.proofs.Visiting.{used_earlier, visit_is}
use Rattle.dy_views.specs.Views.{Name, number_of, with_number, with_numbers, places_by}

pub zip_append : (R : ℕ → ℕ → Type 0) (xs ys us vs : List ℕ) → AllZip R xs ys → AllZip R us vs → AllZip R (xs ++ us) (ys ++ vs)
zip_append R [] [] us vs z w = w
zip_append R [] (y ∷ ys) us vs z w = absurd z
zip_append R (x ∷ xs) [] us vs z w = absurd z
zip_append R (x ∷ xs) (y ∷ ys) us vs z w = (z.0, zip_append R xs ys us vs z.1 w)

pub zip_weaker : (R S : ℕ → ℕ → Type 0) → ((x y : ℕ) → R x y → S x y) → (xs ys : List ℕ) → AllZip R xs ys → AllZip S xs ys
zip_weaker R S so [] [] z = tt
zip_weaker R S so [] (y ∷ ys) z = absurd z
zip_weaker R S so (x ∷ xs) [] z = absurd z
zip_weaker R S so (x ∷ xs) (y ∷ ys) z = (so x y z.0, zip_weaker R S so xs ys z.1)

pub zip_same : (R : ℕ → ℕ → Type 0) (xs us ys vs : List ℕ) → xs ≡ us → ys ≡ vs → AllZip R xs ys → AllZip R us vs
zip_same R xs us ys vs e f z = subst (λ (ws : List ℕ). AllZip R ws vs) e (subst (AllZip R xs) f z)

pub zip_length : (R : ℕ → ℕ → Type 0) (xs ys : List ℕ) → AllZip R xs ys → length xs ≡ length ys
zip_length R [] [] z = refl
zip_length R [] (y ∷ ys) z = absurd z
zip_length R (x ∷ xs) [] z = absurd z
zip_length R (x ∷ xs) (y ∷ ys) z = let rest = zip_length R xs ys z.1 in omega arith

-- what comes to the same for each pair
pub zip_mapped : {X : Type 0} (R : ℕ → ℕ → Type 0) (f g : ℕ → X) → ((x y : ℕ) → R x y → f x ≡ g y) → (xs ys : List ℕ) → AllZip R xs ys → map f xs ≡ map g ys
zip_mapped {X} R f g same [] [] z = refl
zip_mapped {X} R f g same [] (y ∷ ys) z = absurd z
zip_mapped {X} R f g same (x ∷ xs) [] z = absurd z
zip_mapped {X} R f g same (x ∷ xs) (y ∷ ys) z =
    ap (λ (one : X). one ∷ map f xs) (same x y z.0) ∙ ap (λ (rest : List X). g y ∷ rest) (zip_mapped R f g same xs ys z.1)

-- Each name has a number in the one and in the other, and these correspond.
abbrev pub AreNumbered : (ℕ → ℕ → Type 0) → (mine others : List Exports) → List Name → Type 0
AreNumbered R mine others names = AllByRecursion (λ name. (l k : ℕ) × (number_of mine name ≡ Some l) × (number_of others name ≡ Some k) × R l k) names

-- Numbers of libraries correspond to others, one to one.
module _ (R : ℕ → ℕ → Type 0) (to : (x y z : ℕ) → R x y → R x z → y ≡ z) (from : (x y z : ℕ) → R x z → R y z → x ≡ y) where
  pub test_alike : (x y a b : ℕ) → R x y → R a b → eqb x a ≡ eqb y b
  test_alike x y a b r s = go (cases_eq x a)
    where
      go : (x ≡ a) ⊎ (x ≡ a → ⊥) → eqb x a ≡ eqb y b
      go (inl e) = eq-eqb x a e ∙ sym (eq-eqb y b (to x y b r (subst (λ (w : ℕ). R w b) (sym e) s)))
      go (inr n) = ne_eqb x a n ∙ sym (ne_eqb y b (λ e. n (from x a b (subst (R x) e r) s)))

  in_alike : (xs ys : List ℕ) (x y : ℕ) → AllZip R xs ys → R x y → is_in xs x ≡ is_in ys y
  in_alike [] [] x y z r = refl
  in_alike [] (b ∷ ys) x y z r = absurd z
  in_alike (a ∷ xs) [] x y z r = absurd z
  in_alike (a ∷ xs) (b ∷ ys) x y z r =
      ap (λ (t : Bool). t || is_in xs x) (test_alike x y a b r z.0) ∙ ap (λ (t : Bool). eqb y b || t) (in_alike xs ys x y z.1 r)

  -- ---- places in orders

  place_from : (i : ℕ) (xs ys : List ℕ) (x y : ℕ) → AllZip R xs ys → R x y → position_from (eqb x) i xs ≡ position_from (eqb y) i ys
  place_from i [] [] x y z r = refl
  place_from i [] (b ∷ ys) x y z r = absurd z
  place_from i (a ∷ xs) [] x y z r = absurd z
  place_from i (a ∷ xs) (b ∷ ys) x y z r =
      ap (λ (t : Bool). cond t (Some i) (position_from (eqb x) (i + 1) xs)) (test_alike x y a b r z.0)
      ∙ ap (λ (rest : Option ℕ). cond (eqb y b) (Some i) rest) (place_from (i + 1) xs ys x y z.1 r)

  pub place_alike : (xs ys : List ℕ) (x y : ℕ) → AllZip R xs ys → R x y → place_in xs x ≡ place_in ys y
  place_alike xs ys x y z r = position_from-zero (eqb x) xs ∙ place_from 0 xs ys x y z r ∙ sym (position_from-zero (eqb y) ys)

  pub places_alike : (order behind : List ℕ) (xs ys : List ℕ) → AllZip R order behind → AllZip R xs ys → places_by (place_in order) xs ≡ places_by (place_in behind) ys
  places_alike order behind xs ys z w =
      zip_mapped R (λ x. unwrap_or (place_in order x) 0) (λ y. unwrap_or (place_in behind y) 0) (λ x y r. ap (λ (o : Option ℕ). unwrap_or o 0) (place_alike order behind x y z r)) xs ys w

  -- ---- load orders

  module _ (uses others : List (List ℕ)) (earlier : AreEarlier uses) (before : AreEarlier others) (dylan : R 0 0)
      (alike : (x y : ℕ) → R x y → AllZip R (get_or uses x []) (get_or others y [])) where
    used_alike : (x y : ℕ) → R x y → AllZip R (used_by uses x) (used_by others y)
    used_alike zero zero r = tt
    used_alike zero (suc y) r = let e : 0 ≡ suc y = to 0 0 (suc y) dylan r in absurd (omega arith)
    used_alike (suc x) zero r = let e : 0 ≡ suc x = from 0 (suc x) 0 dylan r in absurd (omega arith)
    used_alike (suc x) (suc y) r = (dylan, alike (suc x) (suc y) r)

    abbrev Visits : ℕ → Type 0
    Visits bound = (x y : ℕ) → x < bound → R x y → (order behind : List ℕ) → AllZip R order behind → AllZip R (visit uses order x) (visit others behind y)

    fold_alike : (bound : ℕ) → Visits bound → (ns ms : List ℕ) → ((n : ℕ) → is_in ns n ≡ true → n < bound) → AllZip R ns ms
        → (order behind : List ℕ) → AllZip R order behind → AllZip R (fold (visit uses) order ns) (fold (visit others) behind ms)
    fold_alike bound visits [] [] less r order behind z = z
    fold_alike bound visits [] (m ∷ ms) less r order behind z = absurd r
    fold_alike bound visits (n ∷ ns) [] less r order behind z = absurd r
    fold_alike bound visits (n ∷ ns) (m ∷ ms) less r order behind z =
        fold_alike bound visits ns ms (λ k i. less k (in_tail n ns k i)) r.1 (visit uses order n) (visit others behind m)
        (visits n m (less n (in_head n ns)) r.0 order behind z)

    visits_more : (bound : ℕ) → Visits bound → Visits (suc bound)
    visits_more bound visits x y l r order behind z =
        zip_same R _ (visit uses order x) _ (visit others behind y) (sym (visit_is uses earlier order x)) (sym (visit_is others before behind y))
        (go (is_in order x) (is_in behind y) (in_alike order behind x y z r))
      where
        less : (n : ℕ) → is_in (used_by uses x) n ≡ true → n < bound
        less n i = let m : n < x = used_earlier uses earlier x n i in omega arith

        all : AllZip R (fold (visit uses) order (used_by uses x)) (fold (visit others) behind (used_by others y))
        all = fold_alike bound visits (used_by uses x) (used_by others y) less (used_alike x y r) order behind z

        go : (b c : Bool) → b ≡ c → AllZip R (cond b order (fold (visit uses) order (used_by uses x) ++ x ∷ [])) (cond c behind (fold (visit others) behind (used_by others y) ++ y ∷ []))
        go true true e = z
        go true false e = absurd cc
        go false true e = absurd cc
        go false false e = zip_append R (fold (visit uses) order (used_by uses x)) (fold (visit others) behind (used_by others y)) (x ∷ []) (y ∷ []) all (r, tt)

    visits_alike : (bound : ℕ) → Visits bound
    visits_alike zero x y l r order behind z = absurd (omega arith)
    visits_alike (suc bound) x y l r order behind z = visits_more bound (visits_alike bound) x y l r order behind z

    pub orders_alike : (x y : ℕ) → R x y → AllZip R (load_order uses x) (load_order others y)
    orders_alike x y r = visits_alike (suc x) x y (omega arith) r [] [] tt

  -- ---- the numbers of names

  any_alike : (xs ys : List ℕ) (x y : ℕ) → AllZip R xs ys → R x y → list_any (λ other. eqb other x) xs ≡ list_any (λ other. eqb other y) ys
  any_alike [] [] x y z r = refl
  any_alike [] (b ∷ ys) x y z r = absurd z
  any_alike (a ∷ xs) [] x y z r = absurd z
  any_alike (a ∷ xs) (b ∷ ys) x y z r =
      ap (λ (t : Bool). t || list_any (λ other. eqb other x) xs) (test_alike a b x y z.0 r) ∙ ap (λ (t : Bool). eqb b y || t) (any_alike xs ys x y z.1 r)

  with_alike : (xs ys : List ℕ) (x y : ℕ) → AllZip R xs ys → R x y → AllZip R (with_number xs x) (with_number ys y)
  with_alike xs ys x y z r = go (list_any (λ other. eqb other x) xs) (list_any (λ other. eqb other y) ys) (any_alike xs ys x y z r)
    where
      go : (b c : Bool) → b ≡ c → AllZip R (cond b xs (xs ++ x ∷ [])) (cond c ys (ys ++ y ∷ []))
      go true true e = z
      go true false e = absurd cc
      go false true e = absurd cc
      go false false e = zip_append R xs ys (x ∷ []) (y ∷ []) z (r, tt)

  pub numbers_alike : (mine others : List Exports) (names : List Name) (ns ms : List ℕ) → AreNumbered R mine others names → AllZip R ns ms → AllZip R (with_numbers mine ns names) (with_numbers others ms names)
  numbers_alike mine others [] ns ms all z = z
  numbers_alike mine others (name ∷ names) ns ms ((l, k, e, f, r), rest) z =
      subst (λ (o : Option ℕ). AllZip R (fold with_number ns (cons_option o (filter_map (number_of mine) names))) (with_numbers others ms (name ∷ names))) (sym e)
      (subst (λ (o : Option ℕ). AllZip R (with_numbers mine (with_number ns l) names) (fold with_number ms (cons_option o (filter_map (number_of others) names)))) (sym f)
      (numbers_alike mine others names (with_number ns l) (with_number ms k) rest (with_alike ns ms l k z r)))

-- ---- what holds of all numbers of names

with_keeps : (ns : List ℕ) (n u : ℕ) → is_in ns u ≡ true → is_in (with_number ns n) u ≡ true
with_keeps ns n u i = go (list_any (λ other. eqb other n) ns)
  where
    go : (b : Bool) → is_in (cond b ns (ns ++ n ∷ [])) u ≡ true
    go true = i
    go false = in_more ns (n ∷ []) u i

any_in : (ns : List ℕ) (n : ℕ) → list_any (λ other. eqb other n) ns ≡ true → is_in ns n ≡ true
any_in [] n i = absurd cc
any_in (x ∷ ns) n i = go (any_in ns n) (cases_eq x n) i
  where
    go : (list_any (λ other. eqb other n) ns ≡ true → is_in ns n ≡ true) → (x ≡ n) ⊎ (x ≡ n → ⊥) → (eqb x n || list_any (λ other. eqb other n) ns) ≡ true → is_in (x ∷ ns) n ≡ true
    go rest (inl e) j = or_left (eqb n x) (is_in ns n) (eq-eqb n x (sym e))
    go rest (inr other) j = in_tail x ns n (rest (ap (λ (t : Bool). t || list_any (λ other. eqb other n) ns) (sym (ne_eqb x n other)) ∙ j))

with_has : (ns : List ℕ) (n : ℕ) → is_in (with_number ns n) n ≡ true
with_has ns n = go (list_any (λ other. eqb other n) ns) refl
  where
    go : (b : Bool) → list_any (λ other. eqb other n) ns ≡ b → is_in (cond b ns (ns ++ n ∷ [])) n ≡ true
    go true e = any_in ns n e
    go false e = in_end ns n

all_keep : (exports : List Exports) (names : List Name) (ns : List ℕ) (u : ℕ) → is_in ns u ≡ true → is_in (with_numbers exports ns names) u ≡ true
all_keep exports [] ns u i = i
all_keep exports (name ∷ names) ns u i = go (number_of exports name) (λ before j. all_keep exports names before u j)
  where
    go : (o : Option ℕ) → ((before : List ℕ) → is_in before u ≡ true → is_in (with_numbers exports before names) u ≡ true) → is_in (fold with_number ns (cons_option o (filter_map (number_of exports) names))) u ≡ true
    go None rest = rest ns i
    go (Some n) rest = rest (with_number ns n) (with_keeps ns n u i)

pub each_number : (Q : ℕ → Type 0) (exports : List Exports) (names : List Name) (ns : List ℕ) → AllByRecursion (λ name. (u : ℕ) × (number_of exports name ≡ Some u)) names
    → ((u : ℕ) → is_in (with_numbers exports ns names) u ≡ true → Q u) → AllByRecursion (λ name. (u : ℕ) × (number_of exports name ≡ Some u) × Q u) names
each_number Q exports [] ns all q = tt
each_number Q exports (name ∷ names) ns ((u, e), rest) q =
    ((u, e, q u (back u (all_keep exports names (with_number ns u) u (with_has ns u)))), each_number Q exports names (with_number ns u) rest (λ v i. q v (back v i)))
  where
    back : (v : ℕ) → is_in (with_numbers exports (with_number ns u) names) v ≡ true → is_in (with_numbers exports ns (name ∷ names)) v ≡ true
    back v i = subst (λ (o : Option ℕ). is_in (fold with_number ns (cons_option o (filter_map (number_of exports) names))) v ≡ true) (sym e) i
