-- One step of each walk along a list.
use Rattle.std.proofs.Common.{◌≡◌, ℕ, zero, suc, ◌+◌, ◌-◌, ◌<◌, ◌≤◌, Bool, true, false, cond, List, [], ◌∷◌, ◌++◌, inl, inr, length, get_or, take, drop, map, nat_eq, Option, Some, None, refl, sym, ap, subst, ◌∙◌, arith, Vec}
use Rattle.std.specs.declared.alloc.Global.{Global}
use Rattle.std.specs.Option.{is_some}
use Rattle.std.proofs.lemmas.Bool.{eq-eqb}
use Rattle.std.proofs.lemmas.Bool.Decides.{eqb_tells}
use Rattle.std.proofs.lemmas.List.{append-nil, take_more, at_drop_more, at_drop_all, length-drop}
use Rattle.dy_base.specs.declared.ids.ClassId.{ClassId}
use Rattle.dy_base.specs.Orders.{is_class}
use Rattle.dy_classes.specs.Lists.{In, first, next}
use Rattle.dy_classes.specs.Merge.{mem, ready, find, or_else, next_of, run, onto, newest, total, all_in, all_listed, added}
use Rattle.dy_classes.specs.Counters.{past, tail, occurs, one_if, tails, Counted}
use Rattle.dy_classes.proofs.Decisions.{find_some, mem_in, in_mem}
use Rattle.dy_classes.proofs.Counters.{ready_counts, behind, left_none}

pub in_get : (xs : List ClassId) (i : ℕ) (d : ClassId) → i < length xs → In (get_or xs i d) xs
in_get [] i d h = absurd (omega arith)
in_get (x ∷ xs) zero d h = first
in_get (x ∷ xs) (suc i) d h = next (in_get xs i d (omega arith))

pub total_more : (order : ClassId → List ClassId) (xs : List ClassId) (i : ℕ) (d : ClassId) → i < length xs
    → total (map order (drop i xs)) ≡ length (order (get_or xs i d)) + total (map order (drop (i + 1) xs))
total_more order xs i d h = at_drop_more (λ (ys : List ClassId). total (map order ys)) xs i d h

pub total_none : (order : ClassId → List ClassId) (xs : List ClassId) (i : ℕ) → length xs ≤ i → total (map order (drop i xs)) ≡ 0
total_none order xs i h = at_drop_all (λ (ys : List ClassId). total (map order ys)) xs i h

pub behind_more : (order : ClassId → List ClassId) (y : ClassId) (xs : List ClassId) (i : ℕ) (d : ClassId) → i < length xs
    → behind y (map order (drop i xs)) ≡ occurs y (tail (order (get_or xs i d))) + behind y (map order (drop (i + 1) xs))
behind_more order y xs i d h = at_drop_more (λ (ys : List ClassId). behind y (map order ys)) xs i d h

pub behind_none : (order : ClassId → List ClassId) (y : ClassId) (xs : List ClassId) (i : ℕ) → length xs ≤ i → behind y (map order (drop i xs)) ≡ 0
behind_none order y xs i h = at_drop_all (λ (ys : List ClassId). behind y (map order ys)) xs i h

pub occurs_more : (y : ClassId) (xs : List ClassId) (i : ℕ) (d : ClassId) → i < length xs
    → occurs y (drop i xs) ≡ one_if (is_class y (get_or xs i d)) + occurs y (drop (i + 1) xs)
occurs_more y xs i d h = at_drop_more (occurs y) xs i d h

pub occurs_end : (y : ClassId) (xs : List ClassId) (i : ℕ) → length xs ≤ i → occurs y (drop i xs) ≡ 0
occurs_end y xs i h = at_drop_all (occurs y) xs i h

pub find_here : (p : ClassId → Bool) (xs : List ClassId) (i : ℕ) (d : ClassId) → i < length xs → p (get_or xs i d) ≡ true → find p (drop i xs) ≡ Some (get_or xs i d)
find_here p xs i d h t = at_drop_more (find p) xs i d h ∙ ap (λ b. cond b (Some (get_or xs i d)) (find p (drop (i + 1) xs))) t

pub find_later : (p : ClassId → Bool) (xs : List ClassId) (i : ℕ) (d : ClassId) → i < length xs → p (get_or xs i d) ≡ false → find p (drop i xs) ≡ find p (drop (i + 1) xs)
find_later p xs i d h t = at_drop_more (find p) xs i d h ∙ ap (λ b. cond b (Some (get_or xs i d)) (find p (drop (i + 1) xs))) t

pub find_end : (p : ClassId → Bool) (xs : List ClassId) (i : ℕ) → length xs ≤ i → find p (drop i xs) ≡ None
find_end p xs i h = at_drop_all (find p) xs i h

pub mem_here : (x : ClassId) (xs : List ClassId) (i : ℕ) (d : ClassId) → i < length xs → is_class x (get_or xs i d) ≡ true → mem x (drop i xs) ≡ true
mem_here x xs i d h t = at_drop_more (mem x) xs i d h ∙ ap (λ b. cond b true (mem x (drop (i + 1) xs))) t

pub mem_later : (x : ClassId) (xs : List ClassId) (i : ℕ) (d : ClassId) → i < length xs → is_class x (get_or xs i d) ≡ false → mem x (drop i xs) ≡ mem x (drop (i + 1) xs)
mem_later x xs i d h t = at_drop_more (mem x) xs i d h ∙ ap (λ b. cond b true (mem x (drop (i + 1) xs))) t

pub added_here : (found xs : List ClassId) (i : ℕ) (d : ClassId) → i < length xs → mem (get_or xs i d) found ≡ false
    → added found (drop i xs) ≡ added (found ++ get_or xs i d ∷ []) (drop (i + 1) xs)
added_here found xs i d h t =
    at_drop_more (added found) xs i d h ∙ ap (λ b. cond b (added found (drop (i + 1) xs)) (added (found ++ get_or xs i d ∷ []) (drop (i + 1) xs))) t

pub added_there : (found xs : List ClassId) (i : ℕ) (d : ClassId) → i < length xs → mem (get_or xs i d) found ≡ true
    → added found (drop i xs) ≡ added found (drop (i + 1) xs)
added_there found xs i d h t =
    at_drop_more (added found) xs i d h ∙ ap (λ b. cond b (added found (drop (i + 1) xs)) (added (found ++ get_or xs i d ∷ []) (drop (i + 1) xs))) t

pub added_end : (found xs : List ClassId) (i : ℕ) → length xs ≤ i → added found (drop i xs) ≡ found
added_end found xs i h = at_drop_all (added found) xs i h

-- a mark that is 0, and one that is not
pub mark_none : (b : Bool) → one_if b ≡ 0 → b ≡ false
mark_none true e = absurd (omega arith)
mark_none false e = refl

pub mark_some : (b : Bool) → (one_if b ≡ 0 → ⊥) → b ≡ true
mark_some true e = refl
mark_some false e = absurd (e refl)

pub zero_test : (n : ℕ) → n ≡ 0 → nat_eq n 0 ≡ true
zero_test n e = eq-eqb n 0 e

pub zero_not : (n : ℕ) → (n ≡ 0 → ⊥) → nat_eq n 0 ≡ false
zero_not n e = elim (eqb_tells n 0) [ inl f ↦ absurd (e f.1) | inr f ↦ f.0 ]

pub zero_is : (n : ℕ) → nat_eq n 0 ≡ true → n ≡ 0
zero_is n e = elim (eqb_tells n 0) [ inl f ↦ f.1 | inr f ↦ (let g = f.0 in cc) ]

pub onto_onto : (a b c : List ClassId) → onto (onto a b) c ≡ onto b (a ++ c)
onto_onto [] b c = refl
onto_onto (y ∷ a) b c = onto_onto a (y ∷ b) c

pub onto_append : (a b c : List ClassId) → onto (a ++ b) c ≡ onto b (onto a c)
onto_append [] b c = refl
onto_append (y ∷ a) b c = onto_append a b (y ∷ c)

pub newest_newest : (l : List ClassId) → newest (newest l) ≡ l
newest_newest l = onto_onto l [] [] ∙ append-nil l

pub newest_push : (l : List ClassId) (x : ClassId) → newest (l ++ x ∷ []) ≡ x ∷ newest l
newest_push l x = onto_append l (x ∷ []) []

-- one class back from the end
newest_back : (l : List ClassId) (j i : ℕ) (d : ClassId) → j + 1 ≡ i → j < length l → newest (take i l) ≡ get_or l j d ∷ newest (take j l)
newest_back l j i d e h = ap (λ (k : ℕ). newest (take k l)) (sym e) ∙ ap newest (take_more l j d h) ∙ newest_push (take j l) (get_or l j d)

module _ (supers : ClassId → List ClassId) (p : ClassId → Bool) where
  next_at : (l : List ClassId) (j i : ℕ) (x : ClassId) → j + 1 ≡ i → j < length l → x ≡ get_or l j x
      → next_of supers p (newest (take i l)) ≡ or_else (find p (supers x)) (next_of supers p (newest (take j l)))
  next_at l j i x e h is =
      ap (next_of supers p) (newest_back l j i x e h)
      ∙ ap (λ (v : ClassId). or_else (find p (supers v)) (next_of supers p (newest (take j l)))) (sym is)

  pub next_found : (l : List ClassId) (j i : ℕ) (x : ClassId) (o : Option ClassId) → j + 1 ≡ i → j < length l → x ≡ get_or l j x → find p (supers x) ≡ o → is_some o ≡ true
      → next_of supers p (newest (take i l)) ≡ o
  next_found l j i x (Some y) e h is f t = next_at l j i x e h is ∙ ap (λ (o : Option ClassId). or_else o (next_of supers p (newest (take j l)))) f
  next_found l j i x None e h is f t = absurd cc

  pub next_back : (l : List ClassId) (j i : ℕ) (x : ClassId) (o : Option ClassId) → j + 1 ≡ i → j < length l → x ≡ get_or l j x → find p (supers x) ≡ o → is_some o ≡ false
      → next_of supers p (newest (take i l)) ≡ next_of supers p (newest (take j l))
  next_back l j i x (Some y) e h is f t = absurd cc
  next_back l j i x None e h is f t = next_at l j i x e h is ∙ ap (λ (o : Option ClassId). or_else o (next_of supers p (newest (take j l)))) f

  -- where the next class comes from, and that it passes
  pub next_from : (part : List ClassId) (x : ClassId) → next_of supers p part ≡ Some x → ((z : ClassId) × In x (supers z)) × (p x ≡ true)
  next_from [] x e = absurd cc
  next_from (z ∷ part) x e = go z part x (find p (supers z)) refl e (next_from part x)
    where
      go : (z : ClassId) (part : List ClassId) (x : ClassId) (o : Option ClassId) → find p (supers z) ≡ o → or_else o (next_of supers p part) ≡ Some x
          → (next_of supers p part ≡ Some x → ((z : ClassId) × In x (supers z)) × (p x ≡ true)) → ((z : ClassId) × In x (supers z)) × (p x ≡ true)
      go z part x (Some s) f e below = let t = find_some p (supers z) x (f ∙ e) in ((z, t.0), t.1)
      go z part x None f e below = below e

module _ (supers : ClassId → List ClassId) (lists : List (List ClassId)) where
  run_some : (n : ℕ) (listed : List ClassId) (x : ClassId) → next_of supers (ready lists listed) listed ≡ Some x
      → run supers lists (suc n) listed ≡ run supers lists n (x ∷ listed)
  run_some n listed x e = ap (λ (o : Option ClassId). elim o as (λ _. List ClassId) [ Some y ↦ run supers lists n (y ∷ listed) | None ↦ listed ]) e

  run_end : (n : ℕ) (listed : List ClassId) → next_of supers (ready lists listed) listed ≡ None → run supers lists n listed ≡ listed
  run_end zero listed e = refl
  run_end (suc n) listed e = ap (λ (o : Option ClassId). elim o as (λ _. List ClassId) [ Some y ↦ run supers lists n (y ∷ listed) | None ↦ listed ]) e

  -- the test by counts is the test by lists
  module _ (listed : List ClassId) (p : ClassId → Bool) (same : (y : ClassId) → p y ≡ nat_eq (tails listed y lists + one_if (mem y listed)) 0) where
    same_test : p ≡ ready lists listed
    same_test = λ i y. (same y ∙ sym (ready_counts lists listed y)) i

    same_next : next_of supers p listed ≡ next_of supers (ready lists listed) listed
    same_next = ap (λ (q : ClassId → Bool). next_of supers q listed) same_test

    pub run_more : (n i : ℕ) (x : ClassId) → i < n → next_of supers p listed ≡ Some x
        → run supers lists (n - i) listed ≡ run supers lists (n - (i + 1)) (x ∷ listed)
    run_more n i x h e =
        let k : n - i ≡ suc (n - (i + 1)) = omega arith in
        ap (λ (m : ℕ). run supers lists m listed) k ∙ run_some (n - (i + 1)) listed x (sym same_next ∙ e)

    pub run_stops : (n : ℕ) → next_of supers p listed ≡ None → run supers lists n listed ≡ listed
    run_stops n e = run_end n listed (sym same_next ∙ e)

pub all_listed_more : (lists : List (List ClassId)) (listed : List ClassId) (j : ℕ) → j < length lists
    → all_listed (drop j lists) listed ≡ cond (nat_eq (length (past listed (get_or lists j []))) 0) (all_listed (drop (j + 1) lists) listed) false
all_listed_more lists listed j h =
    at_drop_more (λ (ms : List (List ClassId)). all_listed ms listed) lists j [] h
    ∙ ap (λ b. cond b (all_listed (drop (j + 1) lists) listed) false) (left_none listed (get_or lists j []))

-- a list is looked at by the place of its head
module _ (lists : List (List ClassId)) (listed : List ClassId) (heads : List ℕ) (counts : List (Vec ℕ Global)) (s : Counted lists listed heads counts) where
  left_length_is : (j : ℕ) → j < length lists → length (past listed (get_or lists j [])) ≡ length (get_or lists j []) - get_or heads j 0
  left_length_is j h = ap length (sym (s.lefts j h)) ∙ length-drop (get_or heads j 0) (get_or lists j [])

  module _ (d : List ℕ) (lent : d ≡ heads) (j : ℕ) (h : j < length d) (m : List ClassId) (is : m ≡ get_or lists j []) where
    inside : j < length lists
    inside = let a = ap length lent in let b = s.places in omega arith

    same_head : get_or d j 0 ≡ get_or heads j 0
    same_head = ap (λ (v : List ℕ). get_or v j 0) lent

    pub whole_stops : get_or d j 0 < length m → all_listed (drop j lists) listed ≡ false
    whole_stops lt =
        let a = left_length_is j inside in
        let b = same_head in
        let e = ap length is in
        all_listed_more lists listed j inside ∙ ap (λ b. cond b (all_listed (drop (j + 1) lists) listed) false) (zero_not (length (past listed (get_or lists j []))) (λ z. absurd (omega arith)))

    pub whole_goes : length m ≤ get_or d j 0 → all_listed (drop j lists) listed ≡ all_listed (drop (j + 1) lists) listed
    whole_goes le =
        let a = left_length_is j inside in
        let b = same_head in
        let e = ap length is in
        all_listed_more lists listed j inside ∙ ap (λ b. cond b (all_listed (drop (j + 1) lists) listed) false) (zero_test (length (past listed (get_or lists j []))) (omega arith))
