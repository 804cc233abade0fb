-- Places that are reached at all are reached in as many steps as there are instructions, and the
-- longest way from each is no longer.
use Rattle.std.proofs.Common.{◌≡◌, ◌⊎◌, inl, inr, ⊎_elim, ℕ, zero, suc, ◌+◌, ◌<◌, ◌≤◌, Bool, true, false, true≢false, List, [], ◌∷◌, ◌++◌, length, map, Option, Some, None, slice_get, refl, sym, ap, ◌∙◌, subst, arith}
use Rattle.std.specs.Prelude.{nat_eq, flat_map}
use Rattle.dy_code.specs.Fetching.{Instruction}
use Rattle.dy_code.specs.Fetching as instr
use Rattle.dy_code.specs.Layouts.{Way}
use Rattle.dy_code.specs.Validity.{Every, Known, IsLower, Falls}
use Rattle.dy_meaning.specs.Numbers.{greatest}
use Rattle.dy_lowered.specs.Stretches.{ways_of, ways_from, reached, unless_tick, longest, stretch_of}
use Rattle.dy_lowering_whole.proofs.valid.Sameness.{is_eq}
use Rattle.dy_lowering_whole.proofs.valid.Tables.{IsIn, in_flat_map}

-- what is in a list of lists
pub record From {A B : Type 0} (f : A → List B) (xs : List A) (y : B) : Type 0 where
  pub item : A
  pub there : IsIn item xs
  pub gives : IsIn y (f item)

in_either : {B : Type 0} (y : B) (xs ys : List B) → IsIn y (xs ++ ys) → IsIn y xs ⊎ IsIn y ys
in_either y [] ys h = inr h
in_either y (x ∷ xs) ys (inl e) = inl (inl e)
in_either y (x ∷ xs) ys (inr h) = ⊎_elim (λ k. inl (inr k)) (λ k. inr k) (in_either y xs ys h)

from_flat_map : {A B : Type 0} (f : A → List B) (xs : List A) (y : B) → IsIn y (flat_map f xs) → From f xs y
from_flat_map f [] y h = absurd h
from_flat_map f (x ∷ xs) y h =
    ⊎_elim (λ k. record { item = x; there = inl refl; gives = k })
    (λ k. let rest = from_flat_map f xs y k in record { item = rest.item; there = inr rest.there; gives = rest.gives })
    (in_either y (f x) (flat_map f xs) h)

-- numbers in a list or not
pub in_or_not : (q : ℕ) (ys : List ℕ) → IsIn q ys ⊎ (IsIn q ys → ⊥)
in_or_not q [] = inr (λ h. h)
in_or_not q (y ∷ ys) = step (nat_eq q y) refl (in_or_not q ys)
  where
    step : (b : Bool) → nat_eq q y ≡ b → IsIn q ys ⊎ (IsIn q ys → ⊥) → IsIn q (y ∷ ys) ⊎ (IsIn q (y ∷ ys) → ⊥)
    step true e h = inl (inl (is_eq q y e))
    step false e (inl h) = inl (inr h)
    step false e (inr out) = inr (λ h. ⊎_elim (λ same. true≢false (sym (is_same same) ∙ e)) out h)
      where
        is_same : q ≡ y → nat_eq q y ≡ true
        is_same same = grind (arith, same)

-- how many numbers below a bound are in a list
abbrev counted : {P Q : Type 0} → P ⊎ Q → ℕ
counted (inl p) = 1
counted (inr q) = 0

abbrev cover : ℕ → List ℕ → ℕ
cover zero xs = 0
cover (suc n) xs = counted (in_or_not n xs) + cover n xs

counted_few : {P Q : Type 0} (o : P ⊎ Q) → counted o ≤ 1
counted_few (inl p) = omega arith
counted_few (inr q) = omega arith

cover_few : (n : ℕ) (xs : List ℕ) → cover n xs ≤ n
cover_few zero xs = omega arith
cover_few (suc n) xs = omega (arith, counted_few (in_or_not n xs), cover_few n xs)

counted_more : {P Q R S : Type 0} (o : P ⊎ Q) (p : R ⊎ S) → (P → S → ⊥) → counted o ≤ counted p
counted_more (inl p) (inl r) bad = omega arith
counted_more (inl p) (inr s) bad = absurd (bad p s)
counted_more (inr q) (inl r) bad = omega arith
counted_more (inr q) (inr s) bad = omega arith

counted_new : {P Q R S : Type 0} (o : P ⊎ Q) (p : R ⊎ S) → (P → ⊥) → (S → ⊥) → counted o + 1 ≤ counted p
counted_new (inl p) r bad worse = absurd (bad p)
counted_new (inr q) (inl r) bad worse = omega arith
counted_new (inr q) (inr s) bad worse = absurd (worse s)

cover_more : (n : ℕ) (xs ys : List ℕ) → ((q : ℕ) → IsIn q xs → IsIn q ys) → cover n xs ≤ cover n ys
cover_more zero xs ys within = omega arith
cover_more (suc n) xs ys within = omega (arith, counted_more (in_or_not n xs) (in_or_not n ys) (λ h out. out (within n h)), cover_more n xs ys within)

cover_new : (n : ℕ) (xs ys : List ℕ) (q : ℕ) → q < n → ((p : ℕ) → IsIn p xs → IsIn p ys) → IsIn q ys → (IsIn q xs → ⊥) → cover n xs + 1 ≤ cover n ys
cover_new zero xs ys q low within there out = absurd (omega (arith, low))
cover_new (suc n) xs ys q low within there out = step (nat_eq q n) refl (λ less. cover_new n xs ys q less within there out)
  where
    step : (b : Bool) → nat_eq q n ≡ b → (q < n → cover n xs + 1 ≤ cover n ys) → cover (suc n) xs + 1 ≤ cover (suc n) ys
    step true e others =
        let same = is_eq q n e in
        omega (arith, counted_new (in_or_not n xs) (in_or_not n ys) (λ h. out (subst (λ (m : ℕ). IsIn m xs) (sym same) h)) (λ bad. bad (subst (λ (m : ℕ). IsIn m ys) same there)), cover_more n xs ys within)
    step false e others =
        let less : q < n = below e in
        omega (arith, counted_more (in_or_not n xs) (in_or_not n ys) (λ h out. out (within n h)), others less)
      where
        below : nat_eq q n ≡ false → q < n
        below e = grind (arith, low, e)

-- a place and its ways
module _ (code : List Instruction) where
  reached_self : (k p : ℕ) → IsIn p (reached code k p)
  reached_self zero p = inl refl
  reached_self (suc k) p = inl refl

  reached_more : (k p q : ℕ) → IsIn q (reached code k p) → IsIn q (reached code (suc k) p)
  reached_more zero p q (inl e) = inl e
  reached_more zero p q (inr h) = absurd h
  reached_more (suc k) p q (inl e) = inl e
  reached_more (suc k) p q (inr h) =
      let f = from_flat_map (reached code k) (ways_from code p) q h in
      inr (in_flat_map (reached code (suc k)) (ways_from code p) f.item q f.there (reached_more k f.item q f.gives))

  reached_way : (k p q r : ℕ) → IsIn q (reached code k p) → IsIn r (ways_from code q) → IsIn r (reached code (suc k) p)
  reached_way zero p q r (inl e) way = inr (in_flat_map (reached code zero) (ways_from code p) r r (subst (λ (m : ℕ). IsIn r (ways_from code m)) e way) (inl refl))
  reached_way zero p q r (inr h) way = absurd h
  reached_way (suc k) p q r (inl e) way = inr (in_flat_map (reached code (suc k)) (ways_from code p) r r (subst (λ (m : ℕ). IsIn r (ways_from code m)) e way) (reached_self (suc k) r))
  reached_way (suc k) p q r (inr h) way =
      let f = from_flat_map (reached code k) (ways_from code p) q h in
      inr (in_flat_map (reached code (suc k)) (ways_from code p) f.item r f.there (reached_way k f.item q r f.gives way))

  -- the last step
  record Last (k p q : ℕ) : Type 0 where
    pub from : ℕ
    pub there : IsIn from (reached code k p)
    pub way : IsIn q (ways_from code from)

  last_step : (k p q : ℕ) → IsIn q (reached code (suc k) p) → (q ≡ p) ⊎ Last k p q
  last_step k p q (inl e) = inl e
  last_step zero p q (inr h) =
      let f = from_flat_map (reached code zero) (ways_from code p) q h in
      inr (record { from = p; there = inl refl; way = ⊎_elim (λ e. subst (λ (m : ℕ). IsIn m (ways_from code p)) (sym e) f.there) (λ none. absurd none) f.gives })
  last_step (suc k) p q (inr h) =
      let f = from_flat_map (reached code (suc k)) (ways_from code p) q h in
      inr (⊎_elim (λ e. record { from = p; there = reached_self (suc k) p; way = subst (λ (m : ℕ). IsIn m (ways_from code p)) (sym e) f.there })
      (λ last. record { from = last.from; there = inr (in_flat_map (reached code k) (ways_from code p) f.item last.from f.there last.there); way = last.way })
      (last_step k f.item q f.gives))

  abbrev IsClosed : ℕ → Type 0
  IsClosed k = (p q : ℕ) → IsIn p (reached code k 0) → IsIn q (ways_from code p) → IsIn q (reached code k 0)

  -- a way that leads to a new place
  record New (k : ℕ) : Type 0 where
    pub from : ℕ
    pub to : ℕ
    pub there : IsIn from (reached code k 0)
    pub way : IsIn to (ways_from code from)
    pub out : IsIn to (reached code k 0) → ⊥

  module _ (k : ℕ) where
    ways_in : (ws : List ℕ) (p : ℕ) → ((q : ℕ) → IsIn q ws → IsIn q (ways_from code p)) → IsIn p (reached code k 0) → ((q : ℕ) → IsIn q ws → IsIn q (reached code k 0)) ⊎ New k
    ways_in [] p ways there = inl (λ q h. absurd h)
    ways_in (w ∷ ws) p ways there = step (in_or_not w (reached code k 0)) (ways_in ws p (λ q h. ways q (inr h)) there)
      where
        step : IsIn w (reached code k 0) ⊎ (IsIn w (reached code k 0) → ⊥) → ((q : ℕ) → IsIn q ws → IsIn q (reached code k 0)) ⊎ New k → ((q : ℕ) → IsIn q (w ∷ ws) → IsIn q (reached code k 0)) ⊎ New k
        step (inr out) rest = inr (record { from = p; to = w; there = there; way = ways w (inl refl); out = out })
        step (inl h) (inr new) = inr new
        step (inl h) (inl all) = inl (λ q i. ⊎_elim (λ e. subst (λ (m : ℕ). IsIn m (reached code k 0)) (sym e) h) (all q) i)

    places_in : (ps : List ℕ) → ((p : ℕ) → IsIn p ps → IsIn p (reached code k 0)) → ((p q : ℕ) → IsIn p ps → IsIn q (ways_from code p) → IsIn q (reached code k 0)) ⊎ New k
    places_in [] all = inl (λ p q h way. absurd h)
    places_in (x ∷ ps) all = step (ways_in (ways_from code x) x (λ q h. h) (all x (inl refl))) (places_in ps (λ p h. all p (inr h)))
      where
        step : ((q : ℕ) → IsIn q (ways_from code x) → IsIn q (reached code k 0)) ⊎ New k → ((p q : ℕ) → IsIn p ps → IsIn q (ways_from code p) → IsIn q (reached code k 0)) ⊎ New k
            → ((p q : ℕ) → IsIn p (x ∷ ps) → IsIn q (ways_from code p) → IsIn q (reached code k 0)) ⊎ New k
        step (inr new) rest = inr new
        step (inl here) (inr new) = inr new
        step (inl here) (inl others) = inl (λ p q i way. ⊎_elim (λ e. here q (subst (λ (m : ℕ). IsIn q (ways_from code m)) e way)) (λ h. others p q h way) i)

    closed_or_new : IsClosed k ⊎ New k
    closed_or_new = places_in (reached code k 0) (λ p h. h)

    back_within : IsClosed k → (q : ℕ) → IsIn q (reached code (suc k) 0) → IsIn q (reached code k 0)
    back_within closed q h = ⊎_elim (λ e. subst (λ (m : ℕ). IsIn m (reached code k 0)) (sym e) (reached_self k 0)) (λ last. closed last.from q last.there last.way) (last_step k 0 q h)

    stays_closed : IsClosed k → IsClosed (suc k)
    stays_closed closed p q h way = reached_more k 0 q (closed p q (back_within closed p h) way)

  module _ (n : ℕ) (one : 0 < n) (low : (p q : ℕ) → IsIn q (ways_from code p) → q < n) where
    grows : (k : ℕ) → IsClosed k ⊎ (k + 1 ≤ cover n (reached code k 0))
    grows zero = inr (omega (arith, cover_new n [] (0 ∷ []) 0 one (λ p h. absurd h) (inl refl) (λ h. h)))
    grows (suc k) = ⊎_elim (λ closed. inl (stays_closed k closed))
        (λ many. ⊎_elim (λ closed. inl (stays_closed k closed))
        (λ new. inr (omega (arith, many, cover_new n (reached code k 0) (reached code (suc k) 0) new.to (low new.from new.to new.way) (reached_more k 0) (reached_way k 0 new.from new.to new.there new.way) new.out)))
        (closed_or_new k))
        (grows k)

    pub all_reached : IsClosed n
    all_reached = ⊎_elim (λ closed. closed) (λ many. absurd (omega (arith, many, cover_few n (reached code n 0)))) (grows n)

    pub begins_reached : IsIn 0 (reached code n 0)
    begins_reached = reached_self n 0

-- ranks
pub record Steady (i : Instruction) : Type 0 where
  pub counts : (count : ℕ) → unless_tick (Some i) count ≡ count
  pub lower : (known : Known) (rank : ℕ) (ways : List Way) → Falls known rank i ways → (0 < rank) × Every (IsLower known rank) ways
  pub falls : (known : Known) (rank : ℕ) (ways : List Way) → (0 < rank) × Every (IsLower known rank) ways → Falls known rank i ways

pub tick_or : (i : Instruction) → (i ≡ instr.Tick) ⊎ Steady i
tick_or instr.Tick = inl refl
tick_or _ = inr (record { counts = λ count. refl; lower = λ known rank ways h. h; falls = λ known rank ways h. h })

pub greatest_least : (ns : List ℕ) (n : ℕ) → IsIn n ns → n ≤ greatest ns
greatest_least [] n h = absurd h
greatest_least (m ∷ ns) n (inl e) = omega (arith, e)
greatest_least (m ∷ ns) n (inr h) = omega (arith, greatest_least ns n h)

pub in_map : {A B : Type 0} (f : A → B) (xs : List A) (x : A) → IsIn x xs → IsIn (f x) (map f xs)
in_map f [] x h = absurd h
in_map f (y ∷ xs) x (inl e) = inl (ap f e)
in_map f (y ∷ xs) x (inr h) = inr (in_map f xs x h)

map_same : {A B : Type 0} (f g : A → B) (xs : List A) → ((x : A) → IsIn x xs → f x ≡ g x) → map f xs ≡ map g xs
map_same f g [] same = refl
map_same f g (x ∷ xs) same =
    let h = same x (inl refl) in
    let t = map_same f g xs (λ y i. same y (inr i)) in
    λ i. h i ∷ t i

module _ (code : List Instruction) (rank : ℕ → ℕ) (drops : (p : ℕ) (i : Instruction) → slice_get code p ≡ Some i → Steady i → (0 < rank p) × ((q : ℕ) → IsIn q (ways_from code p) → rank q < rank p)) where
  steady : (m p : ℕ) → rank p ≤ m → longest code (suc m) p ≡ longest code m p
  steady zero p few = step (slice_get code p) refl
    where
      step : (o : Option Instruction) → slice_get code p ≡ o → unless_tick o (1 + greatest (map (longest code zero) (ways_of (p + 1) o))) ≡ 0
      step None e = refl
      step (Some i) e = ⊎_elim (λ tick. ap (λ (j : Instruction). unless_tick (Some j) (1 + greatest (map (longest code zero) (ways_of (p + 1) (Some i))))) tick)
          (λ s. let some = (drops p i e s).0 in absurd (omega (arith, some, few))) (tick_or i)
  steady (suc m) p few = step (slice_get code p) refl (λ q low. steady m q low)
    where
      step : (o : Option Instruction) → slice_get code p ≡ o → ((q : ℕ) → rank q ≤ m → longest code (suc m) q ≡ longest code m q)
          → unless_tick o (1 + greatest (map (longest code (suc m)) (ways_of (p + 1) o))) ≡ unless_tick o (1 + greatest (map (longest code m) (ways_of (p + 1) o)))
      step None e others = refl
      step (Some i) e others = ⊎_elim
          (λ tick. subst (λ (j : Instruction). unless_tick (Some j) (1 + greatest (map (longest code (suc m)) (ways_of (p + 1) (Some i)))) ≡ unless_tick (Some j) (1 + greatest (map (longest code m) (ways_of (p + 1) (Some i))))) (sym tick) refl)
          (λ s. ap (λ (ns : List ℕ). unless_tick (Some i) (1 + greatest ns)) (map_same (longest code (suc m)) (longest code m) (ways_of (p + 1) (Some i))
          (λ q h. let less = (drops p i e s).1 q (subst (λ (o : Option Instruction). IsIn q (ways_of (p + 1) o)) (sym e) h) in others q (omega (arith, less, few))))) (tick_or i)

  module _ (n : ℕ) (few : (p : ℕ) → rank p ≤ n) where
    pub longest_falls : (p : ℕ) (i : Instruction) → slice_get code p ≡ Some i → Steady i → (0 < longest code n p) × ((q : ℕ) → IsIn q (ways_from code p) → longest code n q < longest code n p)
    longest_falls p i e s =
        let same = sym (steady n p (few p)) ∙ ap (λ (o : Option Instruction). unless_tick o (1 + greatest (map (longest code n) (ways_from code p)))) e ∙ s.counts (1 + greatest (map (longest code n) (ways_from code p))) in
        (omega (arith, same), λ q h. let least = greatest_least (map (longest code n) (ways_from code p)) (longest code n q) (in_map (longest code n) (ways_from code p) q h) in omega (arith, same, least))

pub within_stretch : (code : List Instruction) (p : ℕ) → IsIn p (reached code (length code) 0) → longest code (length code) p ≤ stretch_of code
within_stretch code p h = greatest_least (map (longest code (length code)) (reached code (length code) 0)) (longest code (length code) p) (in_map (longest code (length code)) (reached code (length code) 0) p h)
