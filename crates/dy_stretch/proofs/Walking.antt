-- Longest ways, which are known further and further.
use Rattle.std.proofs.Common.{◌≡◌, ◌⊎◌, inl, inr, ℕ, zero, suc, ◌+◌, ◌<◌, ◌≤◌, max, Bool, true, false, ◌||◌, true≢false, List, [], ◌∷◌, ◌++◌, length, map, set, get_or, Option, Some, None, slice_get, refl, sym, ap, ◌∙◌, subst, arith, length-append}
use Rattle.std.specs.Prelude.{min, if◌then◌else◌}
use Rattle.std.proofs.lemmas.Bool.{cases_lt}
use Rattle.std.proofs.lemmas.List.{get_or-set_same, get_or-set_other, set-get_or, length-set, length-map}
use Rattle.dy_code.specs.Fetching.{Instruction}
use Rattle.dy_meaning.specs.Numbers.{greatest}
use Rattle.dy_lowered.specs.Flat.{Code, placed, placed_from}
use Rattle.dy_lowered.specs.Stretches.{ways, ways_of, ways_from, unless_tick, longest}
use Rattle.dy_lower_parts.specs.declared.flat.Flat.{Flat}
use Rattle.dy_lower_parts.specs.Seen.{seen}
use Rattle.dy_code.specs.Fetching as instr
use Rattle.dy_stretch.specs.Walks.{code_of, held, IsMarked, long_at, by_ways, long_by, AreBetween, AreStill, AreLongest, IsMostTo}
use Rattle.dy_stretch.proofs.Marking.{told_apart}
use Rattle.dy_stretch.proofs.Reaching.{below_all, longest_past}

-- the code of instructions
placed_long : (place : ℕ) (code : Code) → length (placed_from place code) ≡ length code
placed_long place [] = refl
placed_long place (f ∷ code) = ap suc (placed_long (place + 1) code)

pub code_long : (fs : List Flat) → length (code_of fs) ≡ length fs
code_long fs = placed_long 0 (map seen fs) ∙ length-map fs seen

placed_at : (place : ℕ) (fs : List Flat) (k : ℕ) (d : Flat) → k < length fs → slice_get (placed_from place (map seen fs)) k ≡ Some (placed (place + k) (seen (get_or fs k d)))
placed_at place [] k d l = absurd (omega (arith, l))
placed_at place (f ∷ fs) zero d l = let here : place ≡ place + 0 = omega arith in ap (λ (p : ℕ). Some (placed p (seen f))) here
placed_at place (f ∷ fs) (suc k) d l =
    let next : place + 1 + k ≡ place + suc k = omega arith in
    let m : k < length fs = omega (arith, l) in
    placed_at (place + 1) fs k d m ∙ ap (λ (p : ℕ). Some (placed p (seen (get_or fs k d)))) next

pub code_at : (fs : List Flat) (k : ℕ) (f : Flat) → k < length fs → f ≡ get_or fs k f → slice_get (code_of fs) k ≡ Some (placed k (seen f))
code_at fs k f l e =
    let here : 0 + k ≡ k = omega arith in
    placed_at 0 fs k f l ∙ (λ i. Some (placed (here i) (seen (sym e i))))

-- the longer one of two ways
once_more : (n : ℕ) → max n 0 ≡ max (max n 0) 0
once_more n = grind arith

zero_max : (n : ℕ) → n ≡ max 0 n
zero_max n = grind arith

pub max_zero : (n : ℕ) → max n 0 ≡ n
max_zero n = grind arith

of_two : (m n : ℕ) → max m (max n 0) ≡ max (max m 0) (max n 0)
of_two m n = grind arith

pub greatest_both : (f : ℕ → ℕ) (a b : Option ℕ) → greatest (map f (held a ++ held b)) ≡ max (greatest (map f (held a))) (greatest (map f (held b)))
greatest_both f None b = zero_max (greatest (map f (held b)))
greatest_both f (Some x) None = once_more (f x)
greatest_both f (Some x) (Some y) = of_two (f x) (f y)

-- an instruction is a Tick, or it is one more
tick_or_not : (o : Option Instruction) → ((count : ℕ) → unless_tick o count ≡ 0) ⊎ ((count : ℕ) → unless_tick o count ≡ count)
tick_or_not None = inl (λ count. refl)
tick_or_not (Some instr.Tick) = inl (λ count. refl)
tick_or_not (Some (instr.Const literal)) = inr (λ count. refl)
tick_or_not (Some (instr.Local local)) = inr (λ count. refl)
tick_or_not (Some (instr.SetLocal local)) = inr (λ count. refl)
tick_or_not (Some (instr.NewCell local)) = inr (λ count. refl)
tick_or_not (Some (instr.CellGet local)) = inr (λ count. refl)
tick_or_not (Some (instr.CellSet local)) = inr (λ count. refl)
tick_or_not (Some (instr.Free capture)) = inr (λ count. refl)
tick_or_not (Some (instr.FreeGet capture)) = inr (λ count. refl)
tick_or_not (Some (instr.FreeSet capture)) = inr (λ count. refl)
tick_or_not (Some (instr.Global named)) = inr (λ count. refl)
tick_or_not (Some (instr.SetGlobal named)) = inr (λ count. refl)
tick_or_not (Some instr.Push) = inr (λ count. refl)
tick_or_not (Some (instr.Jump address)) = inr (λ count. refl)
tick_or_not (Some (instr.JumpFalse address)) = inr (λ count. refl)
tick_or_not (Some (instr.Closure body count)) = inr (λ count. refl)
tick_or_not (Some (instr.Search generic count)) = inr (λ count. refl)
tick_or_not (Some (instr.CallDirect sorted ambiguous count)) = inr (λ count. refl)
tick_or_not (Some (instr.CallKnown named count)) = inr (λ count. refl)
tick_or_not (Some (instr.CallValue count)) = inr (λ count. refl)
tick_or_not (Some instr.Return) = inr (λ count. refl)
tick_or_not (Some (instr.Values count)) = inr (λ count. refl)
tick_or_not (Some (instr.Spread count collects)) = inr (λ count. refl)
tick_or_not (Some (instr.Check type)) = inr (λ count. refl)
tick_or_not (Some (instr.CheckResults results)) = inr (λ count. refl)
tick_or_not (Some (instr.Op operation count)) = inr (λ count. refl)
tick_or_not (Some (instr.Enter address)) = inr (λ count. refl)
tick_or_not (Some instr.Leave) = inr (λ count. refl)
tick_or_not (Some (instr.Guard address)) = inr (λ count. refl)
tick_or_not (Some instr.Unguard) = inr (λ count. refl)
tick_or_not (Some instr.EndCleanup) = inr (λ count. refl)
tick_or_not (Some (instr.Handle condition)) = inr (λ count. refl)
tick_or_not (Some (instr.Catch condition address)) = inr (λ count. refl)
tick_or_not (Some (instr.Unhandle count)) = inr (λ count. refl)
tick_or_not (Some instr.Save) = inr (λ count. refl)
tick_or_not (Some instr.Restore) = inr (λ count. refl)
tick_or_not (Some (instr.Next count)) = inr (λ count. refl)
tick_or_not (Some instr.NextValue) = inr (λ count. refl)
tick_or_not (Some instr.NoMatch) = inr (λ count. refl)
tick_or_not (Some (instr.Args params)) = inr (λ count. refl)

less_by : (o : Option Instruction) (x y : ℕ) → x ≤ y → unless_tick o x ≤ unless_tick o y
less_by o x y l = by (tick_or_not o)
  where
    by : ((count : ℕ) → unless_tick o count ≡ 0) ⊎ ((count : ℕ) → unless_tick o count ≡ count) → unless_tick o x ≤ unless_tick o y
    by (inl t) = let a = t x in omega (arith, a)
    by (inr t) = let a = t x in let b = t y in omega (arith, a, b, l)

at_most : (o : Option Instruction) (x : ℕ) → unless_tick o x ≤ x
at_most o x = by (tick_or_not o)
  where
    by : ((count : ℕ) → unless_tick o count ≡ 0) ⊎ ((count : ℕ) → unless_tick o count ≡ count) → unless_tick o x ≤ x
    by (inl t) = let a = t x in omega (arith, a)
    by (inr t) = let a = t x in omega (arith, a)

min_none : (x n y : ℕ) → x ≡ 0 → min x n ≤ y
min_none x n y e = grind (arith, e)

min_same : (x y n m k : ℕ) → k ≡ x → m ≡ y → min x n ≤ y → min k n ≤ m
min_same x y n m k e f l = grind (arith, e, f, l)

capped_by : (o : Option Instruction) (x n y : ℕ) → min x n ≤ y → min (unless_tick o x) n ≤ unless_tick o y
capped_by o x n y l = by (tick_or_not o)
  where
    by : ((count : ℕ) → unless_tick o count ≡ 0) ⊎ ((count : ℕ) → unless_tick o count ≡ count) → min (unless_tick o x) n ≤ unless_tick o y
    by (inl t) = min_none (unless_tick o x) n (unless_tick o y) (t x)
    by (inr t) = min_same x y n (unless_tick o y) (unless_tick o x) (t x) (t y) l

greater_both : (a b x y : ℕ) → a ≤ x → b ≤ y → max a b ≤ max x y
greater_both a b x y l m = grind (arith, l, m)

all_less : (f g : ℕ → ℕ) (xs : List ℕ) → ((x : ℕ) → f x ≤ g x) → greatest (map f xs) ≤ greatest (map g xs)
all_less f g [] h = omega arith
all_less f g (x ∷ xs) h = greater_both (f x) (greatest (map f xs)) (g x) (greatest (map g xs)) (h x) (all_less f g xs h)

capped_both : (a b x y n : ℕ) → min a n ≤ x → min b n ≤ y → min (max a b) n ≤ max x y
capped_both a b x y n l m = grind (arith, l, m)

no_way : (n : ℕ) → min 0 n ≤ 0
no_way n = grind arith

all_capped : (n : ℕ) (f g : ℕ → ℕ) (xs : List ℕ) → ((x : ℕ) → min (f x) n ≤ g x) → min (greatest (map f xs)) n ≤ greatest (map g xs)
all_capped n f g [] h = no_way n
all_capped n f g (x ∷ xs) h = capped_both (f x) (greatest (map f xs)) (g x) (greatest (map g xs)) n (h x) (all_capped n f g xs h)

capped_none : (x : ℕ) → min x 0 ≤ 0
capped_none x = grind arith

capped_one : (a b n : ℕ) → min a n ≤ b → min (1 + a) (suc n) ≤ 1 + b
capped_one a b n l = grind (arith, l)

below_min : (a b n : ℕ) → a ≤ b → a ≤ n → a ≤ min b n
below_min a b n l m = grind (arith, l, m)

capped_less : (a b n y : ℕ) → a ≤ b → min b n ≤ y → min a n ≤ y
capped_less a b n y l m = grind (arith, l, m)

of_ticks : (ticks : Bool) (behind n : ℕ) → min (if ticks then 0 else (1 + behind)) n ≡ by_ways n ticks behind
of_ticks true behind n = grind arith
of_ticks false behind n = refl

-- Of the places from one on so many instructions and one more are taken, and of those before it so
-- many.
pub record IsSwept (code : List Instruction) (taken to : ℕ) (longs : List ℕ) : Type 0 where
  pub long : length longs ≡ length code
  pub lower : (place : ℕ) → longest code taken place ≤ long_at longs place
  pub later : (place : ℕ) → to ≤ place → longest code (suc taken) place ≤ long_at longs place
  pub upper : (place : ℕ) → long_at longs place ≤ longest code (length code) place

-- no way gets longer of those from places from one on
abbrev pub IsStillFrom : List Instruction → ℕ → List ℕ → Type 0
IsStillFrom code to longs = (place : ℕ) → to ≤ place → place < length code → long_at longs place ≡ long_by code longs place

module _ (code : List Instruction) where
  -- one instruction more makes a way no shorter
  more : (taken place : ℕ) → longest code taken place ≤ longest code (suc taken) place
  more zero place = omega arith
  more (suc taken) place =
      let xs = ways_from code place in
      let a = all_less (longest code taken) (longest code (suc taken)) xs (more taken) in
      less_by (slice_get code place) (1 + greatest (map (longest code taken) xs)) (1 + greatest (map (longest code (suc taken)) xs)) (omega (arith, a))

  short : (taken place : ℕ) → longest code taken place ≤ taken
  short zero place = omega arith
  short (suc taken) place =
      let xs = ways_from code place in
      let a = below_all code (longest code taken) taken xs (λ x h. short taken x) in
      let b : longest code (suc taken) place ≤ 1 + greatest (map (longest code taken) xs) = at_most (slice_get code place) (1 + greatest (map (longest code taken) xs)) in
      omega (arith, a, b)

  -- it makes a way longer only where all of that way is taken
  capped : (taken place : ℕ) → min (longest code (suc taken) place) taken ≤ longest code taken place
  capped zero place = capped_none (longest code 1 place)
  capped (suc taken) place =
      let xs = ways_from code place in
      let f = longest code (suc taken) in
      let g = longest code taken in
      capped_by (slice_get code place) (1 + greatest (map f xs)) (suc taken) (1 + greatest (map g xs)) (capped_one (greatest (map f xs)) (greatest (map g xs)) taken (all_capped taken f g xs (capped taken)))

  further : (taken : ℕ) (longs : List ℕ) (place : ℕ) → taken < length code → ((q : ℕ) → longest code taken q ≤ long_at longs q) → longest code (suc taken) place ≤ long_by code longs place
  further taken longs place l h =
      let xs = ways_from code place in
      let a = all_less (longest code taken) (long_at longs) xs h in
      let b : longest code (suc taken) place ≤ unless_tick (slice_get code place) (1 + greatest (map (long_at longs) xs)) =
      less_by (slice_get code place) (1 + greatest (map (longest code taken) xs)) (1 + greatest (map (long_at longs) xs)) (omega (arith, a)) in
      let s = short (suc taken) place in
      below_min (longest code (suc taken) place) (unless_tick (slice_get code place) (1 + greatest (map (long_at longs) xs))) (length code) b (omega (arith, s, l))

  within : (longs : List ℕ) (place : ℕ) → ((q : ℕ) → long_at longs q ≤ longest code (length code) q) → long_by code longs place ≤ longest code (length code) place
  within longs place h =
      let n = length code in
      let xs = ways_from code place in
      let a = all_less (long_at longs) (longest code n) xs h in
      let b : unless_tick (slice_get code place) (1 + greatest (map (long_at longs) xs)) ≤ longest code (suc n) place =
      less_by (slice_get code place) (1 + greatest (map (long_at longs) xs)) (1 + greatest (map (longest code n) xs)) (omega (arith, a)) in
      capped_less (unless_tick (slice_get code place) (1 + greatest (map (long_at longs) xs))) (longest code (suc n) place) n (longest code n place) b (capped n place)

  pub swept_first : (taken : ℕ) (longs : List ℕ) → AreBetween code taken longs → IsSwept code taken (length code) longs
  swept_first taken longs b = record {
    long = b.long;
    lower = b.lower;
    later = λ place l. let e = longest_past code (suc taken) place l in omega (arith, e);
    upper = b.upper;
  }

  module _ (place to x : ℕ) (longs : List ℕ) (next : to ≡ suc place) (l : place < length longs) (is : x ≡ long_by code longs place) where
    abbrev new : List ℕ
    new = set longs place x

    at_one : long_at new place ≡ x
    at_one = get_or-set_same longs place x 0 l

    apart : (q : ℕ) → ((q ≡ place) → ⊥) → long_at new q ≡ long_at longs q
    apart q f = get_or-set_other longs place q x 0 f

    pub swept_more : (taken : ℕ) → taken < length code → IsSwept code taken to longs → IsSwept code taken place new
    swept_more taken m b = record {
      long = length-set longs place x ∙ b.long;
      lower = λ q. lower_at q (told_apart q place);
      later = λ q k. later_at q k (told_apart q place);
      upper = λ q. upper_at q (told_apart q place);
    }
      where
        here : longest code (suc taken) place ≤ x
        here = subst (λ (k : ℕ). longest code (suc taken) place ≤ k) (sym is) (further taken longs place m b.lower)

        lower_at : (q : ℕ) → (q ≡ place) ⊎ ((q ≡ place) → ⊥) → longest code taken q ≤ long_at new q
        lower_at q (inl same) =
            let a = more taken place in
            let h = here in
            let e = at_one in
            subst (λ (k : ℕ). longest code taken k ≤ long_at new k) (sym same) (omega (arith, a, h, e))
        lower_at q (inr f) = let a = b.lower q in let e = apart q f in omega (arith, a, e)

        later_at : (q : ℕ) → place ≤ q → (q ≡ place) ⊎ ((q ≡ place) → ⊥) → longest code (suc taken) q ≤ long_at new q
        later_at q k (inl same) =
            let h = here in
            let e = at_one in
            subst (λ (k : ℕ). longest code (suc taken) k ≤ long_at new k) (sym same) (omega (arith, h, e))
        later_at q k (inr f) =
            let beyond : to ≤ q = by (cases_lt place q) in
            let a = b.later q beyond in
            let e = apart q f in
            omega (arith, a, e)
          where
            by : (place < q) ⊎ (q ≤ place) → to ≤ q
            by (inl less) = omega (arith, less, next)
            by (inr less) = let same : q ≡ place = omega (arith, less, k) in absurd (f same)

        upper_at : (q : ℕ) → (q ≡ place) ⊎ ((q ≡ place) → ⊥) → long_at new q ≤ longest code (length code) q
        upper_at q (inl same) =
            let a = within longs place b.upper in
            let e = at_one in
            subst (λ (k : ℕ). long_at new k ≤ longest code (length code) k) (sym same) (omega (arith, a, e, is))
        upper_at q (inr f) = let a = b.upper q in let e = apart q f in omega (arith, a, e)

    pub still_more : long_at longs place ≡ x → IsStillFrom code to longs → IsStillFrom code place new
    still_more e still = subst (IsStillFrom code place) (sym same) here
      where
        same : new ≡ longs
        same = ap (set longs place) (sym e) ∙ set-get_or longs place 0

        here : IsStillFrom code place longs
        here q l m = by (cases_lt place q)
          where
            by : (place < q) ⊎ (q ≤ place) → long_at longs q ≡ long_by code longs q
            by (inl less) = still q (omega (arith, less, next)) m
            by (inr less) =
                let at : q ≡ place = omega (arith, less, l) in
                subst (λ (k : ℕ). long_at longs k ≡ long_by code longs k) (sym at) (e ∙ is)

  pub swept_all : (taken : ℕ) (longs : List ℕ) → IsSwept code taken 0 longs → AreBetween code (taken + 1) longs
  swept_all taken longs b =
      let e : suc taken ≡ taken + 1 = omega arith in
      record {
        long = b.long;
        lower = λ place. subst (λ (k : ℕ). longest code k place ≤ long_at longs place) e (b.later place (omega arith));
        upper = b.upper;
      }

  pub still_all : (longs : List ℕ) → IsStillFrom code 0 longs → AreStill code longs
  still_all longs still place l = still place (omega arith) l

  module _ (longs : List ℕ) (still : AreStill code longs) where
    under_more : (most place : ℕ) → most < length code → ((q : ℕ) → longest code most q ≤ long_at longs q) → (place < length code) ⊎ (length code ≤ place) → longest code (suc most) place ≤ long_at longs place
    under_more most place l h (inl m) = subst (λ (k : ℕ). longest code (suc most) place ≤ k) (sym (still place m)) (further most longs place l h)
    under_more most place l h (inr m) = let e = longest_past code (suc most) place m in omega (arith, e)

    under : (most place : ℕ) → most ≤ length code → longest code most place ≤ long_at longs place
    under zero place l = omega arith
    under (suc most) place l =
        let less : most < length code = omega (arith, l) in
        let shorter : most ≤ length code = omega (arith, l) in
        under_more most place less (λ q. under most q shorter) (cases_lt place (length code))

  -- where no way gets longer, all are as long as can be
  pub still_longest : (taken : ℕ) (longs : List ℕ) → AreBetween code taken longs → AreStill code longs → AreLongest code longs
  still_longest taken longs b still = record {
    long = b.long;
    same = λ place. let u = b.upper place in let v = under longs still (length code) place (omega arith) in omega (arith, u, v);
  }

  -- so are they where as many instructions are taken as there are
  pub all_longest : (taken : ℕ) (longs : List ℕ) → taken ≡ length code → AreBetween code taken longs → AreLongest code longs
  all_longest taken longs e b = record {
    long = b.long;
    same = λ place.
        let u = b.upper place in
        let v = subst (λ (k : ℕ). longest code k place ≤ long_at longs place) e (b.lower place) in
        omega (arith, u, v);
  }

  -- one instruction more than the longest way behind it
  pub by_step : (place : ℕ) (i : Instruction) (ticks : Bool) (places longs : List ℕ) (x : ℕ) → slice_get code place ≡ Some i → ways (place + 1) i ≡ places
      → ((count : ℕ) → unless_tick (Some i) count ≡ (if ticks then 0 else count)) → length longs ≡ length code → x ≡ by_ways (length longs) ticks (greatest (map (long_at longs) places)) → x ≡ long_by code longs place
  by_step place i ticks places longs x e w t n is =
      let behind = greatest (map (long_at longs) places) in
      is ∙ ap (λ (k : ℕ). by_ways k ticks behind) n ∙ sym (of_ticks ticks behind (length code))
      ∙ ap (λ (k : ℕ). min k (length code)) (sym (t (1 + behind)))
      ∙ ap (λ (ps : List ℕ). min (unless_tick (Some i) (1 + greatest (map (long_at longs) ps))) (length code)) (sym w)
      ∙ ap (λ (o : Option Instruction). min (unless_tick o (1 + greatest (map (long_at longs) (ways_of (place + 1) o)))) (length code)) (sym e)

-- the longest way, where one place more is gone over
module _ (longs : List ℕ) (marks : List Bool) (place most : ℕ) (m : IsMostTo longs marks place most) where
  upper_now : (new : ℕ) → most ≤ new → (IsMarked marks place → long_at longs place ≤ new) → (q : ℕ) → q < place + 1 → IsMarked marks q → long_at longs q ≤ new
  upper_now new a g q l k = by (cases_lt q place)
    where
      by : (q < place) ⊎ (place ≤ q) → long_at longs q ≤ new
      by (inl b) = let u = m.upper q b k in omega (arith, u, a)
      by (inr b) =
          let at : q ≡ place = omega (arith, b, l) in
          subst (λ (x : ℕ). long_at longs x ≤ new) (sym at) (g (subst (IsMarked marks) at k))

  -- which is not marked
  pub most_past : get_or marks place true ≡ false → IsMostTo longs marks (place + 1) most
  most_past e = record {
    upper = λ q l k. upper_now most (omega arith) (λ h. absurd (true≢false (sym h ∙ e))) q l k;
    lower = by m.lower;
  }
    where
      by : (most ≡ 0) ⊎ ((q : ℕ) × (q < place) × IsMarked marks q × (long_at longs q ≡ most)) → (most ≡ 0) ⊎ ((q : ℕ) × (q < place + 1) × IsMarked marks q × (long_at longs q ≡ most))
      by (inl z) = inl z
      by (inr r) = let l = r.1 in inr (r.0, omega (arith, l), r.2, r.3)

  -- which is marked
  pub most_marked : (long : ℕ) → IsMarked marks place → long_at longs place ≡ long → IsMostTo longs marks (place + 1) (max most long)
  most_marked long e is = record {
    upper = λ q b k. upper_now (max most long) (grind arith) (λ h. grind (arith, is)) q b k;
    lower = by m.lower (cases_lt most long);
  }
    where
      by : (most ≡ 0) ⊎ ((q : ℕ) × (q < place) × IsMarked marks q × (long_at longs q ≡ most)) → (most < long) ⊎ (long ≤ most)
          → (max most long ≡ 0) ⊎ ((q : ℕ) × (q < place + 1) × IsMarked marks q × (long_at longs q ≡ max most long))
      by old (inl k) = inr (place, omega arith, e, (is ∙ grind (arith, k)))
      by (inl z) (inr k) = inl (grind (arith, z, k))
      by (inr r) (inr k) = let l = r.1 in inr (r.0, omega (arith, l), r.2, (r.3 ∙ grind (arith, k)))

-- nothing is gone over yet
pub most_none : (longs : List ℕ) (marks : List Bool) → IsMostTo longs marks 0 0
most_none longs marks = record {
  upper = λ q a k. absurd (omega (arith, a));
  lower = inl refl;
}

pub neither : (one other : Bool) → (one || other) ≡ false → (one ≡ false) × (other ≡ false)
neither true other e = absurd (true≢false e)
neither false other e = (refl, e)

-- nothing is known yet
pub record Blank (longs : List ℕ) (n : ℕ) : Type 0 where
  pub long : length longs ≡ n
  pub none : (place : ℕ) → long_at longs place ≡ 0

pub blank_none : Blank [] 0
blank_none = record { long = refl; none = λ place. refl }

none_more : (longs : List ℕ) → ((place : ℕ) → long_at longs place ≡ 0) → (place : ℕ) → long_at (longs ++ 0 ∷ []) place ≡ 0
none_more [] h zero = refl
none_more [] h (suc place) = refl
none_more (x ∷ longs) h zero = h 0
none_more (x ∷ longs) h (suc place) = none_more longs (λ p. h (suc p)) place

pub blank_more : (longs : List ℕ) (n : ℕ) → Blank longs n → Blank (longs ++ 0 ∷ []) (n + 1)
blank_more longs n b = record {
  long = length-append longs (0 ∷ []) ∙ ap (λ (k : ℕ). k + 1) b.long;
  none = none_more longs b.none;
}

pub blank_between : (code : List Instruction) (longs : List ℕ) (n : ℕ) → n ≡ length code → Blank longs n → AreBetween code 0 longs
blank_between code longs n e b = record {
  long = b.long ∙ e;
  lower = λ place. omega arith;
  upper = λ place. let z = b.none place in omega (arith, z);
}
