-- The fault that is told stands first of all.
use Rattle.std.proofs.Common.{◌≡◌, ◌⊎◌, inl, inr, ℕ, zero, suc, ◌<◌, Bool, true, false, true≢false}
use Rattle.std.proofs.Common.{◌&&◌, ◌||◌, if◌then◌else◌, nat_eq, nat_lt, List, [], ◌∷◌, ◌++◌}
use Rattle.std.proofs.Common.{Option, Some, None, refl, sym, ap, subst, ◌∙◌, arith}
use Rattle.std.proofs.lemmas.Bool.{lt-ltb, ltb-true}
use Rattle.std.proofs.lemmas.List.{append_assoc, append-nil}
use Rattle.dy_base.specs.Kinds.{code_of}
use Rattle.dy_base.specs.declared.fault.Fault.{Fault}
use Rattle.dy_base.specs.declared.fault.Place.{Place}
use Rattle.dy_modules.specs.Clauses.{IsIn}
use Rattle.dy_modules.proofs.Says.{is_eq, eq_is, both_true, and_true}
use Rattle.dy_binding.specs.Faults.{is_earlier, comes_before, first_of_two}
use Rattle.dy_library_rows.specs.Libraries.{or_fault}
use Rattle.dy_library_names.specs.Passes.{first_behind, first_of, first_in}
use Rattle.dy_library_names.specs.Told.{IsTold, IsFirst}

in_order : (i j : ℕ) → (i < j) ⊎ ((i ≡ j) ⊎ (j < i))
in_order zero zero = inr (inl refl)
in_order zero (suc j) = inl (omega arith)
in_order (suc i) zero = inr (inr (omega arith))
in_order (suc i) (suc j) = elim (in_order i j) [
  | inl a ↦ inl (omega (arith, a))
  | inr (inl e) ↦ inr (inl (ap suc e))
  | inr (inr b) ↦ inr (inr (omega (arith, b)))
]

not_true : (b : Bool) → (b ≡ true → ⊥) → b ≡ false
not_true true never = absurd (never refl)
not_true false never = refl

either_true : (x y : Bool) → (x || y) ≡ true → (x ≡ true) ⊎ (y ≡ true)
either_true true y e = inl refl
either_true false y e = inr e

left_true : (x y : Bool) → x ≡ true → (x || y) ≡ true
left_true true y e = refl
left_true false y e = absurd (true≢false (sym e))

right_true : (x y : Bool) → y ≡ true → (x || y) ≡ true
right_true true y e = refl
right_true false y e = e

-- places by the file, then by the byte
abbrev Sooner : Place → Place → Type 0
Sooner a b = (a.file < b.file) ⊎ ((a.file ≡ b.file) × (a.offset < b.offset))

sooner_to : (a b : Place) → is_earlier (Some a) (Some b) ≡ true → Sooner a b
sooner_to a b e =
    by_either (either_true (nat_lt a.file b.file)
    (nat_eq a.file b.file && nat_lt a.offset b.offset) e)
  where
    by_either : (nat_lt a.file b.file ≡ true)
        ⊎ ((nat_eq a.file b.file && nat_lt a.offset b.offset) ≡ true) → Sooner a b
    by_either (inl h) = inl (ltb-true a.file b.file h)
    by_either (inr h) =
        let p = both_true (nat_eq a.file b.file) (nat_lt a.offset b.offset) h in
        inr (is_eq a.file b.file p.0, ltb-true a.offset b.offset p.1)

sooner_from : (a b : Place) → Sooner a b → is_earlier (Some a) (Some b) ≡ true
sooner_from a b (inl h) =
    left_true (nat_lt a.file b.file) (nat_eq a.file b.file && nat_lt a.offset b.offset)
    (lt-ltb a.file b.file h)
sooner_from a b (inr h) =
    right_true (nat_lt a.file b.file) (nat_eq a.file b.file && nat_lt a.offset b.offset)
    (and_true (nat_eq a.file b.file) (nat_lt a.offset b.offset) (eq_is a.file b.file h.0)
    (lt-ltb a.offset b.offset h.1))

sooner_apart : (a b : Place) → Sooner a b → Sooner b a → ⊥
sooner_apart a b (inl h) (inl g) = omega (arith, h, g)
sooner_apart a b (inl h) (inr g) = omega (arith, h, g.0)
sooner_apart a b (inr h) (inl g) = omega (arith, h.0, g)
sooner_apart a b (inr h) (inr g) = omega (arith, h.1, g.1)

sooner_between : (a b c : Place) → Sooner a c → Sooner a b ⊎ Sooner b c
sooner_between a b c s = by_files s (in_order a.file b.file)
  where
    by_offsets : a.file ≡ b.file → a.file ≡ c.file → a.offset < c.offset
        → (a.offset < b.offset) ⊎ ((a.offset ≡ b.offset) ⊎ (b.offset < a.offset))
        → Sooner a b ⊎ Sooner b c
    by_offsets e f h (inl g) = inl (inr (e, g))
    by_offsets e f h (inr (inl g)) = inr (inr (sym e ∙ f, omega (arith, h, g)))
    by_offsets e f h (inr (inr g)) = inr (inr (sym e ∙ f, omega (arith, h, g)))

    by_files : Sooner a c → (a.file < b.file) ⊎ ((a.file ≡ b.file) ⊎ (b.file < a.file))
        → Sooner a b ⊎ Sooner b c
    by_files s (inl g) = inl (inl g)
    by_files (inl h) (inr (inl e)) = inr (inl (omega (arith, h, e)))
    by_files (inl h) (inr (inr g)) = inr (inl (omega (arith, h, g)))
    by_files (inr h) (inr (inl e)) = by_offsets e h.0 h.1 (in_order a.offset b.offset)
    by_files (inr h) (inr (inr g)) = inr (inl (omega (arith, h.0, g)))

places_apart : (a b : Option Place) → is_earlier a b ≡ true → is_earlier b a ≡ true → ⊥
places_apart None None e f = true≢false (sym e)
places_apart None (Some b) e f = true≢false (sym f)
places_apart (Some a) None e f = true≢false (sym e)
places_apart (Some a) (Some b) e f = sooner_apart a b (sooner_to a b e) (sooner_to b a f)

places_between : (a b c : Option Place) → is_earlier a c ≡ true
    → (is_earlier a b ≡ true) ⊎ (is_earlier b c ≡ true)
places_between None None None e = absurd (true≢false (sym e))
places_between None (Some b) None e = absurd (true≢false (sym e))
places_between None None (Some c) e = inr refl
places_between None (Some b) (Some c) e = inl refl
places_between (Some a) None None e = absurd (true≢false (sym e))
places_between (Some a) (Some b) None e = absurd (true≢false (sym e))
places_between (Some a) None (Some c) e = inr refl
places_between (Some a) (Some b) (Some c) e = elim (sooner_between a b c (sooner_to a c e)) [
  | inl h ↦ inl (sooner_from a b h)
  | inr h ↦ inr (sooner_from b c h)
]

numbers_apart : (i j : ℕ) → nat_lt i j ≡ true → nat_lt j i ≡ true → ⊥
numbers_apart i j e f = omega (arith, ltb-true i j e, ltb-true j i f)

numbers_between : (i j k : ℕ) → nat_lt i k ≡ true → (nat_lt i j ≡ true) ⊎ (nat_lt j k ≡ true)
numbers_between i j k e = elim (in_order i j) [
  | inl h ↦ inl (lt-ltb i j h)
  | inr (inl h) ↦ inr (lt-ltb j k (omega (arith, h, ltb-true i k e)))
  | inr (inr h) ↦ inr (lt-ltb j k (omega (arith, h, ltb-true i k e)))
]

-- first by one order, and then by another
abbrev by_both : Bool → Bool → Bool → Bool
by_both first second rest = if first then true else if second then false else rest

both_to : (x y z : Bool) → by_both x y z ≡ true
    → (x ≡ true) ⊎ ((x ≡ false) × (y ≡ false) × (z ≡ true))
both_to true y z e = inl refl
both_to false true z e = absurd (true≢false (sym e))
both_to false false z e = inr (refl, refl, e)

both_first : (x y z : Bool) → x ≡ true → by_both x y z ≡ true
both_first true y z e = refl
both_first false y z e = absurd (true≢false (sym e))

both_rest : (x y z : Bool) → y ≡ false → z ≡ true → by_both x y z ≡ true
both_rest true y z e f = refl
both_rest false true z e f = absurd (true≢false e)
both_rest false false z e f = f

-- whether a fault stands at an earlier place than another, and whether its kind is smaller
abbrev earlier : Fault → Fault → Bool
earlier a b = is_earlier a.place b.place

abbrev smaller : Fault → Fault → Bool
smaller a b = nat_lt (code_of a.kind) (code_of b.kind)

before_to : (a b : Fault) → comes_before a b ≡ true
    → (earlier a b ≡ true) ⊎ ((earlier a b ≡ false) × (earlier b a ≡ false) × (smaller a b ≡ true))
before_to a b e = both_to (earlier a b) (earlier b a) (smaller a b) e

by_place : (a b : Fault) → earlier a b ≡ true → comes_before a b ≡ true
by_place a b e = both_first (earlier a b) (earlier b a) (smaller a b) e

by_kind : (a b : Fault) → earlier b a ≡ false → smaller a b ≡ true → comes_before a b ≡ true
by_kind a b e f = both_rest (earlier a b) (earlier b a) (smaller a b) e f

-- no two faults come before each other
apart : (a b : Fault) → comes_before a b ≡ true → comes_before b a ≡ true → ⊥
apart a b e f = by_cases (before_to a b e) (before_to b a f)
  where
    by_cases : (earlier a b ≡ true)
        ⊎ ((earlier a b ≡ false) × (earlier b a ≡ false) × (smaller a b ≡ true))
        → (earlier b a ≡ true)
        ⊎ ((earlier b a ≡ false) × (earlier a b ≡ false) × (smaller b a ≡ true)) → ⊥
    by_cases (inl p) (inl q) = places_apart a.place b.place p q
    by_cases (inl p) (inr q) = true≢false (sym p ∙ q.1)
    by_cases (inr p) (inl q) = true≢false (sym q ∙ p.1)
    by_cases (inr p) (inr q) = numbers_apart (code_of a.kind) (code_of b.kind) p.2 q.2

-- what comes before a third comes before another, or that one comes before the third
between : (a b c : Fault) → comes_before a c ≡ true
    → (comes_before a b ≡ true) ⊎ (comes_before b c ≡ true)
between a b c e = by_cases (before_to a c e)
  where
    by_places : (x y : Bool) → earlier a b ≡ x → earlier b c ≡ y → earlier a c ≡ false
        → earlier c a ≡ false → smaller a c ≡ true
        → (comes_before a b ≡ true) ⊎ (comes_before b c ≡ true)
    by_places true y p q ac ca s = inl (by_place a b p)
    by_places false true p q ac ca s = inr (by_place b c q)
    by_places false false p q ac ca s =
        elim (numbers_between (code_of a.kind) (code_of b.kind) (code_of c.kind) s) [
          | inl h ↦ inl (by_kind a b ba h)
          | inr h ↦ inr (by_kind b c cb h)
        ]
      where
        ba : earlier b a ≡ false
        ba = not_true (earlier b a) (λ e. elim (places_between b.place c.place a.place e) [
          | inl h ↦ true≢false (sym h ∙ q)
          | inr h ↦ true≢false (sym h ∙ ca)
        ])

        cb : earlier c b ≡ false
        cb = not_true (earlier c b) (λ e. elim (places_between c.place a.place b.place e) [
          | inl h ↦ true≢false (sym h ∙ ca)
          | inr h ↦ true≢false (sym h ∙ p)
        ])

    by_cases : (earlier a c ≡ true)
        ⊎ ((earlier a c ≡ false) × (earlier c a ≡ false) × (smaller a c ≡ true))
        → (comes_before a b ≡ true) ⊎ (comes_before b c ≡ true)
    by_cases (inl p) = elim (places_between a.place b.place c.place p) [
      | inl h ↦ inl (by_place a b h)
      | inr h ↦ inr (by_place b c h)
    ]
    by_cases (inr p) = by_places (earlier a b) (earlier b c) refl refl p.0 p.1 p.2

in_both : (x : Fault) (xs ys : List Fault) → IsIn x (xs ++ ys) → IsIn x xs ⊎ IsIn x ys
in_both x [] ys h = inr h
in_both x (y ∷ xs) ys (inl e) = inl (inl e)
in_both x (y ∷ xs) ys (inr h) = elim (in_both x xs ys h) [
  | inl a ↦ inl (inr a)
  | inr a ↦ inr a
]

one_told : (f : Fault) → IsTold (f ∷ []) f
one_told f = record {
  before = [];
  behind = [];
  all = refl;
  first = λ other is. absurd is;
  least = λ other is. absurd is;
}

-- of some faults and one behind them
one_more : (seen : List Fault) (f g : Fault) → IsTold seen f
    → IsTold (seen ++ g ∷ []) (first_of_two (Some f) g)
one_more seen f g is = by_test (comes_before g f) refl
  where
    here : (other : Fault) → comes_before g f ≡ true → (comes_before other f ≡ true → ⊥)
        → comes_before g other ≡ true
    here other e never = elim (between g other f e) [
      | inl h ↦ h
      | inr h ↦ absurd (never h)
    ]

    sooner : comes_before g f ≡ true → (other : Fault)
        → IsIn other is.before ⊎ IsIn other (f ∷ is.behind) → comes_before g other ≡ true
    sooner e other (inl a) = here other e (λ h. apart f other (is.first other a) h)
    sooner e other (inr (inl same)) = subst (λ x. comes_before g x ≡ true) (sym same) e
    sooner e other (inr (inr a)) = here other e (λ h. true≢false (sym h ∙ is.least other a))

    later : comes_before g f ≡ false → (other : Fault)
        → IsIn other is.behind ⊎ IsIn other (g ∷ []) → comes_before other f ≡ false
    later e other (inl a) = is.least other a
    later e other (inr (inl same)) = subst (λ x. comes_before x f ≡ false) (sym same) e
    later e other (inr (inr a)) = absurd a

    by_test : (b : Bool) → comes_before g f ≡ b → IsTold (seen ++ g ∷ []) (if b then g else f)
    by_test true e = record {
      before = seen;
      behind = [];
      all = refl;
      first = λ other h. sooner e other
          (in_both other is.before (f ∷ is.behind) (subst (IsIn other) is.all h));
      least = λ other h. absurd h;
    }
    by_test false e = record {
      before = is.before;
      behind = is.behind ++ g ∷ [];
      all = ap (λ l. l ++ g ∷ []) is.all ∙ append_assoc is.before (f ∷ is.behind) (g ∷ []);
      first = is.first;
      least = λ other h. later e other (in_both other is.behind (g ∷ []) h);
    }

abbrev Told : List Fault → Option Fault → Type 0
Told faults None = faults ≡ []
Told faults (Some fault) = IsTold faults fault

told_behind : (rest seen : List Fault) (f : Fault) → IsTold seen f
    → Told (seen ++ rest) (first_behind (Some f) rest)
told_behind [] seen f is = subst (λ l. IsTold l f) (sym (append-nil seen)) is
told_behind (g ∷ rest) seen f is =
    let first = first_of_two (Some f) g in
    subst (λ l. Told l (first_behind (Some first) rest)) (append_assoc seen (g ∷ []) rest)
    (told_behind rest (seen ++ g ∷ []) first (one_more seen f g is))

told_of : (faults : List Fault) → Told faults (first_of faults)
told_of [] = refl
told_of (f ∷ rest) = told_behind rest (f ∷ []) f (one_told f)

-- what the code finds is the first fault
pub first_is : (phases : List (List Fault)) → IsFirst phases (first_in phases)
first_is [] = refl
first_is (faults ∷ phases) = by_first (first_is phases) (first_of faults) (told_of faults)
  where
    later : faults ≡ [] → (o : Option Fault) → IsFirst phases o → IsFirst (faults ∷ phases) o
    later e None h = (e, h)
    later e (Some f) h = inr (e, h)

    by_first : IsFirst phases (first_in phases) → (o : Option Fault) → Told faults o
        → IsFirst (faults ∷ phases) (or_fault o (first_in phases))
    by_first rest None h = later h (first_in phases) rest
    by_first rest (Some f) h = inl h
