-- The first of several faults is the same whichever are compared first.
use Rattle.std.proofs.Common.{◌≡◌, ◌⊎◌, ℕ, ◌<◌, ◌≤◌, Bool, true, false, ◌&&◌, ◌||◌, nat_eq, nat_lt, List, [], ◌∷◌, ◌++◌, Option, Some, None, inl, inr, refl, sym, ap, ◌∙◌, ltb-true, ltb-false, lt-ltb, le-ltb, eqb-true, eq-eqb, arith}
use Rattle.std.specs.Prelude.{if◌then◌else◌}
use Rattle.std.proofs.lemmas.Bool.{or_parts, and_cases, eqb-false}
use Rattle.dy_base.specs.Kinds.{code_of}
use Rattle.dy_base.specs.declared.fault.Fault.{Fault}
use Rattle.dy_base.specs.declared.fault.Place.{Place}
use Rattle.dy_binding.specs.Faults.{is_earlier, comes_before, first_of_two}
use Rattle.dy_type_names.specs.Members.{first_of_both, first_of}

-- ---- one order, and another where the first tells nothing apart

pub record IsOrder {A : Type 0} (R : A → A → Bool) : Type 0 where
  pub trans : (a b c : A) → R a b ≡ true → R b c ≡ true → R a c ≡ true
  pub weak : (a b c : A) → R a b ≡ false → R b c ≡ false → R a c ≡ false

abbrev either : Bool → Bool → Bool → Bool
either p q s = if p then true else if q then false else s

either_true : (p q s : Bool) → either p q s ≡ true → (p ≡ true) ⊎ ((p ≡ false) × (q ≡ false) × (s ≡ true))
either_true true q s e = inl refl
either_true false true s e = absurd cc
either_true false false s e = inr (refl, refl, e)

either_false : (p q s : Bool) → either p q s ≡ false → (p ≡ false) × ((q ≡ true) ⊎ ((q ≡ false) × (s ≡ false)))
either_false true q s e = absurd cc
either_false false true s e = (refl, inl refl)
either_false false false s e = (refl, inr (refl, e))

either_one : (p q s : Bool) → p ≡ true → either p q s ≡ true
either_one true q s e = refl
either_one false q s e = absurd cc

either_rest : (p q s : Bool) → p ≡ false → q ≡ false → s ≡ true → either p q s ≡ true
either_rest true q s e f g = absurd cc
either_rest false true s e f g = absurd cc
either_rest false false s e f g = g

either_no : (p q s : Bool) → p ≡ false → (q ≡ false → s ≡ false) → either p q s ≡ false
either_no true q s e f = absurd cc
either_no false true s e f = refl
either_no false false s e f = f refl

clash : (b : Bool) → b ≡ true → b ≡ false → ⊥
clash true e f = absurd cc
clash false e f = absurd cc

truth_from : (b : Bool) → (b ≡ false → ⊥) → b ≡ true
truth_from true n = refl
truth_from false n = absurd (n refl)

falsehood_from : (b : Bool) → (b ≡ true → ⊥) → b ≡ false
falsehood_from true n = absurd (n refl)
falsehood_from false n = refl

module _ {A : Type 0} (R S : A → A → Bool) (r : IsOrder R) (s : IsOrder S) where
  abbrev both_orders : A → A → Bool
  both_orders a b = either (R a b) (R b a) (S a b)

  both_trans : (a b c : A) → both_orders a b ≡ true → both_orders b c ≡ true → both_orders a c ≡ true
  both_trans a b c e f = elim (either_true (R a b) (R b a) (S a b) e) [
    | inl ab ↦ elim (either_true (R b c) (R c b) (S b c) f) [
      | inl bc ↦ either_one (R a c) (R c a) (S a c) (r.trans a b c ab bc)
      | inr g ↦ either_one (R a c) (R c a) (S a c) (truth_from (R a c) (λ ac. clash (R a b) ab (r.weak a c b ac g.1)))
    ]
    | inr h ↦ elim (either_true (R b c) (R c b) (S b c) f) [
      | inl bc ↦ either_one (R a c) (R c a) (S a c) (truth_from (R a c) (λ ac. clash (R b c) bc (r.weak b a c h.1 ac)))
      | inr g ↦ either_rest (R a c) (R c a) (S a c) (r.weak a b c h.0 g.0) (r.weak c b a g.1 h.1) (s.trans a b c h.2 g.2)
    ]
  ]

  both_weak : (a b c : A) → both_orders a b ≡ false → both_orders b c ≡ false → both_orders a c ≡ false
  both_weak a b c e f =
      let h = either_false (R a b) (R b a) (S a b) e in
      let g = either_false (R b c) (R c b) (S b c) f in
      either_no (R a c) (R c a) (S a c) (r.weak a b c h.0 g.0)
      (λ ca. elim h.1 [
        | inl ba ↦ absurd (clash (R b a) ba (r.weak b c a g.0 ca))
        | inr ab ↦ elim g.1 [
          | inl cb ↦ absurd (clash (R c b) cb (r.weak c a b ca h.0))
          | inr bc ↦ s.weak a b c ab.1 bc.1
        ]
      ])

  pub both_are : IsOrder both_orders
  both_are = record { trans = both_trans; weak = both_weak }

-- ---- numbers and places

less_trans : (a b c : ℕ) → nat_lt a b ≡ true → nat_lt b c ≡ true → nat_lt a c ≡ true
less_trans a b c e f =
    let h : a < b = ltb-true a b e in
    let g : b < c = ltb-true b c f in
    lt-ltb a c (omega (arith, h, g))

less_weak : (a b c : ℕ) → nat_lt a b ≡ false → nat_lt b c ≡ false → nat_lt a c ≡ false
less_weak a b c e f =
    let h : b ≤ a = ltb-false a b e in
    let g : c ≤ b = ltb-false b c f in
    le-ltb a c (omega (arith, h, g))

abbrev is_above : (m n o p : ℕ) → Bool
is_above m n o p = nat_lt m o || (nat_eq m o && nat_lt n p)

module _ (m n o p : ℕ) where
  above_by : (x y z : Bool) → nat_lt m o ≡ x → nat_eq m o ≡ y → nat_lt n p ≡ z → (x || (y && z)) ≡ true → (m < o) ⊎ ((m ≡ o) × (n < p))
  above_by true y z a b c e = inl (ltb-true m o a)
  above_by false true true a b c e = inr (eqb-true m o b, ltb-true n p c)
  above_by false true false a b c e = absurd cc
  above_by false false z a b c e = absurd cc

  above_true : is_above m n o p ≡ true → (m < o) ⊎ ((m ≡ o) × (n < p))
  above_true e = above_by (nat_lt m o) (nat_eq m o) (nat_lt n p) refl refl refl e

above_less : (m n o p : ℕ) → m < o → is_above m n o p ≡ true
above_less m n o p l = ap (λ (b : Bool). b || (nat_eq m o && nat_lt n p)) (lt-ltb m o l)

above_same : (m n o p : ℕ) → m ≡ o → n < p → is_above m n o p ≡ true
above_same m n o p e l = truth_from (is_above m n o p) (λ no.
    let parts = or_parts (nat_lt m o) (nat_eq m o && nat_lt n p) no in
    elim (and_cases (nat_eq m o) (nat_lt n p) parts.1) [
      | inl a ↦ clash (nat_eq m o) (eq-eqb m o e) a
      | inr b ↦ clash (nat_lt n p) (lt-ltb n p l) b
    ])

module _ (m n o p : ℕ) where
  below_by : (b : Bool) → nat_eq m o ≡ b → o ≤ m → p ≤ n → (o < m) ⊎ ((o ≡ m) × (p ≤ n))
  below_by true q l less = inr (sym (eqb-true m o q), less)
  below_by false q l less = let apart : m ≡ o → ⊥ = eqb-false m o q in inl (omega (arith, l, apart))

  above_false : is_above m n o p ≡ false → (o < m) ⊎ ((o ≡ m) × (p ≤ n))
  above_false e =
      let parts = or_parts (nat_lt m o) (nat_eq m o && nat_lt n p) e in
      let l : o ≤ m = ltb-false m o parts.0 in
      elim (and_cases (nat_eq m o) (nat_lt n p) parts.1) [
        | inl a ↦ let apart : m ≡ o → ⊥ = eqb-false m o a in inl (omega (arith, l, apart))
        | inr b ↦ let less : p ≤ n = ltb-false n p b in below_by (nat_eq m o) refl l less
      ]

above_not : (m n o p : ℕ) → (o < m) ⊎ ((o ≡ m) × (p ≤ n)) → is_above m n o p ≡ false
above_not m n o p h = falsehood_from (is_above m n o p) (λ yes. elim (above_true m n o p yes) [
  | inl a ↦ elim h [ inl b ↦ omega (arith, a, b) | inr b ↦ let k : o ≡ m = b.0 in omega (arith, a, k) ]
  | inr a ↦ let q : m ≡ o = a.0 in let l : n < p = a.1 in elim h [ inl b ↦ omega (arith, q, b) | inr b ↦ let g : p ≤ n = b.1 in omega (arith, l, g) ]
])

place_trans : (a b c : Place) → is_above a.file a.offset b.file b.offset ≡ true → is_above b.file b.offset c.file c.offset ≡ true → is_above a.file a.offset c.file c.offset ≡ true
place_trans a b c e f = elim (above_true a.file a.offset b.file b.offset e) [
  | inl x ↦ elim (above_true b.file b.offset c.file c.offset f) [
    | inl y ↦ above_less a.file a.offset c.file c.offset (omega (arith, x, y))
    | inr y ↦ let q : b.file ≡ c.file = y.0 in above_less a.file a.offset c.file c.offset (omega (arith, x, q))
  ]
  | inr x ↦ let p : a.file ≡ b.file = x.0 in let l : a.offset < b.offset = x.1 in elim (above_true b.file b.offset c.file c.offset f) [
    | inl y ↦ above_less a.file a.offset c.file c.offset (omega (arith, p, y))
    | inr y ↦ let q : b.file ≡ c.file = y.0 in let m : b.offset < c.offset = y.1 in above_same a.file a.offset c.file c.offset (p ∙ q) (omega (arith, l, m))
  ]
]

place_weak : (a b c : Place) → is_above a.file a.offset b.file b.offset ≡ false → is_above b.file b.offset c.file c.offset ≡ false → is_above a.file a.offset c.file c.offset ≡ false
place_weak a b c e f = above_not a.file a.offset c.file c.offset (elim (above_false a.file a.offset b.file b.offset e) [
  | inl x ↦ elim (above_false b.file b.offset c.file c.offset f) [
    | inl y ↦ inl (omega (arith, x, y))
    | inr y ↦ let q : c.file ≡ b.file = y.0 in inl (omega (arith, x, q))
  ]
  | inr x ↦ let p : b.file ≡ a.file = x.0 in let l : b.offset ≤ a.offset = x.1 in elim (above_false b.file b.offset c.file c.offset f) [
    | inl y ↦ inl (omega (arith, p, y))
    | inr y ↦ let q : c.file ≡ b.file = y.0 in let m : c.offset ≤ b.offset = y.1 in inr (q ∙ p, omega (arith, l, m))
  ]
])

earlier_trans : (a b c : Option Place) → is_earlier a b ≡ true → is_earlier b c ≡ true → is_earlier a c ≡ true
earlier_trans None None c e f = absurd cc
earlier_trans None (Some b) None e f = absurd cc
earlier_trans None (Some b) (Some c) e f = refl
earlier_trans (Some a) None c e f = absurd cc
earlier_trans (Some a) (Some b) None e f = absurd cc
earlier_trans (Some a) (Some b) (Some c) e f = place_trans a b c e f

earlier_weak : (a b c : Option Place) → is_earlier a b ≡ false → is_earlier b c ≡ false → is_earlier a c ≡ false
earlier_weak None None c e f = f
earlier_weak None (Some b) c e f = absurd cc
earlier_weak (Some a) None None e f = refl
earlier_weak (Some a) None (Some c) e f = absurd cc
earlier_weak (Some a) (Some b) None e f = refl
earlier_weak (Some a) (Some b) (Some c) e f = place_weak a b c e f

by_place : IsOrder {A = Fault} (λ a b. is_earlier a.place b.place)
by_place = record {
  trans = λ a b c e f. earlier_trans a.place b.place c.place e f;
  weak = λ a b c e f. earlier_weak a.place b.place c.place e f;
}

by_code : IsOrder {A = Fault} (λ a b. nat_lt (code_of a.kind) (code_of b.kind))
by_code = record {
  trans = λ a b c e f. less_trans (code_of a.kind) (code_of b.kind) (code_of c.kind) e f;
  weak = λ a b c e f. less_weak (code_of a.kind) (code_of b.kind) (code_of c.kind) e f;
}

coming : IsOrder comes_before
coming = both_are {A = Fault} (λ a b. is_earlier a.place b.place) (λ a b. nat_lt (code_of a.kind) (code_of b.kind)) by_place by_code

-- ---- the first of three

first_by : (p q : Bool) (a b c : Fault) → comes_before b a ≡ p → comes_before c b ≡ q → first_of_two (Some (first_of_two (Some a) b)) c ≡ first_of_two (Some a) (first_of_two (Some b) c)
first_by true true a b c e f =
    ap (λ (x : Bool). first_of_two (Some (if x then b else a)) c) e
    ∙ ap (λ (x : Bool). if x then c else b) f
    ∙ sym (ap (λ (x : Bool). first_of_two (Some a) (if x then c else b)) f ∙ ap (λ (x : Bool). if x then c else a) (coming.trans c b a f e))
first_by true false a b c e f =
    ap (λ (x : Bool). first_of_two (Some (if x then b else a)) c) e
    ∙ ap (λ (x : Bool). if x then c else b) f
    ∙ sym (ap (λ (x : Bool). first_of_two (Some a) (if x then c else b)) f ∙ ap (λ (x : Bool). if x then b else a) e)
first_by false true a b c e f =
    ap (λ (x : Bool). first_of_two (Some (if x then b else a)) c) e
    ∙ sym (ap (λ (x : Bool). first_of_two (Some a) (if x then c else b)) f)
first_by false false a b c e f =
    ap (λ (x : Bool). first_of_two (Some (if x then b else a)) c) e
    ∙ ap (λ (x : Bool). if x then c else a) (coming.weak c b a f e)
    ∙ sym (ap (λ (x : Bool). first_of_two (Some a) (if x then c else b)) f ∙ ap (λ (x : Bool). if x then b else a) e)

pub first_of_three : (a b c : Option Fault) → first_of_both (first_of_both a b) c ≡ first_of_both a (first_of_both b c)
first_of_three a b None = refl
first_of_three a None (Some c) = refl
first_of_three None (Some b) (Some c) = refl
first_of_three (Some a) (Some b) (Some c) = ap Some (first_by (comes_before b a) (comes_before c b) a b c refl refl)

pub none_first : (a : Option Fault) → first_of_both None a ≡ a
none_first None = refl
none_first (Some a) = refl

pub first_append : (before bs : List Fault) → first_of (before ++ bs) ≡ first_of_both (first_of before) (first_of bs)
first_append [] bs = sym (none_first (first_of bs))
first_append (a ∷ before) bs = ap (first_of_both (Some a)) (first_append before bs) ∙ sym (first_of_three (Some a) (first_of before) (first_of bs))
