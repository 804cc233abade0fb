-- What the tests of the merge decide.
use Rattle.std.proofs.Common.{◌≡◌, Bool, true, false, cond, not, List, [], ◌∷◌, ◌⊎◌, Some, None, inl, inr, refl, subst}
use Rattle.dy_base.specs.declared.ids.ClassId.{ClassId}
use Rattle.dy_base.specs.Orders.{is_class}
use Rattle.dy_classes.proofs.Classes.{class_tells, class_itself, class_equal}
use Rattle.dy_classes.specs.Lists.{In, first, next, Before, now, later}
use Rattle.dy_classes.specs.Orders.{Admissible}
use Rattle.dy_classes.specs.Merge.{mem, ready_in, ready_in_all, ready, find, all_in, all_listed}
use Rattle.dy_classes.proofs.Lists.{before_last}

pub tells : (b : Bool) → (b ≡ true) ⊎ (b ≡ false)
tells true = inl refl
tells false = inr refl

pub both : (a b : Bool) → cond a b false ≡ true → (a ≡ true) × (b ≡ true)
both true b e = (refl, e)
both false b e = absurd cc

-- numbers are equal or not
pub same_or : (x y : ClassId) → (x ≡ y) ⊎ (x ≡ y → ⊥)
same_or x y = elim (class_tells x y) [ inl p ↦ inl p.1 | inr p ↦ inr p.1 ]

pub mem_in : (x : ClassId) (ys : List ClassId) → mem x ys ≡ true → In x ys
mem_in x [] e = absurd cc
mem_in x (y ∷ ys) e =
    elim (class_tells x y) [ inl p ↦ subst (λ (v : ClassId). In x (v ∷ ys)) p.1 first | inr p ↦ next (mem_in x ys (rw p.0 at e)) ]

pub in_mem : {x : ClassId} {ys : List ClassId} → In x ys → mem x ys ≡ true
in_mem {x} first = rw (class_itself x) refl
in_mem {x} (next {y = y} i) = elim (class_tells x y) [ inl p ↦ rw p.0 refl | inr p ↦ rw p.0 (in_mem i) ]

pub not_mem : (x : ClassId) (ys : List ClassId) → mem x ys ≡ false → In x ys → ⊥
not_mem x ys e i = let t = in_mem i in cc

-- an element is in the list or not
pub in_or : (x : ClassId) (ys : List ClassId) → In x ys ⊎ (In x ys → ⊥)
in_or x ys = elim (tells (mem x ys)) [ inl e ↦ inl (mem_in x ys e) | inr e ↦ inr (not_mem x ys e) ]

pub in_tail : {z x y : ClassId} {m : List ClassId} → Before z x (y ∷ m) → In x m
in_tail (now i) = i
in_tail (later b) = before_last b

module _ (listed : List ClassId) (x : ClassId) where
  ready_step : (z y : ClassId) (m : List ClassId) (b : Bool) → mem y listed ≡ b → cond b (ready_in listed x m) (not (mem x m)) ≡ true
      → (ready_in listed x m ≡ true → Before z x m → In z listed) → Before z x (y ∷ m) → In z listed
  ready_step z y m true is e below (now i) = mem_in y listed is
  ready_step z y m true is e below (later b) = below e b
  ready_step z y m false is e below b = let t = in_mem (in_tail b) in absurd cc

  pub ready_sound : (m : List ClassId) → ready_in listed x m ≡ true → (z : ClassId) → Before z x m → In z listed
  ready_sound [] e z b = elim b [ ]
  ready_sound (y ∷ m) e z b = ready_step z y m (mem y listed) refl e (λ e. ready_sound m e z) b

  tail_free : (y : ClassId) (m : List ClassId) → mem y listed ≡ false → ((z : ClassId) → Before z x (y ∷ m) → In z listed) → (c : Bool) → mem x m ≡ c → not c ≡ true
  tail_free y m is h true e = absurd (not_mem y listed is (h y (now (mem_in x m e))))
  tail_free y m is h false e = refl

  pub ready_complete : (m : List ClassId) → ((z : ClassId) → Before z x m → In z listed) → ready_in listed x m ≡ true
  ready_complete [] h = refl
  ready_complete (y ∷ m) h =
      elim (tells (mem y listed)) [ inl e ↦ rw e (ready_complete m (λ z b. h z (later b))) | inr e ↦ rw e (tail_free y m e h (mem x m) refl) ]

  pub ready_all_sound : (ms : List (List ClassId)) (m : List ClassId) → ready_in_all listed x ms ≡ true → In m ms → ready_in listed x m ≡ true
  ready_all_sound [] m e i = elim i [ ]
  ready_all_sound (k ∷ ms) m e first = (both (ready_in listed x k) (ready_in_all listed x ms) e).0
  ready_all_sound (k ∷ ms) m e (next i) = ready_all_sound ms m (both (ready_in listed x k) (ready_in_all listed x ms) e).1 i

  pub ready_all_complete : (ms : List (List ClassId)) → ((m : List ClassId) → In m ms → ready_in listed x m ≡ true) → ready_in_all listed x ms ≡ true
  ready_all_complete [] h = refl
  ready_all_complete (k ∷ ms) h = rw (h k first) (ready_all_complete ms (λ m i. h m (next i)))

not_listed : (lists : List (List ClassId)) (listed : List ClassId) (x : ClassId) (b : Bool) → mem x listed ≡ b → cond b false (ready_in_all listed x lists) ≡ true
    → (mem x listed ≡ false) × (ready_in_all listed x lists ≡ true)
not_listed lists listed x true is e = absurd cc
not_listed lists listed x false is e = (is, e)

pub admissible : (lists : List (List ClassId)) (listed : List ClassId) (x : ClassId) → ready lists listed x ≡ true
    → (m : List ClassId) × In m lists × In x m → Admissible lists listed x
admissible lists listed x e at =
    let (out, all) = not_listed lists listed x (mem x listed) refl e in
    record {
      fresh = not_mem x listed out;
      found = at;
      ready = λ m i. ready_sound listed x m (ready_all_sound listed x lists m all i);
    }

pub admissible_ready : (lists : List (List ClassId)) (listed : List ClassId) (x : ClassId) → Admissible lists listed x → ready lists listed x ≡ true
admissible_ready lists listed x a =
    let all = ready_all_complete listed x lists (λ m i. ready_complete listed x m (a.ready m i)) in
    elim (tells (mem x listed)) [ inl e ↦ absurd (a.fresh (mem_in x listed e)) | inr e ↦ rw e all ]

module _ (p : ClassId → Bool) where
  pub find_some : (xs : List ClassId) (x : ClassId) → find p xs ≡ Some x → In x xs × (p x ≡ true)
  find_some [] x e = absurd cc
  find_some (y ∷ xs) x e =
      elim (tells (p y)) [ inl t ↦ found y xs x t (rw t at e) | inr t ↦ let (i, q) = find_some xs x (rw t at e) in (next i, q) ]
    where
      found : (y : ClassId) (xs : List ClassId) (x : ClassId) → p y ≡ true → Some y ≡ Some x → In x (y ∷ xs) × (p x ≡ true)
      found y xs x t e = let s : y ≡ x = cc in (subst (λ (v : ClassId). In v (y ∷ xs)) s first, subst (λ (v : ClassId). p v ≡ true) s t)

  pub find_none : (xs : List ClassId) (x : ClassId) → find p xs ≡ None → In x xs → p x ≡ true → ⊥
  find_none [] x e i t = elim i [ ]
  find_none (y ∷ xs) x e first t = let s = rw t at e in cc
  find_none (y ∷ xs) x e (next i) t = elim (tells (p y)) [ inl u ↦ (let s = rw u at e in cc) | inr u ↦ find_none xs x (rw u at e) i t ]

pub all_in_sound : (m listed : List ClassId) (x : ClassId) → all_in m listed ≡ true → In x m → In x listed
all_in_sound [] listed x e i = elim i [ ]
all_in_sound (y ∷ m) listed x e first = mem_in y listed (both (mem y listed) (all_in m listed) e).0
all_in_sound (y ∷ m) listed x e (next i) = all_in_sound m listed x (both (mem y listed) (all_in m listed) e).1 i

pub all_in_complete : (m listed : List ClassId) → ((x : ClassId) → In x m → In x listed) → all_in m listed ≡ true
all_in_complete [] listed h = refl
all_in_complete (y ∷ m) listed h = rw (in_mem (h y first)) (all_in_complete m listed (λ x i. h x (next i)))

pub all_sound : (ms : List (List ClassId)) (listed m : List ClassId) (x : ClassId) → all_listed ms listed ≡ true → In m ms → In x m → In x listed
all_sound [] listed m x e i j = elim i [ ]
all_sound (k ∷ ms) listed m x e first j = all_in_sound k listed x (both (all_in k listed) (all_listed ms listed) e).0 j
all_sound (k ∷ ms) listed m x e (next i) j = all_sound ms listed m x (both (all_in k listed) (all_listed ms listed) e).1 i j

pub all_complete : (ms : List (List ClassId)) (listed : List ClassId) → ((m : List ClassId) → In m ms → (x : ClassId) → In x m → In x listed) → all_listed ms listed ≡ true
all_complete [] listed h = refl
all_complete (k ∷ ms) listed h = rw (all_in_complete k listed (h k first)) (all_complete ms listed (λ m i. h m (next i)))
