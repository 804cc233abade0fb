-- A merge that counts: a class is ready where it is not listed and is in no tail of what is left of a list.
use Rattle.std.proofs.Common.{◌≡◌, ℕ, zero, suc, ◌+◌, ◌-◌, ◌<◌, ◌≤◌, Bool, true, false, cond, not, List, [], ◌∷◌, nat_eq, length, get_or, drop, map, add-one, inl, inr, refl, sym, ap, subst, ◌∙◌, arith}
use Rattle.std.proofs.lemmas.Bool.{eq-eqb}
use Rattle.std.proofs.lemmas.Bool.Decides.{eqb_tells}
use Rattle.std.proofs.lemmas.List.{length-map, drop_more}
use Rattle.dy_base.specs.declared.ids.ClassId.{ClassId}
use Rattle.dy_base.specs.Orders.{is_class}
use Rattle.dy_classes.specs.Lists.{In, first, next}
use Rattle.dy_classes.specs.Orders.{lists_of}
use Rattle.dy_classes.specs.Counters.{past, tail, one_if, occurs, tails, advanced, Clean}
use Rattle.dy_classes.specs.Merge.{mem, ready_in, ready_in_all, ready, all_in}
use Rattle.dy_classes.proofs.Classes.{class_tells, class_itself, class_equal}
use Rattle.dy_classes.proofs.Decisions.{tells, in_mem, mem_in}

not_zero : (n : ℕ) → nat_eq (1 + n) 0 ≡ false
not_zero n = elim (eqb_tells (1 + n) 0) [ inl e ↦ (let f = e.1 in absurd (omega arith)) | inr e ↦ e.0 ]

occurs_none : (x : ClassId) (m : List ClassId) → nat_eq (occurs x m) 0 ≡ not (mem x m)
occurs_none x [] = refl
occurs_none x (y ∷ m) =
    elim (class_tells x y) [
      | inl e ↦ rw e.0 (not_zero (occurs x m))
      | inr e ↦ rw e.0 (ap (λ (n : ℕ). nat_eq n 0) (zero_first (occurs x m)) ∙ occurs_none x m)
    ]
  where
    zero_first : (n : ℕ) → 0 + n ≡ n
    zero_first n = omega arith

ready_in_tail : (listed : List ClassId) (x : ClassId) (m : List ClassId) → ready_in listed x m ≡ not (mem x (tail (past listed m)))
ready_in_tail listed x [] = refl
ready_in_tail listed x (z ∷ m) = elim (tells (mem z listed)) [ inl e ↦ rw e (ready_in_tail listed x m) | inr e ↦ rw e refl ]

sum_zero : (a b : ℕ) → nat_eq (a + b) 0 ≡ cond (nat_eq a 0) (nat_eq b 0) false
sum_zero a b =
    elim (eqb_tells a 0) [
      | inl e ↦ rw e.0 (ap (λ (n : ℕ). nat_eq n 0) (let f = e.1 in let g : a + b ≡ b = omega arith in g))
      | inr e ↦ rw e.0 (elim (eqb_tells (a + b) 0) [ inl f ↦ (let g = f.1 in absurd (e.1 (omega arith))) | inr f ↦ f.0 ])
    ]

ready_all_tails : (listed : List ClassId) (x : ClassId) (ms : List (List ClassId)) → ready_in_all listed x ms ≡ nat_eq (tails listed x ms) 0
ready_all_tails listed x [] = refl
ready_all_tails listed x (m ∷ ms) =
    let a : ready_in listed x m ≡ nat_eq (occurs x (tail (past listed m))) 0 = ready_in_tail listed x m ∙ sym (occurs_none x (tail (past listed m))) in
    rw (a, ready_all_tails listed x ms) (sym (sum_zero (occurs x (tail (past listed m))) (tails listed x ms)))

-- the test by a count
pub ready_counts : (lists : List (List ClassId)) (listed : List ClassId) (x : ClassId) → ready lists listed x ≡ nat_eq (tails listed x lists + one_if (mem x listed)) 0
ready_counts lists listed x =
    elim (tells (mem x listed)) [ inl e ↦ rw e (sym (one_more (tails listed x lists))) | inr e ↦ rw e (ready_all_tails listed x lists ∙ ap (λ (n : ℕ). nat_eq n 0) (sym (none_more (tails listed x lists)))) ]
  where
    one_more : (n : ℕ) → nat_eq (n + 1) 0 ≡ false
    one_more n = elim (eqb_tells (n + 1) 0) [ inl e ↦ (let f = e.1 in absurd (omega arith)) | inr e ↦ e.0 ]

    none_more : (n : ℕ) → n + 0 ≡ n
    none_more n = omega arith

-- r has nothing that is listed: then nothing of it is passed over
past_clean : (listed r : List ClassId) → ((y : ClassId) → In y r → In y listed → ⊥) → past listed r ≡ r
past_clean listed [] clean = refl
past_clean listed (y ∷ r) clean = elim (tells (mem y listed)) [ inl e ↦ absurd (clean y first (mem_in y listed e)) | inr e ↦ rw e refl ]

past_more : (x : ClassId) (listed m : List ClassId) → past (x ∷ listed) m ≡ past (x ∷ listed) (past listed m)
past_more x listed [] = refl
past_more x listed (z ∷ m) =
    let below = past_more x listed m in
    elim (tells (mem z listed)) [
      | inl e ↦ rw e (elim (class_tells z x) [ inl f ↦ rw f.0 below | inr f ↦ rw f.0 below ])
      | inr e ↦ rw e (elim (class_tells z x) [ inl f ↦ rw f.0 refl | inr f ↦ rw (f.0, e) refl ])
    ]

-- of what is left, nothing is listed and x is no later than first: then a step moves a head that is x, and no other
step_moves : (x : ClassId) (listed r : List ClassId) → ((y : ClassId) → In y r → In y listed → ⊥) → (In x (tail r) → ⊥) → past (x ∷ listed) r ≡ advanced x r
step_moves x listed [] clean out = refl
step_moves x listed (h ∷ t) clean out =
    elim (class_tells h x) [
      | inl e ↦ rw (e.0, class_equal x h (sym e.1)) (past_clean (x ∷ listed) t (apart_from x t listed out (λ y i. clean y (next i))))
      | inr e ↦ rw (e.0, not_equal x h (λ f. e.1 (sym f))) (elim (tells (mem h listed)) [ inl f ↦ absurd (clean h first (mem_in h listed f)) | inr f ↦ rw f refl ])
    ]
  where
    not_equal : (x h : ClassId) → (x ≡ h → ⊥) → is_class x h ≡ false
    not_equal x h differs = elim (class_tells x h) [ inl e ↦ absurd (differs e.1) | inr e ↦ e.0 ]

    apart_from : (x : ClassId) (t listed : List ClassId) → (In x t → ⊥) → ((y : ClassId) → In y t → In y listed → ⊥) → (y : ClassId) → In y t → In y (x ∷ listed) → ⊥
    apart_from x t listed out clean y i first = out i
    apart_from x t listed out clean y i (next j) = clean y i j

pub past_step : (x : ClassId) (listed m : List ClassId) → Clean listed m → (In x (tail (past listed m)) → ⊥) → past (x ∷ listed) m ≡ advanced x (past listed m)
past_step x listed m clean out = past_more x listed m ∙ step_moves x listed (past listed m) clean out

advanced_clean : (x : ClassId) (listed r : List ClassId) → ((y : ClassId) → In y r → In y listed → ⊥) → (In x (tail r) → ⊥) → (y : ClassId) → In y (advanced x r) → In y (x ∷ listed) → ⊥
advanced_clean x listed [] clean out y i j = elim i [ ]
advanced_clean x listed (h ∷ t) clean out y i j =
    elim (class_tells x h) [
      | inl e ↦ moved x listed t out (λ y i. clean y (next i)) y (rw e.0 at i) j
      | inr e ↦ kept x h listed t e.1 out clean y (rw e.0 at i) j
    ]
  where
    moved : (x : ClassId) (listed t : List ClassId) → (In x t → ⊥) → ((y : ClassId) → In y t → In y listed → ⊥) → (y : ClassId) → In y t → In y (x ∷ listed) → ⊥
    moved x listed t out clean y i first = out i
    moved x listed t out clean y i (next j) = clean y i j

    in_head : (x h : ClassId) (t : List ClassId) → (x ≡ h → ⊥) → (In x t → ⊥) → In x (h ∷ t) → ⊥
    in_head x h t differs out first = differs refl
    in_head x h t differs out (next i) = out i

    kept : (x h : ClassId) (listed t : List ClassId) → (x ≡ h → ⊥) → (In x t → ⊥) → ((y : ClassId) → In y (h ∷ t) → In y listed → ⊥) → (y : ClassId) → In y (h ∷ t) → In y (x ∷ listed) → ⊥
    kept x h listed t differs out clean y i first = in_head x h t differs out i
    kept x h listed t differs out clean y i (next j) = clean y i j

pub clean_step : (x : ClassId) (listed m : List ClassId) → Clean listed m → (In x (tail (past listed m)) → ⊥) → Clean (x ∷ listed) m
clean_step x listed m clean out y i j =
    advanced_clean x listed (past listed m) clean out y (subst (λ (v : List ClassId). In y v) (past_step x listed m clean out) i) j

-- a ready class stands in no tail
pub ready_out : (listed : List ClassId) (x : ClassId) (ms : List (List ClassId)) (m : List ClassId) → tails listed x ms ≡ 0 → In m ms → In x (tail (past listed m)) → ⊥
ready_out listed x [] m e i j = elim i [ ]
ready_out listed x (k ∷ ms) m e first j =
    let z : occurs x (tail (past listed k)) ≡ 0 = omega arith in
    differ (occurs x (tail (past listed k))) (mem x (tail (past listed k))) z (in_mem j) (occurs_none x (tail (past listed k)))
  where
    differ : (n : ℕ) (b : Bool) → n ≡ 0 → b ≡ true → nat_eq n 0 ≡ not b → ⊥
    differ n b z t e = let f = eq-eqb n 0 z in let g : not b ≡ false = ap not t in cc
ready_out listed x (k ∷ ms) m e (next i) j = ready_out listed x ms m (omega arith) i j

tail_drop : (m : List ClassId) (h : ℕ) → tail (drop h m) ≡ drop (h + 1) m
tail_drop [] zero = refl
tail_drop [] (suc h) = rw add-one refl
tail_drop (y ∷ m) zero = refl
tail_drop (y ∷ m) (suc h) = tail_drop m h ∙ ap (λ (k : ℕ). drop k (y ∷ m)) (let e : suc (h + 1) ≡ suc h + 1 = omega arith in e)

-- the next head is counted
pub occurs_next : (m : List ClassId) (h : ℕ) (d : ClassId) → h + 1 < length m → 1 ≤ occurs (get_or m (h + 1) d) (tail (drop h m))
occurs_next m h d lt =
    rw (tail_drop m h, drop_more m (h + 1) d lt) (rw (class_itself (get_or m (h + 1) d)) (omega arith))

-- what is left of a list whose first class is x
pub head_moves : (m : List ClassId) (h : ℕ) (x d : ClassId) → h < length m → x ≡ get_or m h d → drop (h + 1) m ≡ advanced x (drop h m)
head_moves m h x d lt e = rw (drop_more m h d lt, class_equal x (get_or m h d) e) refl

pub head_stays : (m : List ClassId) (h : ℕ) (x d : ClassId) → h < length m → (x ≡ get_or m h d → ⊥) → drop h m ≡ advanced x (drop h m)
head_stays m h x d lt differs =
    elim (class_tells x (get_or m h d)) [ inl e ↦ absurd (differs e.1) | inr e ↦ rw (drop_more m h d lt, e.0) refl ]

-- the new first is taken off
pub counts_move : (m : List ClassId) (h : ℕ) (x d y : ClassId) → h + 1 < length m → x ≡ get_or m h d
    → occurs y (tail (drop h m)) ≡ one_if (is_class y (get_or m (h + 1) d)) + occurs y (tail (advanced x (drop h m)))
counts_move m h x d y lt e =
    rw (← head_moves m h x d (omega arith) e, tail_drop m h, drop_more m (h + 1) d lt) refl

pub counts_end : (m : List ClassId) (h : ℕ) (x d y : ClassId) → h + 1 ≡ length m → x ≡ get_or m h d
    → occurs y (tail (drop h m)) ≡ occurs y (tail (advanced x (drop h m)))
counts_end m h x d y lt e =
    let a : drop (h + 1) m ≡ [] = all_dropped m (h + 1) (omega arith) in
    rw (← head_moves m h x d (omega arith) e, tail_drop m h, a) refl
  where
    all_dropped : (m : List ClassId) (n : ℕ) → length m ≤ n → drop n m ≡ []
    all_dropped [] zero le = refl
    all_dropped [] (suc n) le = refl
    all_dropped (y ∷ m) zero le = absurd (omega arith)
    all_dropped (y ∷ m) (suc n) le = all_dropped m n (omega arith)

pub map_at : (f : ClassId → List ClassId) (xs : List ClassId) (j : ℕ) (d : ClassId) → j < length xs → get_or (map f xs) j [] ≡ f (get_or xs j d)
map_at f [] j d h = absurd (omega arith)
map_at f (x ∷ xs) zero d h = refl
map_at f (x ∷ xs) (suc j) d h = map_at f xs j d (omega arith)

pub list_place : (supers order : ClassId → List ClassId) (c : ClassId) (j : ℕ) (m : List ClassId) (d : ClassId) → m ≡ supers c → (j ≡ 0 → ⊥) → j < length (lists_of supers order c)
    → (j - 1 < length m) × (get_or (lists_of supers order c) j [] ≡ order (get_or m (j - 1) d))
list_place supers order c zero m d e nonzero h = absurd (nonzero refl)
list_place supers order c (suc j) m d e nonzero h =
    let n : j < length (supers c) = simp length-map at (let g : j < length (map order (supers c)) = omega arith in g) in
    let k : suc j - 1 ≡ j = omega arith in
    rw (k, e) (n, map_at order (supers c) j d n)

-- nothing is left of a list exactly where all of it is listed
pub left_none : (listed m : List ClassId) → all_in m listed ≡ nat_eq (length (past listed m)) 0
left_none listed [] = refl
left_none listed (y ∷ m) = elim (tells (mem y listed)) [ inl e ↦ rw e (left_none listed m) | inr e ↦ rw e (sym (suc_not_zero (length m))) ]
  where
    suc_not_zero : (n : ℕ) → nat_eq (suc n) 0 ≡ false
    suc_not_zero n = elim (eqb_tells (suc n) 0) [ inl e ↦ (let f = e.1 in absurd (omega arith)) | inr e ↦ e.0 ]

-- how often x stands behind the first of the lists
abbrev pub behind : ClassId → List (List ClassId) → ℕ
behind x [] = 0
behind x (m ∷ ms) = occurs x (tail m) + behind x ms

-- at the start nothing is listed
pub past_nothing : (m : List ClassId) → past [] m ≡ m
past_nothing [] = refl
past_nothing (y ∷ m) = refl

pub clean_nothing : (m : List ClassId) → Clean [] m
clean_nothing m y i j = elim j [ ]

pub tails_nothing : (y : ClassId) (ms : List (List ClassId)) → tails [] y ms ≡ behind y ms
tails_nothing y [] = refl
tails_nothing y (m ∷ ms) = rw (past_nothing m, tails_nothing y ms) refl
