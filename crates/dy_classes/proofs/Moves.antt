-- One list moves, and then all have.
use Rattle.std.proofs.Common.{◌≡◌, ℕ, zero, suc, Bool, true, false, cond, ◌+◌, ◌<◌, ◌≤◌, List, [], ◌∷◌, ◌⊎◌, length, get_or, take, drop, set, refl, sym, ap, subst, ◌∙◌, inl, inr, arith, get_or-set_same, get_or-set_other, length-set, Vec}
use Rattle.std.specs.declared.alloc.Global.{Global}
use Rattle.dy_base.specs.declared.ids.ClassId.{ClassId}
use Rattle.dy_base.specs.Orders.{is_class}
use Rattle.dy_classes.proofs.Classes.{class_tells, class_itself, class_equal}
use Rattle.dy_classes.specs.Lists.{In, first, next}
use Rattle.dy_classes.specs.Counters.{past, tail, one_if, occurs, tails, advanced, Clean, Moving, Counted, count_at}
use Rattle.dy_classes.specs.Merge.{mem}
use Rattle.dy_classes.proofs.Decisions.{tells, mem_in}
use Rattle.std.proofs.lemmas.Bool.Decides.{eqb_tells}
use Rattle.dy_classes.proofs.Counters.{past_step, clean_step, ready_out}

pub in_lists : (ms : List (List ClassId)) (k : ℕ) → k < length ms → In (get_or ms k []) ms
in_lists [] k h = absurd (omega arith)
in_lists (m ∷ ms) zero h = first
in_lists (m ∷ ms) (suc k) h = next (in_lists ms k (omega arith))

tails_take : (listed : List ClassId) (y : ClassId) (ms : List (List ClassId)) (j : ℕ) → j < length ms
    → tails listed y (take (suc j) ms) ≡ tails listed y (take j ms) + occurs y (tail (past listed (get_or ms j [])))
tails_take listed y [] j h = absurd (omega arith)
tails_take listed y (m ∷ ms) zero h = omega arith
tails_take listed y (m ∷ ms) (suc j) h = let below = tails_take listed y ms j (omega arith) in omega arith

tails_drop : (listed : List ClassId) (y : ClassId) (ms : List (List ClassId)) (j : ℕ) → j < length ms
    → tails listed y (drop j ms) ≡ occurs y (tail (past listed (get_or ms j []))) + tails listed y (drop (suc j) ms)
tails_drop listed y [] j h = absurd (omega arith)
tails_drop listed y (m ∷ ms) zero h = refl
tails_drop listed y (m ∷ ms) (suc j) h = tails_drop listed y ms j (omega arith)

same_or : (x y : ℕ) → (x ≡ y) ⊎ (x ≡ y → ⊥)
same_or x y = elim (eqb_tells x y) [ inl p ↦ inl p.1 | inr p ↦ inr p.1 ]

module _ (lists : List (List ClassId)) (listed : List ClassId) (x : ClassId) where
  -- what the move of one list needs
  pub enough : (j : ℕ) (heads : List ℕ) (counts : List (Vec ℕ Global)) → Moving lists listed x j heads counts → j < length lists → (m : List ClassId) → m ≡ get_or lists j []
      → (y : ClassId) → occurs y (tail (drop (get_or heads j 0) m)) ≤ count_at counts y
  enough j heads counts s h m e y =
      let a = s.count y in
      let b = tails_drop listed y lists j h in
      let c : occurs y (tail (drop (get_or heads j 0) m)) ≡ occurs y (tail (past listed (get_or lists j []))) =
      ap (λ (v : List ClassId). occurs y (tail v)) (ap (drop (get_or heads j 0)) e ∙ s.still j (omega arith) h) in omega arith

  pub turn : (j : ℕ) (heads : List ℕ) (counts : List (Vec ℕ Global)) → Moving lists listed x j heads counts → j < length lists → (m : List ClassId) → m ≡ get_or lists j []
      → ((k : ℕ) → k < length lists → Clean listed (get_or lists k [])) → tails listed x lists ≡ 0
      → (place : ℕ) (counted : List (Vec ℕ Global)) → drop place m ≡ advanced x (drop (get_or heads j 0) m) → place ≤ length m
      → ((y : ClassId) → count_at counted y + occurs y (tail (drop (get_or heads j 0) m)) ≡ count_at counts y + occurs y (tail (advanced x (drop (get_or heads j 0) m))))
      → Moving lists listed x (suc j) (set heads j place) counted
  turn j heads counts s h m e clean none place counted moves inside change =
      let l = get_or lists j [] in
      let before : drop (get_or heads j 0) m ≡ past listed l = ap (drop (get_or heads j 0)) e ∙ s.still j (omega arith) h in
      let step : advanced x (past listed l) ≡ past (x ∷ listed) l = sym (past_step x listed l (clean j h) (ready_out listed x lists l none (in_lists lists j h))) in
      let at : j < length heads = (let p = s.places in omega arith) in
      let other : (k : ℕ) → (k ≡ j → ⊥) → get_or (set heads j place) k 0 ≡ get_or heads k 0 = λ k ne. get_or-set_other heads j k place 0 ne in
      record {
        places = length-set heads j place ∙ s.places;
        count = λ y.
            let a = s.count y in
            let b = tails_drop listed y lists j h in
            let c = tails_take (x ∷ listed) y lists j h in
            let d = change y in
            let f : occurs y (tail (drop (get_or heads j 0) m)) ≡ occurs y (tail (past listed l)) = ap (λ (v : List ClassId). occurs y (tail v)) before in
            let g : occurs y (tail (advanced x (drop (get_or heads j 0) m))) ≡ occurs y (tail (past (x ∷ listed) l)) = ap (λ (v : List ClassId). occurs y (tail v)) (ap (advanced x) before ∙ step) in
            omega arith;
        within = λ k lt. elim (same_or k j) [
          | inl q ↦ subst (λ (v : ℕ). get_or (set heads j place) v 0 ≤ length (get_or lists v [])) (sym q)
              (let size_m : length m ≡ length l = ap length e in let it = get_or-set_same heads j place 0 at in omega arith)
          | inr ne ↦ rw (other k ne) (s.within k lt)
        ];
        moved = λ k lt. elim (same_or k j) [
          | inl q ↦ subst (λ (v : ℕ). drop (get_or (set heads j place) v 0) (get_or lists v []) ≡ past (x ∷ listed) (get_or lists v [])) (sym q)
              (ap (λ (v : ℕ). drop v l) (get_or-set_same heads j place 0 at) ∙ ap (drop place) (sym e) ∙ moves ∙ ap (advanced x) before ∙ step)
          | inr ne ↦ rw (other k ne) (s.moved k (omega arith))
        ];
        still = λ k le lt. rw (other k (λ q. absurd (omega arith))) (s.still k (omega arith) lt);
      }

  none_moved : (y : ClassId) → tails (x ∷ listed) y (take 0 lists) + tails listed y (drop 0 lists) ≡ tails listed y lists
  none_moved y = omega arith

  pub begins : (heads : List ℕ) (counts : List (Vec ℕ Global)) → Counted lists listed heads counts → Moving lists listed x 0 heads counts
  begins heads counts s = record {
    places = s.places;
    count = λ y. (let a = s.count y in let b = none_moved y in omega arith);
    within = s.within;
    moved = λ k lt. absurd (omega arith);
    still = λ k le lt. s.lefts k lt;
  }

  all_moved : (ms : List (List ClassId)) (y : ClassId) → tails (x ∷ listed) y (take (length ms) ms) + tails listed y (drop (length ms) ms) ≡ tails (x ∷ listed) y ms
  all_moved [] y = refl
  all_moved (m ∷ ms) y = let below = all_moved ms y in omega arith

  one_more : (y : ClassId) → mem x listed ≡ false → one_if (is_class y x) + one_if (mem y listed) ≡ one_if (mem y (x ∷ listed))
  one_more y out =
      elim (class_tells y x) [
        | inl e ↦ (let f : mem y listed ≡ false = ap (λ (v : ClassId). mem v listed) e.1 ∙ out in rw (e.0, f) refl)
        | inr e ↦ rw e.0 (zero_first (one_if (mem y listed)))
      ]
    where
      zero_first : (n : ℕ) → 0 + n ≡ n
      zero_first n = omega arith

  -- x is ready: then all lists have moved, and x is marked
  pub finished : (heads : List ℕ) (counts marked : List (Vec ℕ Global)) → Moving lists listed x (length lists) heads counts → mem x listed ≡ false
      → ((k : ℕ) → k < length lists → Clean listed (get_or lists k [])) → tails listed x lists ≡ 0
      → ((y : ClassId) → count_at marked y ≡ one_if (is_class y x) + count_at counts y)
      → Counted lists (x ∷ listed) heads marked
  finished heads counts marked s out clean none more = record {
    places = s.places;
    count = λ y. (let a = s.count y in let b = all_moved lists y in let c = more y in let d = one_more y out in omega arith);
    within = s.within;
    lefts = λ k lt. s.moved k lt;
    clean = λ k lt. clean_step x listed (get_or lists k []) (clean k lt) (ready_out listed x lists (get_or lists k []) none (in_lists lists k lt));
  }

-- a class of which the count is 0 is in no tail and not listed
pub free_facts : (a : ℕ) (b : Bool) → a + one_if b ≡ 0 → (a ≡ 0) × (b ≡ false)
free_facts a true e = absurd (omega arith)
free_facts a false e = (omega arith, refl)
