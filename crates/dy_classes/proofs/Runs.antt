-- The merge gives the order exactly where there is one.
use Rattle.std.proofs.Common.{◌≡◌, ℕ, zero, suc, ◌+◌, ◌<◌, ◌≤◌, Bool, true, false, cond, List, [], ◌∷◌, length, Option, Some, None, inl, inr, refl, sym, ap, subst, ◌∙◌, arith}
use Rattle.dy_base.specs.declared.ids.ClassId.{ClassId}
use Rattle.dy_base.specs.Orders.{is_class}
use Rattle.dy_classes.proofs.Classes.{class_tells, class_itself, class_equal}
use Rattle.dy_classes.specs.Lists.{In, first, next, Before, now, later, Sub, done, keep, skip, Once}
use Rattle.dy_classes.specs.Orders.{Chosen}
use Rattle.dy_classes.specs.Merge.{mem, ready, next_of, run, onto, all_listed, merged, total}
use Rattle.dy_classes.proofs.Lists.{onto_in, in_onto, onto_once}
use Rattle.dy_classes.proofs.Decisions.{tells, mem_in, same_or, all_sound, all_complete}
use Rattle.dy_classes.proofs.Picks.{Shape, Known, pick_sound, pick_none, backed_up, later_not}

-- how many of a list are not listed
abbrev pub left : List ClassId → List ClassId → ℕ
left listed [] = 0
left listed (x ∷ xs) = cond (mem x listed) (left listed xs) (suc (left listed xs))

pub left_length : (listed xs : List ClassId) → left listed xs ≤ length xs
left_length listed [] = omega arith
left_length listed (x ∷ xs) =
    let below = left_length listed xs in
    elim (tells (mem x listed)) [ inl e ↦ rw e (omega arith) | inr e ↦ rw e (omega arith) ]

left_more : (listed : List ClassId) (y : ClassId) (xs : List ClassId) → left (y ∷ listed) xs ≤ left listed xs
left_more listed y [] = omega arith
left_more listed y (x ∷ xs) =
    let below = left_more listed y xs in
    elim (tells (mem x listed)) [
      | inl e ↦ rw e (elim (class_tells x y) [ inl f ↦ rw f.0 (omega arith) | inr f ↦ rw f.0 (omega arith) ])
      | inr e ↦ rw e (elim (class_tells x y) [ inl f ↦ rw f.0 (omega arith) | inr f ↦ rw f.0 (omega arith) ])
    ]

pub left_falls : (listed : List ClassId) (x : ClassId) (xs : List ClassId) → (In x listed → ⊥) → In x xs → left (x ∷ listed) xs < left listed xs
left_falls listed x [] out i = elim i [ ]
left_falls listed x (y ∷ xs) out first =
    let below = left_more listed y xs in
    elim (tells (mem y listed)) [ inl e ↦ absurd (out (mem_in y listed e)) | inr e ↦ rw (e, class_itself y) (omega arith) ]
left_falls listed x (y ∷ xs) out (next i) =
    let below = left_falls listed x xs out i in
    elim (tells (mem y listed)) [
      | inl e ↦ rw e (elim (class_tells y x) [ inl f ↦ rw f.0 (omega arith) | inr f ↦ rw f.0 (omega arith) ])
      | inr e ↦ rw e (elim (class_tells y x) [ inl f ↦ rw f.0 (omega arith) | inr f ↦ rw f.0 (omega arith) ])
    ]

-- how many places of the lists have a class that is not listed
abbrev left_all : List ClassId → List (List ClassId) → ℕ
left_all listed [] = 0
left_all listed (m ∷ ms) = left listed m + left_all listed ms

left_all_total : (listed : List ClassId) (ms : List (List ClassId)) → left_all listed ms ≤ total ms
left_all_total listed [] = omega arith
left_all_total listed (m ∷ ms) = let a = left_length listed m in let b = left_all_total listed ms in omega arith

left_all_more : (listed : List ClassId) (y : ClassId) (ms : List (List ClassId)) → left_all (y ∷ listed) ms ≤ left_all listed ms
left_all_more listed y [] = omega arith
left_all_more listed y (m ∷ ms) = let a = left_more listed y m in let b = left_all_more listed y ms in omega arith

left_all_falls : (listed : List ClassId) (x : ClassId) (ms : List (List ClassId)) (m : List ClassId) → (In x listed → ⊥) → In m ms → In x m
    → left_all (x ∷ listed) ms < left_all listed ms
left_all_falls listed x [] m out at i = elim at [ ]
left_all_falls listed x (k ∷ ms) m out first i =
    let a = left_falls listed x k out i in let b = left_all_more listed x ms in omega arith
left_all_falls listed x (k ∷ ms) m out (next at) i =
    let a = left_more listed x k in let b = left_all_falls listed x ms m out at i in omega arith

module _ (supers : ClassId → List ClassId) (lists : List (List ClassId)) where
  chosen_left : (rest listed : List ClassId) → Chosen supers lists listed rest → length rest ≤ left_all listed lists
  chosen_left [] listed c = omega arith
  chosen_left (x ∷ rest) listed c =
      let (m, at, i) = c.0.found in
      let falls = left_all_falls listed x lists m c.0.fresh at i in
      let below = chosen_left rest (x ∷ listed) c.2 in omega arith

  pub chosen_fits : (rest listed : List ClassId) → Chosen supers lists listed rest → length rest ≤ total lists
  chosen_fits rest listed c =
      let a = chosen_left rest listed c in
      let b = left_all_total listed lists in omega arith

  pub chosen_found : (rest listed : List ClassId) (x : ClassId) → Chosen supers lists listed rest → In x rest → (m : List ClassId) × In m lists × In x m
  chosen_found (y ∷ rest) listed x c first = c.0.found
  chosen_found (y ∷ rest) listed x c (next i) = chosen_found rest (y ∷ listed) x c.2 i
  chosen_found [] listed x c i = elim i [ ]

  pub chosen_once : (rest listed : List ClassId) → Once listed → Chosen supers lists listed rest → Once (onto listed rest)
  chosen_once [] listed o c = onto_once listed [] o tt (λ x i j. elim j [ ])
  chosen_once (x ∷ rest) listed o c = chosen_once rest (x ∷ listed) (c.0.fresh, o) c.2

  -- each list is kept
  pub chosen_sub : (m : List ClassId) → In m lists → (rest listed r : List ClassId) → ((z x : ClassId) → Before z x r → Before z x m)
      → ((x : ClassId) → In x r → In x listed → ⊥) → ((x : ClassId) → In x r → In x rest) → Chosen supers lists listed rest → Sub r rest
  chosen_sub m at rest listed [] inside free all c = done
  chosen_sub m at [] listed (h ∷ t) inside free all c = elim (all h first) [ ]
  chosen_sub m at (x ∷ rest) listed (h ∷ t) inside free all c =
      let blocked : In x t → ⊥ = λ i. free h first (c.0.ready m at h (inside h x (now i))) in
      elim (same_or x h) [
        | inl e ↦ subst (λ (v : ClassId). Sub (v ∷ t) (x ∷ rest)) e (keep (chosen_sub m at rest (x ∷ listed) t (λ z y b. inside z y (later b))
            (still x t listed blocked (λ y i. free y (next i))) (rest_of x t rest blocked (λ y i. all y (next i))) c.2))
        | inr differs ↦
            let out : In x (h ∷ t) → ⊥ = λ i. neither x h t differs blocked i in
            skip (chosen_sub m at rest (x ∷ listed) (h ∷ t) inside (still x (h ∷ t) listed out free) (rest_of x (h ∷ t) rest out all) c.2)
      ]
    where
      neither : (x h : ClassId) (t : List ClassId) → (x ≡ h → ⊥) → (In x t → ⊥) → In x (h ∷ t) → ⊥
      neither x h t differs out first = differs refl
      neither x h t differs out (next i) = out i

      still : (x : ClassId) (t listed : List ClassId) → (In x t → ⊥) → ((y : ClassId) → In y t → In y listed → ⊥) → (y : ClassId) → In y t → In y (x ∷ listed) → ⊥
      still x t listed out free y i first = out i
      still x t listed out free y i (next j) = free y i j

      past : (x : ClassId) (t rest : List ClassId) → (In x t → ⊥) → (y : ClassId) → In y t → In y (x ∷ rest) → In y rest
      past x t rest out y i first = absurd (out i)
      past x t rest out y i (next j) = j

      rest_of : (x : ClassId) (t rest : List ClassId) → (In x t → ⊥) → ((y : ClassId) → In y t → In y (x ∷ rest)) → (y : ClassId) → In y t → In y rest
      rest_of x t rest out all y i = past x t rest out y i (all y i)

module _ (supers : ClassId → List ClassId) (lists : List (List ClassId)) (c : ClassId) (shape : Shape supers lists c) where
  -- what a run leaves: it went on by admissible classes
  abbrev Goes : ℕ → List ClassId → Type 0
  Goes n listed = (rest : List ClassId) × (onto (run supers lists n listed) [] ≡ onto listed rest) × Chosen supers lists listed rest

  known_more : (listed : List ClassId) (x : ClassId) → Known supers lists c shape x → ((z : ClassId) → In z listed → Known supers lists c shape z)
      → (z : ClassId) → In z (x ∷ listed) → Known supers lists c shape z
  known_more listed x k known z first = k
  known_more listed x k known z (next i) = known z i

  goes_step : (n : ℕ) (listed : List ClassId) → ((z : ClassId) → In z listed → Known supers lists c shape z)
      → (o : Option ClassId) → next_of supers (ready lists listed) listed ≡ o
      → ((x : ClassId) → Known supers lists c shape x → Goes n (x ∷ listed))
      → (rest : List ClassId) × (onto (elim o as (λ _. List ClassId) [ Some x ↦ run supers lists n (x ∷ listed) | None ↦ listed ]) [] ≡ onto listed rest) × Chosen supers lists listed rest
  goes_step n listed known (Some x) is below =
      let (a, best) = pick_sound supers lists c shape listed listed x known is in
      let (rest, e, chosen) = below x (inr a.found) in
      (x ∷ rest, e, (a, best, chosen))
  goes_step n listed known None is below = ([], refl, tt)

  pub run_sound : (n : ℕ) (listed : List ClassId) → ((z : ClassId) → In z listed → Known supers lists c shape z) → Goes n listed
  run_sound zero listed known = ([], refl, tt)
  run_sound (suc n) listed known =
      goes_step n listed known (next_of supers (ready lists listed) listed) refl
      (λ x k. run_sound n (x ∷ listed) (known_more listed x k known))

  -- where the rest is chosen so, and has every class of the lists, the run takes just that
  complete_step : (n : ℕ) (listed : List ClassId) (x : ClassId) (rest : List ClassId) → In c listed → ((z : ClassId) → In z listed → Known supers lists c shape z)
      → Chosen supers lists listed (x ∷ rest)
      → (o : Option ClassId) → next_of supers (ready lists listed) listed ≡ o
      → (onto (run supers lists n (x ∷ listed)) [] ≡ onto listed (x ∷ rest))
      → onto (elim o as (λ _. List ClassId) [ Some y ↦ run supers lists n (y ∷ listed) | None ↦ listed ]) [] ≡ onto listed (x ∷ rest)
  complete_step n listed x rest base known chosen (Some y) is below =
      let (a, best) = pick_sound supers lists c shape listed listed y known is in
      elim (same_or y x) [
        | inl e ↦ subst (λ (v : ClassId). onto (run supers lists n (v ∷ listed)) [] ≡ onto listed (x ∷ rest)) (sym e) below
        | inr differs ↦ absurd (later_not supers listed x y (chosen.1 y a differs) (best x chosen.0 (λ e. differs (sym e))))
      ]
  complete_step n listed x rest base known chosen None is below =
      let (z, i, j) = backed_up supers lists c shape listed x base chosen.0 in
      absurd (pick_none supers lists c shape listed listed z x is i j chosen.0)

  ends : (n : ℕ) (listed : List ClassId) → ((z : ClassId) → In z listed → Known supers lists c shape z)
      → ((m : List ClassId) → In m lists → (x : ClassId) → In x m → In x listed)
      → (o : Option ClassId) → next_of supers (ready lists listed) listed ≡ o
      → onto (elim o as (λ _. List ClassId) [ Some y ↦ run supers lists n (y ∷ listed) | None ↦ listed ]) [] ≡ onto listed []
  ends n listed known all (Some y) is =
      let (a, best) = pick_sound supers lists c shape listed listed y known is in
      let (m, at, i) = a.found in absurd (a.fresh (all m at y i))
  ends n listed known all None is = refl

  just_listed : (listed : List ClassId) (x : ClassId) → In x (onto listed []) → In x listed
  just_listed listed x i = elim (onto_in listed [] x i) [ inl j ↦ j | inr j ↦ elim j [ ] ]

  pub run_complete : (rest listed : List ClassId) (n : ℕ) → length rest ≤ n → In c listed → ((z : ClassId) → In z listed → Known supers lists c shape z)
      → ((m : List ClassId) → In m lists → (x : ClassId) → In x m → In x (onto listed rest))
      → Chosen supers lists listed rest → onto (run supers lists n listed) [] ≡ onto listed rest
  run_complete [] listed zero fits base known all chosen = refl
  run_complete [] listed (suc n) fits base known all chosen =
      ends n listed known (λ m at x i. just_listed listed x (all m at x i)) (next_of supers (ready lists listed) listed) refl
  run_complete (x ∷ rest) listed zero fits base known all chosen = absurd (omega arith)
  run_complete (x ∷ rest) listed (suc n) fits base known all chosen =
      complete_step n listed x rest base known chosen (next_of supers (ready lists listed) listed) refl
      (run_complete rest (x ∷ listed) n (omega arith) (next base) (known_more listed x (inr chosen.0.found) known) all chosen.2)

  -- the order over the lists alone
  pub record Merged (l : List ClassId) : Type 0 where
    pub rest : List ClassId
    pub begins : l ≡ c ∷ rest
    pub all : (m : List ClassId) → In m lists → (x : ClassId) → In x m → In x l
    pub chosen : Chosen supers lists (c ∷ []) rest

  start_known : (z : ClassId) → In z (c ∷ []) → Known supers lists c shape z
  start_known z first = inl refl
  start_known z (next i) = elim i [ ]

  merged_step : (n : ℕ) (l : List ClassId) (b : Bool) → all_listed lists (run supers lists n (c ∷ [])) ≡ b
      → cond b (Some (onto (run supers lists n (c ∷ [])) [])) None ≡ Some l → Merged l
  merged_step n l true is e =
      let (rest, same, chosen) = run_sound n (c ∷ []) start_known in
      let whole : l ≡ c ∷ rest = cc in
      record {
        rest = rest;
        begins = whole;
        all = λ m at x i. subst (λ (v : List ClassId). In x v) (same ∙ sym whole) (in_onto (run supers lists n (c ∷ [])) [] x (inl (all_sound lists (run supers lists n (c ∷ [])) m x is at i)));
        chosen = chosen;
      }
  merged_step n l false is e = absurd cc

  pub merged_sound : (n : ℕ) (l : List ClassId) → merged supers lists n c ≡ Some l → Merged l
  merged_sound n l e = merged_step n l (all_listed lists (run supers lists n (c ∷ []))) refl e

  pub merged_complete : (n : ℕ) → total lists ≤ n → (l : List ClassId) → Merged l → merged supers lists n c ≡ Some l
  merged_complete n bound l o =
      let fits = chosen_fits supers lists o.rest (c ∷ []) o.chosen in
      let all_of : (m : List ClassId) → In m lists → (x : ClassId) → In x m → In x (c ∷ o.rest) = λ m at x i. subst (λ (v : List ClassId). In x v) o.begins (o.all m at x i) in
      let same = run_complete o.rest (c ∷ []) n (omega arith) first start_known all_of o.chosen in
      let listed_all = all_complete lists (run supers lists n (c ∷ [])) (λ m at x i. just_listed (run supers lists n (c ∷ [])) x (subst (λ (v : List ClassId). In x v) (sym same) (all_of m at x i))) in
      rw listed_all (ap Some (same ∙ sym o.begins))
