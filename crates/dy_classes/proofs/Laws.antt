-- The laws of the class order: at most one, computed where there is one, and kept by what lies below.
use Rattle.std.proofs.Common.{◌≡◌, ℕ, ◌≤◌, List, [], ◌∷◌, ◌⊎◌, Some, inl, inr, refl, sym, ap, subst, ◌∙◌}
use Rattle.dy_base.specs.declared.ids.ClassId.{ClassId}
use Rattle.dy_base.specs.Orders.{is_class}
use Rattle.dy_classes.proofs.Classes.{class_tells, class_itself, class_equal}
use Rattle.dy_classes.specs.Lists.{In, first, next, Before, now, Sub, skip, Once}
use Rattle.dy_classes.specs.Orders.{Above, itself, higher, lists_of, Chosen, Order, Stored, IsCyclic}
use Rattle.dy_classes.specs.Merge.{onto, merged, total}
use Rattle.dy_classes.proofs.Lists.{sub_self, sub_in, sub_before, sub_trans, in_map, in_mapped, onto_in, in_onto}
use Rattle.dy_classes.proofs.Decisions.{same_or}
use Rattle.dy_classes.proofs.Picks.{Shape, later_not}
use Rattle.dy_classes.proofs.Runs.{Merged, merged_sound, merged_complete, chosen_once, chosen_found, chosen_sub}

module _ (supers order : ClassId → List ClassId) where
  pub above_cases : (c x : ClassId) → Above supers c x → (x ≡ c) ⊎ ((s : ClassId) × In s (supers c) × Above supers s x)
  above_cases c x itself = inl refl
  above_cases c x (higher {s = s} i a) = inr (s, i, a)

  -- a class above another is it, or a direct superclass of one above it
  pub above_parent : (s x : ClassId) → Above supers s x → (x ≡ s) ⊎ ((z : ClassId) × Above supers s z × In x (supers z))
  above_parent s x itself = inl refl
  above_parent s x (higher {s = t} i a) =
      elim (above_parent t x a) [
        | inl e ↦ inr (s, itself, subst (λ (v : ClassId). In v (supers s)) (sym e) i)
        | inr p ↦ let (z, b, j) = p in inr (z, higher i b, j)
      ]

  -- the order of a superclass is a subsequence
  pub monotone : (s x : ClassId) → ((y : ClassId) → Above supers s y → Order supers order y (order y)) → Above supers s x → Sub (order x) (order s)
  monotone s x legal itself = sub_self (order s)
  monotone s x legal (higher {s = t} i a) =
      sub_trans (monotone t x (λ y b. legal y (higher i b)) a) ((legal s itself).above t i)

  -- two lists that go on from one
  goes_one : (lists : List (List ClassId)) (listed rest other : List ClassId) → Chosen supers lists listed rest → Chosen supers lists listed other
      → ((x : ClassId) → In x (onto listed rest) → In x (onto listed other)) → ((x : ClassId) → In x (onto listed other) → In x (onto listed rest)) → rest ≡ other
  goes_one lists listed [] [] a b there back = refl
  goes_one lists listed [] (y ∷ other) a b there back =
      elim (onto_in listed [] y (back y (in_onto listed (y ∷ other) y (inr first)))) [ inl i ↦ absurd (b.0.fresh i) | inr i ↦ elim i [ ] ]
  goes_one lists listed (x ∷ rest) [] a b there back =
      elim (onto_in listed [] x (there x (in_onto listed (x ∷ rest) x (inr first)))) [ inl i ↦ absurd (a.0.fresh i) | inr i ↦ elim i [ ] ]
  goes_one lists listed (x ∷ rest) (y ∷ other) a b there back =
      elim (same_or x y) [
        | inl e ↦ same_head x y rest other listed lists e a b there back (goes_one lists (x ∷ listed) rest other)
        | inr differs ↦ absurd (later_not supers listed x y (a.1 y b.0 (λ e. differs (sym e))) (b.1 x a.0 differs))
      ]
    where
      same_head : (x y : ClassId) (rest other listed : List ClassId) (lists : List (List ClassId)) → x ≡ y
          → Chosen supers lists listed (x ∷ rest) → Chosen supers lists listed (y ∷ other)
          → ((z : ClassId) → In z (onto listed (x ∷ rest)) → In z (onto listed (y ∷ other))) → ((z : ClassId) → In z (onto listed (y ∷ other)) → In z (onto listed (x ∷ rest)))
          → (Chosen supers lists (x ∷ listed) rest → Chosen supers lists (x ∷ listed) other
          → ((z : ClassId) → In z (onto (x ∷ listed) rest) → In z (onto (x ∷ listed) other)) → ((z : ClassId) → In z (onto (x ∷ listed) other) → In z (onto (x ∷ listed) rest)) → rest ≡ other)
          → x ∷ rest ≡ y ∷ other
      same_head x y rest other listed lists e a b there back below =
          let b2 = subst (λ (v : ClassId). Chosen supers lists listed (v ∷ other)) (sym e) b in
          let there2 = subst (λ (v : ClassId). (z : ClassId) → In z (onto listed (x ∷ rest)) → In z (onto listed (v ∷ other))) (sym e) there in
          let back2 = subst (λ (v : ClassId). (z : ClassId) → In z (onto listed (v ∷ other)) → In z (onto listed (x ∷ rest))) (sym e) back in
          let tails : rest ≡ other = below a.2 b2.2 there2 back2 in cc

  -- there is at most one order
  pub one_order : (c : ClassId) (l k : List ClassId) → Order supers order c l → Order supers order c k → l ≡ k
  one_order c l k a b =
      let moved : (p q : List ClassId) (o : Order supers order c p) (r : Order supers order c q) (x : ClassId) → In x (c ∷ o.rest) → In x (c ∷ r.rest) = λ p q o r x i.
      subst (λ (v : List ClassId). In x v) r.begins (r.all x (o.only x (subst (λ (v : List ClassId). In x v) (sym o.begins) i))) in
      let tails = goes_one (lists_of supers order c) (c ∷ []) a.rest b.rest a.chosen b.chosen (moved l k a b) (moved k l b a) in
      a.begins ∙ ap (λ (r : List ClassId). c ∷ r) tails ∙ sym b.begins

  module _ (c : ClassId) (alone : IsCyclic supers c → ⊥) (stored : Stored supers order c) where
    above_list : (m : List ClassId) (x : ClassId) → In m (lists_of supers order c) → In x m → Above supers c x
    above_list m x first i = higher i itself
    above_list m x (next j) i =
        let (s, at, e) = in_mapped (supers c) order m j in
        higher at ((stored.orders s s at itself).only x (subst (λ (v : List ClassId). In x v) e i))

    pub apart_list : (m : List ClassId) → In m (lists_of supers order c) → In c m → ⊥
    apart_list m first i = alone (c, i, itself)
    apart_list m (next j) i =
        let (s, at, e) = in_mapped (supers c) order m j in
        alone (s, at, (stored.orders s s at itself).only c (subst (λ (v : List ClassId). In c v) e i))

    held_list : (z : ClassId) (m : List ClassId) → In m (lists_of supers order c) → In z m → (k : List ClassId) × In k (lists_of supers order c) × Sub (supers z) k
    held_list z m first i = (order z, next (in_map order i), (stored.orders z z i itself).direct)
    held_list z m (next j) i =
        let (s, at, e) = in_mapped (supers c) order m j in
        let a = (stored.orders s s at itself).only z (subst (λ (v : List ClassId). In z v) e i) in
        (order s, next (in_map order at), sub_trans (stored.orders s z at a).direct (monotone s z (λ y b. stored.orders s y at b) a))

    held_at : (z : ClassId) → (z ≡ c) ⊎ ((m : List ClassId) × In m (lists_of supers order c) × In z m) → (k : List ClassId) × In k (lists_of supers order c) × Sub (supers z) k
    held_at z (inl e) = (supers c, first, subst (λ (v : ClassId). Sub (supers v) (supers c)) (sym e) (sub_self (supers c)))
    held_at z (inr w) = let (m, at, i) = w in held_list z m at i

    after_head : (z x : ClassId) (l rest : List ClassId) → l ≡ z ∷ rest → In x l → (x ≡ z → ⊥) → Before z x l
    after_head z x l rest e i differs =
        subst (λ (v : List ClassId). Before z x v) (sym e) (go z x rest (subst (λ (v : List ClassId). In x v) e i) differs)
      where
        go : (z x : ClassId) (rest : List ClassId) → In x (z ∷ rest) → (x ≡ z → ⊥) → Before z x (z ∷ rest)
        go z x rest first differs = absurd (differs refl)
        go z x rest (next i) differs = now i

    backed_list : (m : List ClassId) (x : ClassId) → In m (lists_of supers order c) → In x m
        → In x (supers c) ⊎ ((z : ClassId) × (k : List ClassId) × In x (supers z) × In k (lists_of supers order c) × Before z x k)
    backed_list m x first i = inl i
    backed_list m x (next j) i =
        let (s, at, e) = in_mapped (supers c) order m j in
        let a = (stored.orders s s at itself).only x (subst (λ (v : List ClassId). In x v) e i) in
        elim (above_parent s x a) [
          | inl f ↦ inl (subst (λ (v : ClassId). In v (supers c)) (sym f) at)
          | inr w ↦
              let (z, b, i) = w in
              let o = stored.orders s z at b in
              let before = after_head z x (order z) o.rest o.begins (sub_in o.direct i) (λ f. stored.acyclic s z at b (x, i, subst (λ (v : ClassId). Above supers x v) f itself)) in
              inr (z, order s, i, next (in_map order at), sub_before (monotone s z (λ y b. stored.orders s y at b) b) before)
        ]

    pub shape : Shape supers (lists_of supers order c) c
    shape = record { held = held_at; backed = backed_list; apart = apart_list }

    order_merged : (l : List ClassId) → Order supers order c l → Merged supers (lists_of supers order c) c shape l
    order_merged l o = record {
      rest = o.rest;
      begins = o.begins;
      all = λ m at x i. o.all x (above_list m x at i);
      chosen = o.chosen;
    }

    in_rest : (rest : List ClassId) (m : List ClassId) → In m (lists_of supers order c) → (x : ClassId) → In x m → In x (c ∷ rest) → In x rest
    in_rest rest m at x i first = absurd (apart_list m at i)
    in_rest rest m at x i (next j) = j

    not_first : (m : List ClassId) → In m (lists_of supers order c) → (x : ClassId) → In x m → In x (c ∷ []) → ⊥
    not_first m at x i first = apart_list m at i
    not_first m at x i (next j) = elim j [ ]

    only_in : (rest : List ClassId) → Chosen supers (lists_of supers order c) (c ∷ []) rest → (x : ClassId) → In x (c ∷ rest) → Above supers c x
    only_in rest chosen x first = itself
    only_in rest chosen x (next i) =
        let (m, at, j) = chosen_found supers (lists_of supers order c) rest (c ∷ []) x chosen i in above_list m x at j

    merged_order : (l : List ClassId) → Merged supers (lists_of supers order c) c shape l → Order supers order c l
    merged_order l o =
        let into : (x : ClassId) → In x l → In x (c ∷ o.rest) = λ x i. subst (λ (v : List ClassId). In x v) o.begins i in
        let keeps : (m : List ClassId) → In m (lists_of supers order c) → Sub m l = λ m at.
        subst (λ (v : List ClassId). Sub m v) (sym o.begins) (skip (chosen_sub supers (lists_of supers order c) m at o.rest (c ∷ []) m (λ z x b. b)
        (not_first m at) (λ x i. in_rest o.rest m at x i (into x (o.all m at x i))) o.chosen)) in
        record {
          rest = o.rest;
          begins = o.begins;
          once = subst (λ (v : List ClassId). Once v) (sym o.begins) (chosen_once supers (lists_of supers order c) o.rest (c ∷ []) (λ i. elim i [ ], tt) o.chosen);
          only = λ x i. only_in o.rest o.chosen x (into x i);
          all = λ x a. elim (above_cases c x a) [
            | inl e ↦ subst (λ (v : List ClassId). In x v) (sym o.begins) (subst (λ (v : ClassId). In x (v ∷ o.rest)) e first)
            | inr w ↦ let (s, at, b) = w in o.all (order s) (next (in_map order at)) x ((stored.orders s s at itself).all x b)
          ];
          above = λ s i. keeps (order s) (next (in_map order i));
          direct = keeps (supers c) first;
          chosen = o.chosen;
        }

    -- the merge gives the order exactly where there is one
    pub merge_sound : (n : ℕ) (l : List ClassId) → merged supers (lists_of supers order c) n c ≡ Some l → Order supers order c l
    merge_sound n l e = merged_order l (merged_sound supers (lists_of supers order c) c shape n l e)

    pub merge_complete : (n : ℕ) → total (lists_of supers order c) ≤ n → (l : List ClassId) → Order supers order c l → merged supers (lists_of supers order c) n c ≡ Some l
    merge_complete n bound l o = merged_complete supers (lists_of supers order c) c shape n bound l (order_merged l o)
