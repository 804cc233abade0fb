-- What each visit keeps of an order.
use Rattle.std.proofs.Common.{◌≡◌, ◌⊎◌, ℕ, zero, suc, ◌<◌, ◌≤◌, Bool, true, false, cond, List, [], ◌∷◌, ◌++◌, fold, refl, sym, subst, inl, inr, arith}
use Rattle.std.proofs.lemmas.Bool.{false_from_ne_true}
use Rattle.dy_load_order.specs.LoadOrder.{AreEarlier, used_by, is_in, visited}
use Rattle.dy_load_order.proofs.Members.{in_head, in_tail, in_cases, in_more, in_end, in_parts}
use Rattle.dy_load_order.proofs.Visiting.{used_earlier}

-- ---- what is in an order stays there

fold_keeps : (f : List ℕ → ℕ → List ℕ) → ((n : ℕ) (order : List ℕ) (x : ℕ) → is_in order x ≡ true → is_in (f order n) x ≡ true)
    → (ns order : List ℕ) (x : ℕ) → is_in order x ≡ true → is_in (fold f order ns) x ≡ true
fold_keeps f keep [] order x i = i
fold_keeps f keep (n ∷ ns) order x i = fold_keeps f keep ns (f order n) x (keep n order x i)

keeps : (uses : List (List ℕ)) (k n : ℕ) (order : List ℕ) (x : ℕ) → is_in order x ≡ true → is_in (visited k uses order n) x ≡ true
keeps uses zero n order x i = i
keeps uses (suc k) n order x i = go (fold_keeps (visited k uses) (keeps uses k) (used_by uses n) order x i) (is_in order n)
  where
    go : is_in (fold (visited k uses) order (used_by uses n)) x ≡ true → (t : Bool) → is_in (cond t order (fold (visited k uses) order (used_by uses n) ++ n ∷ [])) x ≡ true
    go used true = i
    go used false = in_more (fold (visited k uses) order (used_by uses n)) (n ∷ []) x used

-- ---- what is visited is there

pub has : (uses : List (List ℕ)) (k n : ℕ) (order : List ℕ) → n < k → is_in (visited k uses order n) n ≡ true
has uses zero n order l = absurd (omega arith)
has uses (suc k) n order l = go (is_in order n) refl
  where
    go : (t : Bool) → is_in order n ≡ t → is_in (cond t order (fold (visited k uses) order (used_by uses n) ++ n ∷ [])) n ≡ true
    go true i = i
    go false i = in_end (fold (visited k uses) order (used_by uses n)) n

fold_has : (uses : List (List ℕ)) (k : ℕ) (ns order : List ℕ) → ((n : ℕ) → is_in ns n ≡ true → n < k) → (u : ℕ) → is_in ns u ≡ true → is_in (fold (visited k uses) order ns) u ≡ true
fold_has uses k [] order less u i = absurd cc
fold_has uses k (n ∷ ns) order less u i = go (fold_has uses k ns (visited k uses order n) (λ m h. less m (in_tail n ns m h)) u) (in_cases n ns u i)
  where
    go : (is_in ns u ≡ true → is_in (fold (visited k uses) (visited k uses order n) ns) u ≡ true) → (u ≡ n) ⊎ (is_in ns u ≡ true) → is_in (fold (visited k uses) (visited k uses order n) ns) u ≡ true
    go later (inl e) = fold_keeps (visited k uses) (keeps uses k) ns (visited k uses order n) u (subst (λ m. is_in (visited k uses order n) m ≡ true) (sym e) (has uses k n order (less n (in_head n ns))))
    go later (inr j) = later j

-- ---- nothing else is new but smaller numbers

fold_only : (f : List ℕ → ℕ → List ℕ) (bound : ℕ) → ((n : ℕ) (order : List ℕ) (x : ℕ) → n < bound → is_in (f order n) x ≡ true → (x ≤ n) ⊎ (is_in order x ≡ true))
    → (ns : List ℕ) → ((n : ℕ) → is_in ns n ≡ true → n < bound) → (order : List ℕ) (x : ℕ) → is_in (fold f order ns) x ≡ true → (x < bound) ⊎ (is_in order x ≡ true)
fold_only f bound one [] less order x i = inr i
fold_only f bound one (n ∷ ns) less order x i = go (fold_only f bound one ns (λ m h. less m (in_tail n ns m h)) (f order n) x i)
  where
    first : n < bound → (x ≤ n) ⊎ (is_in order x ≡ true) → (x < bound) ⊎ (is_in order x ≡ true)
    first l (inl m) = inl (omega arith)
    first l (inr j) = inr j

    go : (x < bound) ⊎ (is_in (f order n) x ≡ true) → (x < bound) ⊎ (is_in order x ≡ true)
    go (inl l) = inl l
    go (inr j) = let l = less n (in_head n ns) in first l (one n order x l j)

pub only : (uses : List (List ℕ)) → AreEarlier uses → (k n : ℕ) (order : List ℕ) (x : ℕ) → n < k → is_in (visited k uses order n) x ≡ true → (x ≤ n) ⊎ (is_in order x ≡ true)
only uses earlier zero n order x l i = absurd (omega arith)
only uses earlier (suc k) n order x l i =
    go (fold_only (visited k uses) n (λ m before y h. only uses earlier k m before y (omega arith)) (used_by uses n) (used_earlier uses earlier n) order x) (is_in order n) i
  where
    used : (x < n) ⊎ (is_in order x ≡ true) → (x ≤ n) ⊎ (is_in order x ≡ true)
    used (inl m) = inl (omega arith)
    used (inr j) = inr j

    placed : (is_in (fold (visited k uses) order (used_by uses n)) x ≡ true → (x < n) ⊎ (is_in order x ≡ true)) → (is_in (fold (visited k uses) order (used_by uses n)) x ≡ true) ⊎ (x ≡ n) → (x ≤ n) ⊎ (is_in order x ≡ true)
    placed from (inl j) = used (from j)
    placed from (inr e) = inl (omega arith)

    go : (is_in (fold (visited k uses) order (used_by uses n)) x ≡ true → (x < n) ⊎ (is_in order x ≡ true)) → (t : Bool) → is_in (cond t order (fold (visited k uses) order (used_by uses n) ++ n ∷ [])) x ≡ true → (x ≤ n) ⊎ (is_in order x ≡ true)
    go from true j = inr j
    go from false j = placed from (in_parts (fold (visited k uses) order (used_by uses n)) n x j)

-- ---- what each library keeps that is put behind all that it uses, where it is not there, each visit keeps

module _ (uses : List (List ℕ)) (earlier : AreEarlier uses) (P : List ℕ → Type 0) (Q : ℕ → Type 0)
    (closed : (n u : ℕ) → Q n → is_in (used_by uses n) u ≡ true → Q u)
    (step : (order : List ℕ) (n : ℕ) → P order → Q n → is_in order n ≡ false → ((u : ℕ) → is_in (used_by uses n) u ≡ true → is_in order u ≡ true) → P (order ++ n ∷ [])) where
  pub fold_walk : (k : ℕ) → ((n : ℕ) (order : List ℕ) → n < k → Q n → P order → P (visited k uses order n))
      → (ns : List ℕ) → ((n : ℕ) → is_in ns n ≡ true → (n < k) × Q n) → (order : List ℕ) → P order → P (fold (visited k uses) order ns)
  fold_walk k one [] fit order p = p
  fold_walk k one (n ∷ ns) fit order p =
      let (less, q) = fit n (in_head n ns) in
      fold_walk k one ns (λ m i. fit m (in_tail n ns m i)) (visited k uses order n) (one n order less q p)

  pub walk : (k n : ℕ) (order : List ℕ) → n < k → Q n → P order → P (visited k uses order n)
  walk zero n order l q p = absurd (omega arith)
  walk (suc k) n order l q p =
      go (fold_walk k (walk k) (used_by uses n) (λ u j. (let m : u < n = used_earlier uses earlier n u j in omega arith, closed n u q j)) order p) (is_in order n) refl
    where
      less : (u : ℕ) → is_in (used_by uses n) u ≡ true → u < k
      less u i = let m : u < n = used_earlier uses earlier n u i in omega arith

      there : is_in order n ≡ false → (n < n) ⊎ (is_in order n ≡ true) → ⊥
      there new (inl m) = omega arith
      there new (inr j) = absurd cc

      go : P (fold (visited k uses) order (used_by uses n)) → (t : Bool) → is_in order n ≡ t → P (cond t order (fold (visited k uses) order (used_by uses n) ++ n ∷ []))
      go all true i = p
      go all false i =
          step (fold (visited k uses) order (used_by uses n)) n all q
          (false_from_ne_true _ (λ j. there i (fold_only (visited k uses) n (λ m first y h. only uses earlier k m first y (omega arith)) (used_by uses n) (used_earlier uses earlier n) order n j)))
          (fold_has uses k (used_by uses n) order less)
