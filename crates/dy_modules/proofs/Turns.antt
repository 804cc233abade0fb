-- A round over the modules that are left, and its end.
use Rattle.std.proofs.Common.{◌≡◌, ◌⊎◌, inl, inr, ℕ, zero, suc, ◌+◌, ◌<◌, true, true≢false, List, [], ◌∷◌, ◌++◌, length, drop, Option, Some, None, slice_get, get_or, ◌↔◌, replicate, refl, sym, ap, subst, ◌∙◌, arith, rules, drop-cons, length-append}
use Rattle.dy_modules.specs.declared.rounds.ModuleTables.{ModuleTables}
use Rattle.dy_modules.specs.declared.clause.ModuleForm.{ModuleForm}
use Rattle.dy_modules.specs.Clauses.{IsIn}
use Rattle.dy_modules.specs.Sees.{IsGrounded, grounded}
use Rattle.dy_modules.proofs.Ins.{IsIn-append, IsIn-left, IsIn-right}
use Rattle.std.proofs.lemmas.Option.{slice_get_within}
use Rattle.dy_modules.proofs.Loop.{is_or_not}
use Rattle.dy_modules.proofs.Rows.{some_is, none_is}
use Rattle.dy_modules.specs.Order.{is_made, AreRight, IsStuck, Makes, Turns}

module _ (ms : List ModuleForm) (todo : List ℕ) (m i : ℕ) (rest : List ℕ) (old new : List (Option ModuleTables)) (left : List ℕ) where
  pub turn_made : Turns ms todo (m ∷ rest) i old new left → (next : List (Option ModuleTables)) → Makes ms m new next → Turns ms todo rest (i + 1) old next left
  turn_made t next made = record {
    right = made.right;
    stays = λ s e. made.stays s (t.stays s e);
    each = each;
    from = t.from;
    few = omega (arith, t.few);
    stuck = λ e. absurd (omega (arith, e, t.few));
  }
    where
      each : (k : ℕ) → IsIn k todo → (is_made (slice_get next k) ≡ true) ⊎ (IsIn k left ⊎ IsIn k rest)
      each k at = elim (t.each k at) [
        | inl a ↦ inl (made.stays k a)
        | inr (inl a) ↦ inr (inl a)
        | inr (inr (inl e)) ↦ inl (ap (λ x. is_made (slice_get next x)) e ∙ made.made)
        | inr (inr (inr a)) ↦ inr (inr a)
      ]

  pub turn_left : Turns ms todo (m ∷ rest) i old new left → IsIn m todo → IsStuck ms new m → Turns ms todo rest (i + 1) old new (left ++ m ∷ [])
  turn_left t is stuck = record {
    right = t.right;
    stays = t.stays;
    each = each;
    from = from;
    few = let e = length-append left (m ∷ []) in omega (arith, t.few, e);
    stuck = λ e. let l = length-append left (m ∷ []) in all_stuck (omega (arith, e, l));
  }
    where
      each : (k : ℕ) → IsIn k todo → (is_made (slice_get new k) ≡ true) ⊎ (IsIn k (left ++ m ∷ []) ⊎ IsIn k rest)
      each k at = elim (t.each k at) [
        | inl a ↦ inl a
        | inr (inl a) ↦ inr (inl (IsIn-left left (m ∷ []) k a))
        | inr (inr (inl e)) ↦ inr (inl (IsIn-right left (m ∷ []) k (inl e)))
        | inr (inr (inr a)) ↦ inr (inr a)
      ]

      from : (k : ℕ) → IsIn k (left ++ m ∷ []) → IsIn k todo
      from k at = elim (IsIn-append left (m ∷ []) k at) [ inl a ↦ t.from k a | inr (inl e) ↦ subst (λ x. IsIn x todo) (sym e) is | inr (inr a) ↦ absurd a ]

      all_stuck : length left ≡ i → (k : ℕ) → IsIn k (left ++ m ∷ []) → IsStuck ms new k
      all_stuck e k at = elim (IsIn-append left (m ∷ []) k at) [ inl a ↦ t.stuck e k a | inr (inl p) ↦ subst (IsStuck ms new) (sym p) stuck | inr (inr a) ↦ absurd a ]

-- each module is made or to do
abbrev pub AllSeen : List ModuleForm → List ℕ → List (Option ModuleTables) → Type 0
AllSeen ms todo done = (m : ℕ) → m < length ms → (is_made (slice_get done m) ≡ true) ⊎ IsIn m todo

pub seen_after : (ms : List ModuleForm) (todo : List ℕ) (old new : List (Option ModuleTables)) (left : List ℕ) → Turns ms todo [] (length todo) old new left → AllSeen ms todo old → AllSeen ms left new
seen_after ms todo old new left t all m h = elim (all m h) [
  | inl a ↦ inl (t.stays m a)
  | inr b ↦ elim (t.each m b) [ inl a ↦ inl a | inr (inl a) ↦ inr a | inr (inr a) ↦ absurd a ]
]

-- where all that is left is stuck, what leads to no ring is made
pub all_made : (ms : List ModuleForm) (left : List ℕ) (done : List (Option ModuleTables)) → AllSeen ms left done → ((m : ℕ) → IsIn m left → IsStuck ms done m) → (m : ℕ) → IsGrounded ms m → is_made (slice_get done m) ≡ true
all_made ms left done all stuck _ (grounded m d at below) = elim (all m (slice_get_within ms m d at)) [
  | inl a ↦ a
  | inr b ↦
      let s = stuck m b in
      let same : s.0 ≡ d = some_is s.0 d (sym s.2 ∙ at) in
      let made = all_made ms left done all stuck s.1.source (below s.1 (subst (λ x. IsIn s.1 x.uses) same s.3)) in
      absurd (true≢false (sym made ∙ s.4))
]

pub none_made : (n : ℕ) (m : ℕ) (t : ModuleTables) → slice_get (replicate n None) m ≡ Some (Some t) → ⊥
none_made zero m t e = none_is (Some t) e
none_made (suc n) zero t e = none_is t (some_is None (Some t) e)
none_made (suc n) (suc m) t e = none_made n m t e

pub in_at : (xs : List ℕ) (i : ℕ) → i < length xs → IsIn (get_or xs i 0) xs
in_at [] i h = absurd (omega (arith, h))
in_at (x ∷ xs) zero h = inl refl
in_at (x ∷ xs) (suc i) h = inr (in_at xs i (omega (arith, h)))

pub counted : (xs : List ℕ) (i : ℕ) → ((m : ℕ) → IsIn m xs ↔ (m < i)) → (m : ℕ) → IsIn m (xs ++ i ∷ []) ↔ (m < i + 1)
counted xs i h m = (to, from)
  where
    to : IsIn m (xs ++ i ∷ []) → m < i + 1
    to at = elim (IsIn-append xs (i ∷ []) m at) [ inl a ↦ (let b = (h m).0 a in omega (arith, b)) | inr (inl e) ↦ omega (arith, e) | inr (inr a) ↦ absurd a ]

    from : m < i + 1 → IsIn m (xs ++ i ∷ [])
    from b = elim (is_or_not m i) [ inl e ↦ IsIn-right xs (i ∷ []) m (inl e) | inr ne ↦ IsIn-left xs (i ∷ []) m ((h m).1 (omega (arith, b, ne))) ]

pub drop_first : (xs : List ℕ) (i : ℕ) → i < length xs → drop i xs ≡ get_or xs i 0 ∷ drop (i + 1) xs
drop_first xs i h = search (rules, drop-cons)

-- at the start nothing is made
pub begins : (ms : List ModuleForm) → AreRight ms (replicate (length ms) None)
begins ms = record { count = count (length ms); each = λ m t e. absurd (none_made (length ms) m t e) }
  where
    nothing : Option ModuleTables
    nothing = None

    count : (n : ℕ) → length (replicate n nothing) ≡ n
    count zero = refl
    count (suc n) = ap suc (count n)
