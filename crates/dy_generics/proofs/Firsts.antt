-- The first of a list of methods.
use Rattle.std.proofs.Common.{◌≡◌, ℕ, zero, suc, ◌<◌, ◌≤◌, List, [], ◌∷◌, ◌++◌, ◌⊎◌, length, Option, Some, None, MatchOption, inl, inr, refl, sym, ap, subst, ◌∙◌, arith, append_assoc, append-nil}
use Rattle.dy_base.specs.declared.ids.MethodId.{MethodId}
use Rattle.dy_term.specs.declared.rows.Program.{Program}
use Rattle.dy_classes.specs.Lists.{In, first, next}
use Rattle.dy_order.specs.Methods.{methods_in, counted, method_id, methods_upto, methods_below}
use Rattle.dy_order.proofs.Lists.{in_either, only_in}
use Rattle.dy_generics.specs.Duplicates.{FirstOf}

module _ {A : Type 0} (P : A → Type 0) where
  abbrev pub None_in : List A → Type 0
  None_in xs = (x : A) → In x xs → P x → ⊥

  pub none_append : (xs ys : List A) → None_in xs → None_in ys → None_in (xs ++ ys)
  none_append xs ys a b x i p = elim (in_either xs ys x i) [ inl j ↦ a x j p | inr j ↦ b x j p ]

  pub none_more : (xs : List A) (y : A) → None_in xs → (P y → ⊥) → None_in (xs ++ y ∷ [])
  none_more xs y a out = none_append xs (y ∷ []) a (λ x i p. out (subst P (only_in x y i) p))

  -- the first of a list that stands behind others
  pub first_behind : (xs ys : List A) (x : A) → None_in xs → FirstOf P ys x → FirstOf P (xs ++ ys) x
  first_behind xs ys x a f =
      record {
        before = xs ++ f.before;
        after = f.after;
        whole = ap (λ (v : List A). xs ++ v) f.whole ∙ sym (append_assoc xs f.before (x ∷ f.after));
        holds = f.holds;
        none = none_append xs f.before a f.none;
      }

  pub first_ahead : (xs ys : List A) (x : A) → FirstOf P xs x → FirstOf P (xs ++ ys) x
  first_ahead xs ys x f =
      record {
        before = f.before;
        after = f.after ++ ys;
        whole = ap (λ (v : List A). v ++ ys) f.whole ∙ append_assoc f.before (x ∷ f.after) ys;
        holds = f.holds;
        none = f.none;
      }

  pub first_next : (xs : List A) (x : A) → None_in xs → P x → FirstOf P (xs ++ x ∷ []) x
  first_next xs x a p = record { before = xs; after = []; whole = refl; holds = p; none = a }

  pub first_or_none : (xs ys : List A) (r : Option A) → None_in xs → MatchOption r (None_in ys) (λ x. FirstOf P ys x) → MatchOption r (None_in (xs ++ ys)) (λ x. FirstOf P (xs ++ ys) x)
  first_or_none xs ys None a m = none_append xs ys a m
  first_or_none xs ys (Some x) a f = first_behind xs ys x a f

-- a longer list of methods begins with a shorter one
at_most : (n m : ℕ) → n ≤ suc m → (n ≤ m) ⊎ (n ≡ suc m)
at_most zero m h = inl (omega arith)
at_most (suc n) zero h = inr (omega arith)
at_most (suc n) (suc m) h = elim (at_most n m (omega arith)) [ inl l ↦ inl (omega arith) | inr e ↦ inr (ap suc e) ]

module _ (list part : ℕ → List MethodId) (none : list 0 ≡ []) (more : (n : ℕ) → list (suc n) ≡ list n ++ part n) where
  same_begins : (n m : ℕ) → n ≡ m → (after : List MethodId) × (list m ≡ list n ++ after)
  same_begins n m e = ([], ap list (sym e) ∙ sym (append-nil (list n)))

  pub begins : (m n : ℕ) → n ≤ m → (after : List MethodId) × (list m ≡ list n ++ after)
  begins zero n h = same_begins n 0 (omega arith)
  begins (suc m) n h =
      elim (at_most n m h) [
        | inl l ↦ (let (after, e) = begins m n l in (after ++ part m, more m ∙ ap (λ (v : List MethodId). v ++ part m) e ∙ append_assoc (list n) after (part m)))
        | inr e ↦ same_begins n (suc m) e
      ]

module _ (P : MethodId → Type 0) where
  -- the first one of a library's methods
  pub found_in : (library row count : ℕ) → row < count → None_in P (methods_upto library row) → P (method_id library row) → FirstOf P (methods_upto library count) (method_id library row)
  found_in library row count h none holds =
      let (after, e) = begins (methods_upto library) (λ n. method_id library n ∷ []) refl (λ n. refl) count (suc row) (omega arith) in
      subst (λ (v : List MethodId). FirstOf P v (method_id library row)) (sym e)
      (first_ahead P (methods_upto library (suc row)) after (method_id library row) (first_next P (methods_upto library row) (method_id library row) none holds))

  abbrev whole_of : Program → ℕ → List MethodId
  whole_of program library = methods_upto library (counted (length (methods_in program library)))

  -- the first one of an earlier library's methods
  pub found_below : (program : Program) (library total : ℕ) (rest : List MethodId) (x : MethodId) → library < total → None_in P (methods_below program library)
      → FirstOf P (whole_of program library) x → FirstOf P (methods_below program total ++ rest) x
  found_below program library total rest x h none f =
      let (after, e) = begins (methods_below program) (whole_of program) refl (λ n. refl) total (suc library) (omega arith) in
      first_ahead P (methods_below program total) rest x
      (subst (λ (v : List MethodId). FirstOf P v x) (sym e)
      (first_ahead P (methods_below program (suc library)) after x (first_behind P (methods_below program library) (whole_of program library) x none f)))
