-- The first pair of a list that passes a test.
use Rattle.std.proofs.Common.{◌≡◌, Bool, true, false, true≢false, List, [], ◌∷◌, ◌⊎◌, inl, inr, Option, Some, None, refl, sym, ap, subst, ◌∙◌}
use Rattle.std.proofs.lemmas.Option.{some_pair_parts, same_Some}
use Rattle.dy_base.specs.declared.ids.ClassId.{ClassId}
use Rattle.dy_classes.specs.Lists.{In, first, next, Before, now, later, Once}
use Rattle.dy_classes.specs.Merge.{find}
use Rattle.dy_classes.specs.Search.{first_pair}
use Rattle.dy_classes.proofs.Lists.{before_first, before_last}
use Rattle.dy_classes.proofs.Decisions.{tells, in_tail, find_some, find_none}

-- nothing that passes stands before the first that is found
hits : (x b y : ClassId) (xs : List ClassId) → (In x xs → ⊥) → x ≡ b → Before y b (x ∷ xs) → ⊥
hits x b y xs out same w = out (subst (λ (v : ClassId). In v xs) (sym same) (in_tail w))

misses : (q : ClassId → Bool) (x b y : ClassId) (xs : List ClassId) → q x ≡ false → q y ≡ true → (Before y b xs → ⊥) → Before y b (x ∷ xs) → ⊥
misses q x b y xs no_x at_y below (now i) = true≢false (sym at_y ∙ no_x)
misses q x b y xs no_x at_y below (later w) = below w

find_first : (q : ClassId → Bool) (xs : List ClassId) (b y : ClassId) → Once xs → find q xs ≡ Some b → q y ≡ true → Before y b xs → ⊥
find_first q [] b y o e t w = elim w [ ]
find_first q (x ∷ xs) b y o e t w =
    elim (tells (q x)) [
      | inl h ↦ hits x b y xs o.0 (same_Some x b (rw h at e)) w
      | inr h ↦ misses q x b y xs h t (find_first q xs b y o.1 (rw h at e) t) w
    ]

module _ (p : ClassId → ClassId → Bool) where
  -- the first pair that passes, by the first and then by the second of them
  pub record FirstPair (list : List ClassId) (a b : ClassId) : Type 0 where
    pub before : Before a b list
    pub passes : p a b ≡ true
    pub first : (x y : ClassId) → Before x y list → p x y ≡ true → Before x a list → ⊥
    pub second : (y : ClassId) → Before a y list → p a y ≡ true → Before y b list → ⊥

  moved : (list : List ClassId) (x y a b : ClassId) → x ≡ a → y ≡ b → FirstPair list x y → FirstPair list a b
  moved list x y a b e f pair =
      subst (λ (v : ClassId). FirstPair list a v) f (subst (λ (u : ClassId). FirstPair list u y) e pair)

  second_here : (x v y : ClassId) (xs : List ClassId) → (In x xs → ⊥) → (Before v y xs → ⊥) → Before x v (x ∷ xs) → Before v y (x ∷ xs) → ⊥
  second_here x v y xs out below w (now i) = out (in_tail w)
  second_here x v y xs out below w (later j) = below j

  -- the first class of the list is the first of the pair
  at_head : (x y : ClassId) (xs : List ClassId) → (In x xs → ⊥) → Once xs → find (p x) xs ≡ Some y → FirstPair (x ∷ xs) x y
  at_head x y xs out o is =
      let found = find_some (p x) xs y is in
      record {
        before = now found.0;
        passes = found.1;
        first = λ u v w t i. out (in_tail i);
        second = λ v w t i. second_here x v y xs out (find_first (p x) xs y v o is t) w i;
      }

  first_below : (x a u v : ClassId) (xs : List ClassId) → (In x xs → ⊥) → find (p x) xs ≡ None → p u v ≡ true
      → (Before u v xs → Before u a xs → ⊥) → Before u v (x ∷ xs) → Before u a (x ∷ xs) → ⊥
  first_below x a u v xs out none t below w (now i) = find_none (p u) xs v none (in_tail w) t
  first_below x a u v xs out none t below (now k) (later j) = out (before_first j)
  first_below x a u v xs out none t below (later k) (later j) = below k j

  second_below : (x a b v : ClassId) (xs : List ClassId) → (In x xs → ⊥) → In a xs
      → (Before a v xs → Before v b xs → ⊥) → Before a v (x ∷ xs) → Before v b (x ∷ xs) → ⊥
  second_below x a b v xs out in_a below (now k) i = out in_a
  second_below x a b v xs out in_a below (later k) (now i) = out (before_last k)
  second_below x a b v xs out in_a below (later k) (later i) = below k i

  at_rest : (x a b : ClassId) (xs : List ClassId) → (In x xs → ⊥) → find (p x) xs ≡ None → FirstPair xs a b → FirstPair (x ∷ xs) a b
  at_rest x a b xs out none f = record {
    before = later f.before;
    passes = f.passes;
    first = λ u v w t i. first_below x a u v xs out none t (λ k j. f.first u v k t j) w i;
    second = λ v w t i. second_below x a b v xs out (before_first f.before) (λ k j. f.second v k t j) w i;
  }

  pick : (x a b : ClassId) (xs : List ClassId) → Once (x ∷ xs) → (r : Option ClassId) → find (p x) xs ≡ r
      → elim r as (λ _. Option (ClassId × ClassId)) [ Some y ↦ Some (x, y) | None ↦ first_pair p xs ] ≡ Some (a, b)
      → (first_pair p xs ≡ Some (a, b) → FirstPair xs a b) → FirstPair (x ∷ xs) a b
  pick x a b xs o (Some y) is e below =
      let same = some_pair_parts x a y b e in moved (x ∷ xs) x y a b same.0 same.1 (at_head x y xs o.0 o.1 is)
  pick x a b xs o None is e below = at_rest x a b xs o.0 is (below e)

  pub first_pair_some : (list : List ClassId) (a b : ClassId) → Once list → first_pair p list ≡ Some (a, b) → FirstPair list a b
  first_pair_some [] a b o e = absurd cc
  first_pair_some (x ∷ xs) a b o e = pick x a b xs o (find (p x) xs) refl e (first_pair_some xs a b o.1)

  miss : (x u v : ClassId) (xs : List ClassId) → (r : Option ClassId) → find (p x) xs ≡ r
      → elim r as (λ _. Option (ClassId × ClassId)) [ Some y ↦ Some (x, y) | None ↦ first_pair p xs ] ≡ None
      → (first_pair p xs ≡ None → Before u v xs → ⊥) → p u v ≡ true → Before u v (x ∷ xs) → ⊥
  miss x u v xs (Some y) is e below t w = absurd cc
  miss x u v xs None is e below t (now i) = find_none (p u) xs v is i t
  miss x u v xs None is e below t (later w) = below e w

  pub first_pair_none : (list : List ClassId) (u v : ClassId) → first_pair p list ≡ None → p u v ≡ true → Before u v list → ⊥
  first_pair_none [] u v e t w = elim w [ ]
  first_pair_none (x ∷ xs) u v e t w = miss x u v xs (find (p x) xs) refl e (λ f. first_pair_none xs u v f t) t w
