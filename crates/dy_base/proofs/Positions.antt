-- Where the first item of a list that passes a test stands.
use Rattle.std.proofs.Common.{◌≡◌, ℕ, zero, suc, ◌+◌, ◌<◌, Bool, true, false, cond, not, List, [], ◌∷◌, ◌++◌, length, Option, Some, None, position, slice_get, nat_lt, refl, sym, ap, ◌∙◌, arith}
use Rattle.std.specs.List.{position_or_len}
use Rattle.std.proofs.lemmas.Bool.Decides.{same_from_decides, Decides-ltb}
use Rattle.std.proofs.lemmas.Option.{none-some, same_Some}

-- of what is behind the first item
abbrev pub behind : Option ℕ → Option ℕ
behind None = None
behind (Some i) = Some (suc i)

-- of what is there with one more item at the end
abbrev pub or_last : Option ℕ → Bool → ℕ → Option ℕ
or_last (Some i) b n = Some i
or_last None b n = cond b (Some n) None

-- the order of two numbers is that of the next ones
less_behind : (a b : ℕ) → nat_lt (suc a) (suc b) ≡ nat_lt a b
less_behind a b = same_from_decides (nat_lt (suc a) (suc b)) (nat_lt a b) ((λ t. omega (arith, (Decides-ltb (suc a) (suc b)).0 t)), (λ l. (Decides-ltb (suc a) (suc b)).1 (omega (arith, l)))) (Decides-ltb a b)

within_cases : (n len i : ℕ) (b : Bool) → nat_lt n len ≡ b → cond b (Some n) None ≡ Some i → i < len
within_cases n len i true is at = let less = (Decides-ltb n len).0 is in let same = same_Some n i at in omega (arith, less, same)
within_cases n len i false is at = absurd (none-some i at)

counted : (b : Bool) (n : ℕ) → cond b (Some (suc n)) None ≡ behind (cond b (Some n) None)
counted true n = refl
counted false n = refl

one_more : (n : ℕ) → 1 + n ≡ suc n
one_more n = omega arith

stepped : (b : Bool) (n len : ℕ)
    → cond (nat_lt (cond (not b) (1 + n) 0) (suc len)) (Some (cond (not b) (1 + n) 0)) None ≡ cond b (Some 0) (behind (cond (nat_lt n len) (Some n) None))
stepped true n len = ap (λ b. cond b (Some 0) None) ((Decides-ltb 0 (suc len)).1 (omega arith))
stepped false n len =
    ap (λ m. cond (nat_lt m (suc len)) (Some m) None) (one_more n)
    ∙ ap (λ b. cond b (Some (suc n)) None) (less_behind n len)
    ∙ counted (nat_lt n len) n

last_behind : (c : Bool) (o : Option ℕ) (b : Bool) (n : ℕ) → cond c (Some 0) (behind (or_last o b n)) ≡ or_last (cond c (Some 0) (behind o)) b (suc n)
last_behind true o b n = refl
last_behind false (Some i) b n = refl
last_behind false None true n = refl
last_behind false None false n = refl

none_behind : (b : Bool) (o : Option ℕ) → cond b (Some 0) (behind o) ≡ None → (b ≡ false) × (o ≡ None)
none_behind true o is = absurd (none-some 0 (sym is))
none_behind false (Some i) is = absurd (none-some (suc i) (sym is))
none_behind false None is = (refl, refl)

module _ {X : Type 0} (p : X → Bool) where
  pub position-cons : (x : X) (xs : List X) → position p (x ∷ xs) ≡ cond (p x) (Some 0) (behind (position p xs))
  position-cons x xs = stepped (p x) (position_or_len p xs) (length xs)

  pub position-push : (xs : List X) (y : X) → position p (xs ++ y ∷ []) ≡ or_last (position p xs) (p y) (length xs)
  position-push [] y = position-cons y []
  position-push (x ∷ xs) y =
      position-cons x (xs ++ y ∷ [])
      ∙ ap (λ o. cond (p x) (Some 0) (behind o)) (position-push xs y)
      ∙ last_behind (p x) (position p xs) (p y) (length xs)
      ∙ ap (λ o. or_last o (p y) (suc (length xs))) (sym (position-cons x xs))

  pub position_none : (x : X) (xs : List X) → position p (x ∷ xs) ≡ None → (p x ≡ false) × (position p xs ≡ None)
  position_none x xs is = none_behind (p x) (position p xs) (sym (position-cons x xs) ∙ is)

  -- where none passes, no item does
  pub none_passes : (xs : List X) (i : ℕ) (x : X) → position p xs ≡ None → slice_get xs i ≡ Some x → p x ≡ false
  none_passes [] i x is at = absurd (none-some x at)
  none_passes (y ∷ xs) zero x is at = ap p (sym (same_Some y x at)) ∙ (position_none y xs is).0
  none_passes (y ∷ xs) (suc i) x is at = none_passes xs i x (position_none y xs is).1 at

  pub position_within : (xs : List X) (i : ℕ) → position p xs ≡ Some i → i < length xs
  position_within xs i at = within_cases (position_or_len p xs) (length xs) i _ refl at
