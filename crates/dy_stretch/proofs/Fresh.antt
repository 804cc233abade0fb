-- Marks of which no one but the first is set.
use Rattle.std.proofs.Common.{◌≡◌, ◌⊎◌, inl, inr, ℕ, ◌+◌, ◌<◌, ◌≤◌, Bool, true, List, [], ◌∷◌, ◌++◌, length, get_or, nat_eq, refl, sym, ap, ◌∙◌, subst, arith, length-append}
use Rattle.std.proofs.lemmas.Bool.{cases_lt}
use Rattle.std.proofs.lemmas.List.{get_or_append_left, get_or_push}
use Rattle.dy_code.specs.Fetching.{Instruction}
use Rattle.dy_lowered.specs.Stretches.{reached}
use Rattle.dy_stretch.specs.Walks.{IsIn, IsMarked, IsWalked}
use Rattle.dy_stretch.proofs.Reaching.{reach_itself}

pub record Fresh (marks : List Bool) (n : ℕ) : Type 0 where
  pub long : length marks ≡ n
  pub first : IsMarked marks 0
  pub only : (place : ℕ) → place < n → IsMarked marks place → place ≡ 0

pub fresh_none : Fresh [] 0
fresh_none = record { long = refl; first = refl; only = λ place l h. absurd (omega (arith, l)) }

module _ (marks : List Bool) (n : ℕ) (b : Bool) (f : Fresh marks n) (e : b ≡ nat_eq n 0) where
  last : get_or (marks ++ b ∷ []) n true ≡ b
  last = get_or_push marks b true n f.long

  before : (q : ℕ) → q < n → get_or (marks ++ b ∷ []) q true ≡ get_or marks q true
  before q l = let k = f.long in get_or_append_left marks (b ∷ []) true q (omega (arith, k, l))

  pub fresh_more : Fresh (marks ++ b ∷ []) (n + 1)
  fresh_more = record {
    long = length-append marks (b ∷ []) ∙ ap (λ (k : ℕ). k + 1) f.long;
    first = by (cases_lt 0 n);
    only = λ q l h. of_both q h (cases_lt q n) l;
  }
    where
      by : (0 < n) ⊎ (n ≤ 0) → IsMarked (marks ++ b ∷ []) 0
      by (inl l) = before 0 l ∙ f.first
      by (inr l) =
          let z : n ≡ 0 = omega (arith, l) in
          ap (λ (k : ℕ). get_or (marks ++ b ∷ []) k true) (sym z) ∙ last ∙ e ∙ ap (λ (k : ℕ). nat_eq k 0) z

      of_both : (q : ℕ) → IsMarked (marks ++ b ∷ []) q → (q < n) ⊎ (n ≤ q) → q < n + 1 → q ≡ 0
      of_both q h (inl l) m = f.only q l (sym (before q l) ∙ h)
      of_both q h (inr l) m =
          let at : q ≡ n = omega (arith, l, m) in
          let is : nat_eq n 0 ≡ true = sym e ∙ sym last ∙ ap (λ (k : ℕ). get_or (marks ++ b ∷ []) k true) (sym at) ∙ h in
          at ∙ grind (arith, is)

only_one : (x y : ℕ) → IsIn x (y ∷ []) → x ≡ y
only_one x y (inl e) = e
only_one x y (inr h) = absurd h

-- The first place is marked, and waits.
pub fresh_walked : (code : List Instruction) (marks : List Bool) (n : ℕ) → n ≡ length code → Fresh marks n → IsWalked code marks (0 ∷ [])
fresh_walked code marks n e f = record {
  long = f.long ∙ e;
  first = f.first;
  sound = λ place l h steps all. let z = f.only place (omega (arith, l, e)) h in subst (λ k. IsIn k (reached code steps 0)) (sym z) (reach_itself code steps 0);
  waits = λ place h. subst (IsMarked marks) (sym (only_one place 0 h)) f.first;
  gone = λ place l h. inl (inl (f.only place (omega (arith, l, e)) h));
}
