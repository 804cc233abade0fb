-- Laws of runs, names and automata, which each form needs.
use Rattle.std.proofs.Common.{◌≡◌, ℕ, ◌+◌, inl, inr, Bool, true, false, cond, List, [], ◌∷◌, ◌++◌, length, Option, Some, None, refl, sym, ap, ◌∙◌, arith}
use Rattle.std.specs.List.{prefix_len}
use Rattle.dy_pieces.specs.declared.class.Class.{Class}
use Rattle.dy_pieces.specs.declared.class.Class.TheVariants.{Letter, Graphic}
use Rattle.dy_pieces.specs.Bytes.{class_of, in_name}
use Rattle.dy_pieces.specs.Scan.{plus, Turn, Goes, Stops, Fails, turned, scan}
use Rattle.dy_pieces.specs.Pieces.{name_from, name_len}
use Rattle.dy_pieces.specs.Forms.{Each, IsName}

abbrev pub some : ℕ → Option ℕ
some n = Some n

pub some_same : (n m : ℕ) → some n ≡ some m → n ≡ m
some_same n m e = cc

pub same_value : (n m : ℕ) (r : Option ℕ) → r ≡ Some n → r ≡ Some m → n ≡ m
same_value n m r e f = cc

pub not_none : (n : ℕ) (r : Option ℕ) → r ≡ Some n → r ≡ None → ⊥
not_none n r e f = absurd cc

-- the longest front of bytes that pass, and what stops it
abbrev pub RunSplits : (ℕ → Bool) → List ℕ → ℕ → Type 0
RunSplits p bs n = (front : List ℕ) × (rest : List ℕ) × (bs ≡ front ++ rest) × (length front ≡ n) × Each p front

run_more : (p : ℕ → Bool) (b : ℕ) (bs : List ℕ) (n : ℕ) (t : Bool) → p b ≡ t → RunSplits p bs n → RunSplits p (b ∷ bs) (cond t (1 + n) 0)
run_more p b bs n true e h = let (front, rest, parts, len, each) = h in (b ∷ front, rest, ap (λ (x : List ℕ). b ∷ x) parts, omega arith, (e, each))
run_more p b bs n false e h = ([], b ∷ bs, refl, refl, tt)

pub run_splits : (p : ℕ → Bool) (bs : List ℕ) → RunSplits p bs (prefix_len p bs)
run_splits p [] = ([], [], refl, refl, tt)
run_splits p (b ∷ bs) = run_more p b bs (prefix_len p bs) (p b) refl (run_splits p bs)

pub run_longest : (p : ℕ → Bool) (front rest : List ℕ) → Each p front → prefix_len p (front ++ rest) ≡ length front + prefix_len p rest
run_longest p [] rest each = omega arith
run_longest p (b ∷ front) rest each = let h = run_longest p front rest each.1 in rw each.0 (omega arith)

-- ---- names

pub name_of : (q rest : List ℕ) → IsName q → name_len (q ++ rest) ≡ Some (length q + prefix_len in_name rest)
name_of [] rest h = absurd h
name_of (b ∷ bs) rest (inl h) = let run = run_longest in_name bs rest h.1 in rw (h.0, run) (ap some (omega arith))
name_of (b ∷ bs) rest (inr h) = let below = name_of bs rest h.1 in rw (h.0, below) (ap some (omega arith))

abbrev pub NameSplits : List ℕ → ℕ → Type 0
NameSplits text n = (q : List ℕ) × (rest : List ℕ) × (text ≡ q ++ rest) × (length q ≡ n) × IsName q

plus_some : (k : ℕ) (r : Option ℕ) (n : ℕ) → plus k r ≡ Some n → (m : ℕ) × (r ≡ Some m) × (n ≡ k + m)
plus_some k None n e = absurd cc
plus_some k (Some m) n e = (m, refl, sym (some_same (k + m) n e))

name_turn : (c : Class) (b : ℕ) (bs : List ℕ) (n : ℕ) → class_of b ≡ c → ((m : ℕ) → name_len bs ≡ Some m → NameSplits bs m)
    → name_from c (prefix_len in_name bs) (name_len bs) ≡ Some n → NameSplits (b ∷ bs) n
name_turn Letter b bs n is below e =
    let (front, rest, parts, len, each) = run_splits in_name bs in
    let sum = some_same (1 + prefix_len in_name bs) n e in
    (b ∷ front, rest, ap (λ (x : List ℕ). b ∷ x) parts, omega arith, inl (is, each))
name_turn Graphic b bs n is below e =
    let (m, was, sum) = plus_some 1 (name_len bs) n e in
    let (q, rest, parts, len, name) = below m was in
    (b ∷ q, rest, ap (λ (x : List ℕ). b ∷ x) parts, omega arith, inr (is, name))
name_turn c b bs n is below e = absurd cc

pub name_splits : (text : List ℕ) (n : ℕ) → name_len text ≡ Some n → NameSplits text n
name_splits [] n e = absurd cc
name_splits (b ∷ bs) n e = name_turn (class_of b) b bs n refl (λ m. name_splits bs m) e

-- ---- automata

module _ {S : Type 0} (step : S → ℕ → Turn S) where
  stable_turn : (t : Turn S) (front rest : List ℕ) (n : ℕ) → ((s : S) (m : ℕ) → scan step s front ≡ Some m → scan step s (front ++ rest) ≡ Some m)
      → turned t (λ s'. scan step s' front) ≡ Some n → turned t (λ s'. scan step s' (front ++ rest)) ≡ Some n
  stable_turn (Goes s) front rest n below e = let (m, is, sum) = plus_some 1 (scan step s front) n e in ap (plus 1) (below s m is) ∙ sym (ap some sum)
  stable_turn Stops front rest n below e = e
  stable_turn Fails front rest n below e = absurd cc

  -- where the automaton stops within a front, it stops there whatever follows
  pub stable : (s : S) (front rest : List ℕ) (n : ℕ) → scan step s front ≡ Some n → scan step s (front ++ rest) ≡ Some n
  stable s [] rest n e = absurd cc
  stable s (b ∷ front) rest n e = stable_turn (step s b) front rest n (λ s' m. stable s' front rest m) e

  abbrev pub Splits : S → List ℕ → ℕ → Type 0
  Splits s bs n = (front : List ℕ) × (rest : List ℕ) × (bs ≡ front ++ rest) × (length front ≡ n) × (scan step s front ≡ Some n)

  splits_turn : (s : S) (b : ℕ) (bs : List ℕ) (n : ℕ) (t : Turn S) → step s b ≡ t → ((s' : S) (m : ℕ) → scan step s' bs ≡ Some m → Splits s' bs m)
      → turned t (λ s'. scan step s' bs) ≡ Some n → Splits s (b ∷ bs) n
  splits_turn s b bs n (Goes s') is below e =
      let (m, was, sum) = plus_some 1 (scan step s' bs) n e in
      let (front, rest, parts, len, again) = below s' m was in
      (b ∷ front, rest, ap (λ (x : List ℕ). b ∷ x) parts, omega arith, ap (λ (t : Turn S). turned t (λ x. scan step x front)) is ∙ ap (plus 1) again ∙ sym (ap some sum))
  splits_turn s b bs n Stops is below e = (b ∷ [], bs, refl, some_same 1 n e, rw is e)
  splits_turn s b bs n Fails is below e = absurd cc

  -- the front at which it stops
  pub splits : (s : S) (bs : List ℕ) (n : ℕ) → scan step s bs ≡ Some n → Splits s bs n
  splits s [] n e = absurd cc
  splits s (b ∷ bs) n e = splits_turn s b bs n (step s b) refl (λ s' m. splits s' bs m) e
