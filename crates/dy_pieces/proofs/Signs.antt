-- Operators and punctuation: the longest of their tables; and names beside them.
use Rattle.std.proofs.Common.{◌≡◌, ℕ, ◌+◌, ◌<◌, ◌≤◌, ◌⊎◌, inl, inr, Bool, true, false, ◌&&◌, ◌||◌, cond, List, [], ◌∷◌, ◌++◌, length, take, Option, Some, None, refl, ap, subst, ◌∙◌, arith}
use Rattle.std.proofs.lemmas.List.{take_at, length-append}
use Rattle.std.proofs.lemmas.Bool.{le-leb, leb-true}
use Rattle.std.proofs.Math.Dec.{leb}
use Rattle.std.specs.List.{prefix_len}
use Rattle.dy_tree.specs.declared.token.TokenKind.{TokenKind}
use Rattle.dy_tree.specs.declared.token.TokenKind.TheVariants as kinds
use Rattle.dy_pieces.specs.declared.class.Piece.TheVariants.{Token}
use Rattle.dy_pieces.specs.declared.class.Class.{Class}
use Rattle.dy_pieces.specs.declared.class.Class.TheVariants.{Letter, Graphic}
use Rattle.dy_pieces.specs.Bytes.{class_of, in_name}
use Rattle.dy_pieces.specs.Words.{operators, punctuation, is_listed, sign_of}
use Rattle.dy_pieces.specs.Pieces.{name_from, name_len, front}
use Rattle.dy_pieces.specs.Forms.{IsForm, IsName}
use Rattle.dy_pieces.proofs.Runs.{some_same, not_none, name_splits}
use Rattle.dy_pieces.proofs.Lists.{listed_passes, and_left, and_right, or_cases}

-- ---- the kinds of the tables

abbrev pub Signed : TokenKind → List ℕ → Type 0
Signed kinds.Operator fs = is_listed operators fs ≡ true
Signed kinds.Punctuation fs = is_listed punctuation fs ≡ true
Signed _ fs = ⊥

abbrev is_false : Bool → Bool
is_false true = false
is_false false = true

from_false : (b : Bool) → is_false b ≡ true → b ≡ false
from_false true e = absurd cc
from_false false e = refl

pub signed_form : (k : TokenKind) (fs rest : List ℕ) → Signed k fs → IsForm (Token k) fs rest
signed_form kinds.Operator fs rest h = h
signed_form kinds.Punctuation fs rest h = inl h
signed_form kinds.Name fs rest h = absurd h
signed_form kinds.Escaped fs rest h = absurd h
signed_form kinds.Symbol fs rest h = absurd h
signed_form kinds.Int fs rest h = absurd h
signed_form kinds.Char fs rest h = absurd h
signed_form kinds.Str fs rest h = absurd h
signed_form kinds.Mark fs rest h = absurd h
signed_form kinds.PatternVar fs rest h = absurd h
signed_form kinds.CallSite fs rest h = absurd h

abbrev some_kind : TokenKind → Option TokenKind
some_kind k = Some k

pub sign_of-signed : (k : TokenKind) (fs : List ℕ) → Signed k fs → sign_of fs ≡ Some k
sign_of-signed kinds.Operator fs h = rw h refl
sign_of-signed kinds.Punctuation fs h =
    let other : is_listed operators fs ≡ false = from_false (is_listed operators fs) (listed_passes (λ e. is_false (is_listed operators e)) punctuation fs refl h) in
    rw (other, h) refl
sign_of-signed kinds.Name fs h = absurd h
sign_of-signed kinds.Escaped fs h = absurd h
sign_of-signed kinds.Symbol fs h = absurd h
sign_of-signed kinds.Int fs h = absurd h
sign_of-signed kinds.Char fs h = absurd h
sign_of-signed kinds.Str fs h = absurd h
sign_of-signed kinds.Mark fs h = absurd h
sign_of-signed kinds.PatternVar fs h = absurd h
sign_of-signed kinds.CallSite fs h = absurd h

sign_cases : (t u : Bool) (fs : List ℕ) (k : TokenKind) → is_listed operators fs ≡ t → is_listed punctuation fs ≡ u
    → cond t (Some kinds.Operator) (cond u (Some kinds.Punctuation) None) ≡ Some k → Signed k fs
sign_cases true u fs k e f s = let same : kinds.Operator ≡ k = cc in subst (λ (x : TokenKind). Signed x fs) same e
sign_cases false true fs k e f s = let same : kinds.Punctuation ≡ k = cc in subst (λ (x : TokenKind). Signed x fs) same f
sign_cases false false fs k e f s = absurd cc

pub signed_of : (fs : List ℕ) (k : TokenKind) → sign_of fs ≡ Some k → Signed k fs
signed_of fs k s = sign_cases (is_listed operators fs) (is_listed punctuation fs) fs k refl refl s

-- ---- lengths

abbrev pub is_short : List ℕ → Bool
is_short [] = false
is_short (a ∷ []) = true
is_short (a ∷ b ∷ []) = true
is_short (a ∷ b ∷ c ∷ []) = true
is_short (a ∷ b ∷ c ∷ d ∷ rest) = false

abbrev pub Short : ℕ → Type 0
Short n = (n ≡ 1) ⊎ ((n ≡ 2) ⊎ (n ≡ 3))

pub short_lengths : (fs : List ℕ) → is_short fs ≡ true → Short (length fs)
short_lengths [] e = absurd cc
short_lengths (a ∷ []) e = inl refl
short_lengths (a ∷ b ∷ []) e = inr (inl refl)
short_lengths (a ∷ b ∷ c ∷ []) e = inr (inr refl)
short_lengths (a ∷ b ∷ c ∷ d ∷ rest) e = absurd cc

pub signed_short : (k : TokenKind) (fs : List ℕ) → Signed k fs → Short (length fs)
signed_short kinds.Operator fs h = short_lengths fs (listed_passes is_short operators fs refl h)
signed_short kinds.Punctuation fs h = short_lengths fs (listed_passes is_short punctuation fs refl h)
signed_short kinds.Name fs h = absurd h
signed_short kinds.Escaped fs h = absurd h
signed_short kinds.Symbol fs h = absurd h
signed_short kinds.Int fs h = absurd h
signed_short kinds.Char fs h = absurd h
signed_short kinds.Str fs h = absurd h
signed_short kinds.Mark fs h = absurd h
signed_short kinds.PatternVar fs h = absurd h
signed_short kinds.CallSite fs h = absurd h

pub front_signed : (n : ℕ) (text fs gs : List ℕ) (k : TokenKind) → text ≡ fs ++ gs → length fs ≡ n → Signed k fs → front n text ≡ Some k
front_signed n text fs gs k e len is =
    let sum = ap length e ∙ length-append fs gs in
    let taken : take n text ≡ fs = ap (take n) e ∙ take_at fs gs n len in
    let long : leb n (length text) ≡ true = le-leb n (length text) (omega arith) in
    rw (taken, long) (sign_of-signed k fs is)

front_cases : (t : Bool) (n : ℕ) (text : List ℕ) (k : TokenKind) → leb n (length text) ≡ t → cond t (sign_of (take n text)) None ≡ Some k → (n ≤ length text) × Signed k (take n text)
front_cases true n text k e s = (leb-true n (length text) e, signed_of (take n text) k s)
front_cases false n text k e s = absurd cc

pub front_splits : (n : ℕ) (text : List ℕ) (k : TokenKind) → front n text ≡ Some k → (n ≤ length text) × Signed k (take n text)
front_splits n text k s = front_cases (leb n (length text)) n text k refl s

-- ---- names beside signs

abbrev not_letter : Class → Bool
not_letter Letter = false
not_letter _ = true

abbrev not_start : Class → Bool
not_start Letter = false
not_start Graphic = false
not_start _ = true

-- a text with which no name begins, or of which a name is longer
abbrev pub no_name : List ℕ → Bool
no_name [] = false
no_name (a ∷ []) = not_letter (class_of a)
no_name (a ∷ c ∷ rest) = not_start (class_of a) || (not_letter (class_of a) && not_start (class_of c))

pub name_some : (text : List ℕ) (n : ℕ) → name_len text ≡ Some n → 0 < n
name_some text n e = go (name_splits text n e).0 (name_splits text n e).3 (name_splits text n e).4
  where
    go : (q : List ℕ) → length q ≡ n → IsName q → 0 < n
    go [] len h = absurd h
    go (b ∷ bs) len h = omega arith

one_below : (c : Class) (run : ℕ) (more : Option ℕ) (n : ℕ) → not_letter c ≡ true → ((m : ℕ) → more ≡ Some m → 0 < m) → name_from c run more ≡ Some n → 1 < n
one_below Letter run more n not below e = absurd cc
one_below Graphic run None n not below e = absurd cc
one_below Graphic run (Some m) n not below e = let some = below m refl in let sum = some_same (1 + m) n e in omega arith
one_below c run more n not below e = absurd cc

none_start : (c : Class) (run : ℕ) (more : Option ℕ) → not_start c ≡ true → name_from c run more ≡ None
none_start Letter run more s = absurd cc
none_start Graphic run more s = absurd cc
none_start c run more s = refl

none_below : (c : Class) (run : ℕ) (more : Option ℕ) (n : ℕ) → not_letter c ≡ true → more ≡ None → name_from c run more ≡ Some n → ⊥
none_below Letter run more n s none e = absurd cc
none_below Graphic run None n s none e = absurd cc
none_below Graphic run (Some m) n s none e = absurd cc
none_below c run more n s none e = absurd cc

two_below : (c d : Class) (run run2 : ℕ) (more : Option ℕ) (n : ℕ) → (not_start c || (not_letter c && not_start d)) ≡ true → name_from c run (name_from d run2 more) ≡ Some n → ⊥
two_below c d run run2 more n passes e =
    elim (or_cases (not_start c) (not_letter c && not_start d) passes) [
      | inl h ↦ not_none n (name_from c run (name_from d run2 more)) e (none_start c run (name_from d run2 more) h)
      | inr h ↦ none_below c run (name_from d run2 more) n (and_left (not_letter c) (not_start d) h) (none_start d run2 more (and_right (not_letter c) (not_start d) h)) e
    ]

pub sign_below : (fs gs : List ℕ) (n : ℕ) → no_name fs ≡ true → name_len (fs ++ gs) ≡ Some n → length fs < n
sign_below [] gs n passes e = absurd cc
sign_below (a ∷ []) gs n passes e = one_below (class_of a) (prefix_len in_name gs) (name_len gs) n passes (λ m. name_some gs m) e
sign_below (a ∷ c ∷ rest) gs n passes e =
    absurd (two_below (class_of a) (class_of c) (prefix_len in_name (c ∷ (rest ++ gs))) (prefix_len in_name (rest ++ gs)) (name_len (rest ++ gs)) n passes e)

pub signed_below : (k : TokenKind) (fs gs : List ℕ) (n : ℕ) → Signed k fs → name_len (fs ++ gs) ≡ Some n → length fs < n
signed_below kinds.Operator fs gs n h e = sign_below fs gs n (listed_passes no_name operators fs refl h) e
signed_below kinds.Punctuation fs gs n h e = sign_below fs gs n (listed_passes no_name punctuation fs refl h) e
signed_below kinds.Name fs gs n h e = absurd h
signed_below kinds.Escaped fs gs n h e = absurd h
signed_below kinds.Symbol fs gs n h e = absurd h
signed_below kinds.Int fs gs n h e = absurd h
signed_below kinds.Char fs gs n h e = absurd h
signed_below kinds.Str fs gs n h e = absurd h
signed_below kinds.Mark fs gs n h e = absurd h
signed_below kinds.PatternVar fs gs n h e = absurd h
signed_below kinds.CallSite fs gs n h e = absurd h
