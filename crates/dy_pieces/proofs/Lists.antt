-- Laws of the tables of fixed spellings.
use Rattle.std.proofs.Common.{◌≡◌, ℕ, suc, ◌≤◌, ◌⊎◌, inl, inr, Bool, true, false, ◌&&◌, ◌||◌, cond, List, [], ◌∷◌, ◌++◌, length, Option, Some, refl, sym, ap, subst, arith}
use Rattle.std.proofs.lemmas.Bool.{leb-true, eqb-true, eq-eqb}
use Rattle.std.proofs.Math.Dec.{eqb, leb}
use Rattle.dy_base.specs.Folding.{folded_byte, folded}
use Rattle.dy_pieces.specs.Words.{is_same, is_listed, begins, front_in}
use Rattle.dy_pieces.proofs.Runs.{some_same}

pub and_left : (a b : Bool) → (a && b) ≡ true → a ≡ true
and_left true b e = refl
and_left false b e = absurd cc

pub and_right : (a b : Bool) → (a && b) ≡ true → b ≡ true
and_right true b e = e
and_right false b e = absurd cc

pub or_cases : (a b : Bool) → (a || b) ≡ true → (a ≡ true) ⊎ (b ≡ true)
or_cases true b e = inl refl
or_cases false b e = inr e

pub opposite : (b : Bool) → b ≡ true → b ≡ false → ⊥
opposite true e f = absurd cc
opposite false e f = absurd cc

pub same_text : (x b : List ℕ) → is_same x b ≡ true → x ≡ b
same_text [] [] e = refl
same_text [] (b ∷ bs) e = absurd cc
same_text (x ∷ xs) [] e = absurd cc
same_text (x ∷ []) (b ∷ []) e = ap (λ (y : ℕ). y ∷ []) (sym (eqb-true b x e))
same_text (x ∷ []) (b ∷ c ∷ bs) e = absurd cc
same_text (x ∷ y ∷ xs) (b ∷ []) e = absurd cc
same_text (x ∷ y ∷ xs) (b ∷ c ∷ bs) e =
    let first : b ≡ x = eqb-true b x (and_left (eqb b x) (is_same (y ∷ xs) (c ∷ bs)) e) in
    let rest = same_text (y ∷ xs) (c ∷ bs) (and_right (eqb b x) (is_same (y ∷ xs) (c ∷ bs)) e) in
    cc

-- each of the words passes
abbrev pub all_pass : (List ℕ → Bool) → List (List ℕ) → Bool
all_pass p [] = true
all_pass p (word ∷ words) = p word && all_pass p words

pub listed_passes : (p : List ℕ → Bool) (words : List (List ℕ)) (word : List ℕ) → all_pass p words ≡ true → is_listed words word ≡ true → p word ≡ true
listed_passes p [] word all e = absurd cc
listed_passes p (w ∷ words) word all e =
    elim (or_cases (is_same w word) (is_listed words word) e) [
      | inl h ↦ subst (λ (x : List ℕ). p x ≡ true) (same_text w word h) (and_left (p w) (all_pass p words) all)
      | inr h ↦ listed_passes p words word (and_right (p w) (all_pass p words) all) h
    ]

-- ---- words at the front of a text

abbrev pub shorter_than : ℕ → List ℕ → Bool
shorter_than n word = leb (length word) n

-- longer words first
abbrev pub descends : List (List ℕ) → Bool
descends [] = true
descends (word ∷ words) = all_pass (shorter_than (length word)) words && descends words

pub begins_front : (front rest : List ℕ) → begins (folded front) (front ++ rest) ≡ true
begins_front [] rest = refl
begins_front (b ∷ front) rest = rw (eq-eqb (folded_byte b) (folded_byte b) refl) (begins_front front rest)

abbrev FrontSplits : List ℕ → List ℕ → Type 0
FrontSplits word text = (front : List ℕ) × (rest : List ℕ) × (text ≡ front ++ rest) × (folded front ≡ word) × (length front ≡ length word)

begins_splits : (word text : List ℕ) → begins word text ≡ true → FrontSplits word text
begins_splits [] text e = ([], text, refl, refl, refl)
begins_splits (x ∷ word) [] e = absurd cc
begins_splits (x ∷ word) (b ∷ text) e =
    let first : folded_byte b ≡ x = eqb-true (folded_byte b) x (and_left (eqb (folded_byte b) x) (begins word text) e) in
    let (front, rest, parts, is, len) = begins_splits word text (and_right (eqb (folded_byte b) x) (begins word text) e) in
    (b ∷ front, rest, ap (λ (y : List ℕ). b ∷ y) parts, cc, omega arith)

-- no word of the table that stands at the front is longer
abbrev pub Found : Option ℕ → ℕ → Type 0
Found r m = (n : ℕ) × (r ≡ Some n) × (m ≤ n)

found_turn : (w : List ℕ) (words : List (List ℕ)) (text front rest : List ℕ) (t : Bool) → text ≡ front ++ rest → begins w text ≡ t
    → descends (w ∷ words) ≡ true → is_listed (w ∷ words) (folded front) ≡ true
    → (descends words ≡ true → is_listed words (folded front) ≡ true → Found (front_in words text) (length front))
    → length (folded front) ≡ length front
    → Found (cond t (Some (length w)) (front_in words text)) (length front)
found_turn w words text front rest true parts is down listed below len =
    elim (or_cases (is_same w (folded front)) (is_listed words (folded front)) listed) [
      | inl h ↦ (length w, refl, omega (arith, ap length (same_text w (folded front) h)))
      | inr h ↦ (length w, refl, omega (arith, leb-true (length (folded front)) (length w) (listed_passes (shorter_than (length w)) words (folded front) (and_left (all_pass (shorter_than (length w)) words) (descends words) down) h)))
    ]
found_turn w words text front rest false parts is down listed below len =
    elim (or_cases (is_same w (folded front)) (is_listed words (folded front)) listed) [
      | inl h ↦ absurd (opposite (begins w text) (rw (parts, same_text w (folded front) h) (begins_front front rest)) is)
      | inr h ↦ below (and_right (all_pass (shorter_than (length w)) words) (descends words) down) h
    ]

pub length-folded : (bytes : List ℕ) → length (folded bytes) ≡ length bytes
length-folded [] = refl
length-folded (b ∷ bytes) = ap suc (length-folded bytes)

pub front_found : (words : List (List ℕ)) (text front rest : List ℕ) → text ≡ front ++ rest → descends words ≡ true → is_listed words (folded front) ≡ true
    → Found (front_in words text) (length front)
front_found [] text front rest parts down listed = absurd cc
front_found (w ∷ words) text front rest parts down listed =
    found_turn w words text front rest (begins w text) parts refl down listed (λ d l. front_found words text front rest parts d l) (length-folded front)

abbrev pub WordSplits : List (List ℕ) → List ℕ → ℕ → Type 0
WordSplits words text n = (front : List ℕ) × (rest : List ℕ) × (text ≡ front ++ rest) × (length front ≡ n) × (is_listed words (folded front) ≡ true)

same_self : (word : List ℕ) → is_same word word ≡ true
same_self [] = refl
same_self (x ∷ []) = eq-eqb x x refl
same_self (x ∷ y ∷ word) = rw (eq-eqb x x refl) (same_self (y ∷ word))

word_turn : (w : List ℕ) (words : List (List ℕ)) (text : List ℕ) (n : ℕ) (t : Bool) → begins w text ≡ t
    → ((m : ℕ) → front_in words text ≡ Some m → WordSplits words text m)
    → cond t (Some (length w)) (front_in words text) ≡ Some n → WordSplits (w ∷ words) text n
word_turn w words text n true is below e =
    let (front, rest, parts, same, len) = begins_splits w text is in
    let size = some_same (length w) n e in
    (front, rest, parts, omega arith, rw (same, same_self w) refl)
word_turn w words text n false is below e =
    let (front, rest, parts, len, listed) = below n e in
    (front, rest, parts, len, or_right (is_same w (folded front)) (is_listed words (folded front)) listed)
  where
    or_right : (a b : Bool) → b ≡ true → (a || b) ≡ true
    or_right true b e = refl
    or_right false b e = e

pub front_splits : (words : List (List ℕ)) (text : List ℕ) (n : ℕ) → front_in words text ≡ Some n → WordSplits words text n
front_splits [] text n e = absurd cc
front_splits (w ∷ words) text n e = word_turn w words text n (begins w text) refl (λ m. front_splits words text m) e
