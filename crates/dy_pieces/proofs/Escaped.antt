-- The next piece after a backslash.
use Rattle.std.proofs.Common.{◌≡◌, ℕ, suc, ◌+◌, ◌≤◌, ◌⊎◌, inl, inr, Bool, true, false, cond, List, ◌∷◌, ◌++◌, length, take, drop, Ok, Err, Option, Some, None, refl, sym, ap, subst, ◌∙◌, arith}
use Rattle.std.proofs.lemmas.List.{length-take, take-append-drop, take_at, length-append}
use Rattle.std.proofs.lemmas.Bool.{le-leb, leb-true}
use Rattle.std.proofs.Math.Dec.{leb}
use Rattle.std.specs.List.{prefix_len}
use Rattle.dy_base.specs.declared.kind.Kind.TheVariants.{BadByte}
use Rattle.dy_tree.specs.declared.token.TokenKind.TheVariants as kinds
use Rattle.dy_pieces.specs.declared.class.Piece.{Piece}
use Rattle.dy_pieces.specs.declared.class.Piece.TheVariants.{Token}
use Rattle.dy_pieces.specs.declared.class.Class.TheVariants.{Backslash}
use Rattle.dy_pieces.specs.Bytes.{class_of, in_name}
use Rattle.dy_pieces.specs.Words.{escapable, is_listed}
use Rattle.dy_pieces.specs.Pieces.{name_len, escapable_front, escaped}
use Rattle.dy_pieces.specs.Forms.{IsForm, IsName}
use Rattle.dy_pieces.proofs.Runs.{same_value, not_none, name_of, name_splits}
use Rattle.dy_pieces.proofs.Lists.{listed_passes, opposite, and_left, and_right}
use Rattle.dy_pieces.proofs.Heads.{byte_of, starts, Within, within_le, Answers, most_of, stuck_at, not_broken}
use Rattle.dy_pieces.proofs.Signs.{no_name, sign_below, Short, is_short, short_lengths}

abbrev IsWord : List ℕ → Type 0
IsWord word = IsName word ⊎ (is_listed escapable word ≡ true)

word_of : (b : ℕ) (fs word : List ℕ) → b ∷ fs ≡ 92 ∷ word → IsWord word → IsWord fs
word_of b fs word e h = let same : fs ≡ word = cc in subst IsWord (sym same) h

escaped_most : (n b : ℕ) (bs : List ℕ) → ((fs gs : List ℕ) → bs ≡ fs ++ gs → IsWord fs → length fs ≤ n)
    → (k : Piece) (fs gs : List ℕ) → starts k Backslash ≡ true → bs ≡ fs ++ gs → IsForm k (b ∷ fs) gs → Within (suc (length fs)) (1 + n) k (Token kinds.Escaped)
escaped_most n b bs below (Token kinds.Escaped) fs gs s e h =
    let (word, parts, is) = h in
    let most = below fs gs e (word_of b fs word parts is) in
    within_le (suc (length fs)) (1 + n) (Token kinds.Escaped) (omega arith)
escaped_most n b bs below k fs gs s e h = absurd cc

name_below : (bs : List ℕ) (n : ℕ) → name_len bs ≡ Some n → (fs gs : List ℕ) → bs ≡ fs ++ gs → IsWord fs → length fs ≤ n
name_below bs n is fs gs e (inl h) =
    let sum = same_value n (length fs + prefix_len in_name gs) (name_len bs) is (ap name_len e ∙ name_of fs gs h) in
    omega arith
name_below bs n is fs gs e (inr h) =
    let less = sign_below fs gs n (listed_passes no_name escapable fs refl h) (ap name_len (sym e) ∙ is) in
    omega arith

name_escaped : (b : ℕ) (bs : List ℕ) (n : ℕ) → class_of b ≡ Backslash → name_len bs ≡ Some n → Answers (Ok (Token kinds.Escaped, 1 + n)) (b ∷ bs)
name_escaped b bs n is e =
    let byte : b ≡ 92 = byte_of b Backslash is in
    let (q, rest, parts, len, name) = name_splits bs n e in
    record {
      piece = b ∷ q;
      rest = rest;
      parts = ap (λ (x : List ℕ). b ∷ x) parts;
      len = omega arith;
      form = (q, ap (λ (x : ℕ). x ∷ q) byte, inl name);
      most = most_of (Token kinds.Escaped) (1 + n) b bs Backslash is (escaped_most n b bs (name_below bs n e));
      sound = not_broken Backslash b bs is refl;
    }

-- ---- operators

operator_front : (n : ℕ) (bs fs gs : List ℕ) → bs ≡ fs ++ gs → length fs ≡ n → is_listed escapable fs ≡ true → escapable_front n bs ≡ true
operator_front n bs fs gs e len is =
    let sum = ap length e ∙ length-append fs gs in
    let taken : take n bs ≡ fs = ap (take n) e ∙ take_at fs gs n len in
    let long : leb n (length bs) ≡ true = le-leb n (length bs) (omega arith) in
    rw (taken, is, long) refl

no_word : (bs : List ℕ) → name_len bs ≡ None → (fs gs : List ℕ) → bs ≡ fs ++ gs → IsName fs → ⊥
no_word bs none fs gs e h = not_none (length fs + prefix_len in_name gs) (name_len bs) (ap name_len e ∙ name_of fs gs h) none

operator_escaped : (b : ℕ) (bs : List ℕ) (n : ℕ) → class_of b ≡ Backslash → name_len bs ≡ None → escapable_front n bs ≡ true
    → ((m : ℕ) → Short m → escapable_front m bs ≡ true → m ≤ n) → Answers (Ok (Token kinds.Escaped, 1 + n)) (b ∷ bs)
operator_escaped b bs n is none found most =
    let byte : b ≡ 92 = byte_of b Backslash is in
    let long = leb-true n (length bs) (and_left (leb n (length bs)) (is_listed escapable (take n bs)) found) in
    record {
      piece = b ∷ take n bs;
      rest = drop n bs;
      parts = ap (λ (x : List ℕ). b ∷ x) (sym (take-append-drop n bs));
      len = omega (arith, length-take n bs);
      form = (take n bs, ap (λ (x : ℕ). x ∷ take n bs) byte, inr (and_right (leb n (length bs)) (is_listed escapable (take n bs)) found));
      most = most_of (Token kinds.Escaped) (1 + n) b bs Backslash is (escaped_most n b bs below);
      sound = not_broken Backslash b bs is refl;
    }
  where
    below : (fs gs : List ℕ) → bs ≡ fs ++ gs → IsWord fs → length fs ≤ n
    below fs gs e (inl h) = absurd (no_word bs none fs gs e h)
    below fs gs e (inr h) = most (length fs) (short_lengths fs (listed_passes is_short escapable fs refl h)) (operator_front (length fs) bs fs gs e refl h)

below_three : (bs : List ℕ) (m : ℕ) → Short m → escapable_front m bs ≡ true → m ≤ 3
below_three bs m (inl one) f = omega arith
below_three bs m (inr (inl two)) f = omega arith
below_three bs m (inr (inr three)) f = omega arith

below_two : (bs : List ℕ) → escapable_front 3 bs ≡ false → (m : ℕ) → Short m → escapable_front m bs ≡ true → m ≤ 2
below_two bs n3 m (inl one) f = omega arith
below_two bs n3 m (inr (inl two)) f = omega arith
below_two bs n3 m (inr (inr three)) f = absurd (opposite (escapable_front 3 bs) (subst (λ (x : ℕ). escapable_front x bs ≡ true) three f) n3)

below_one : (bs : List ℕ) → escapable_front 3 bs ≡ false → escapable_front 2 bs ≡ false → (m : ℕ) → Short m → escapable_front m bs ≡ true → m ≤ 1
below_one bs n3 n2 m (inl one) f = omega arith
below_one bs n3 n2 m (inr (inl two)) f = absurd (opposite (escapable_front 2 bs) (subst (λ (x : ℕ). escapable_front x bs ≡ true) two f) n2)
below_one bs n3 n2 m (inr (inr three)) f = absurd (opposite (escapable_front 3 bs) (subst (λ (x : ℕ). escapable_front x bs ≡ true) three f) n3)

no_front : (bs : List ℕ) → escapable_front 3 bs ≡ false → escapable_front 2 bs ≡ false → escapable_front 1 bs ≡ false → (m : ℕ) → Short m → escapable_front m bs ≡ true → ⊥
no_front bs n3 n2 n1 m (inl one) f = opposite (escapable_front 1 bs) (subst (λ (x : ℕ). escapable_front x bs ≡ true) one f) n1
no_front bs n3 n2 n1 m (inr (inl two)) f = opposite (escapable_front 2 bs) (subst (λ (x : ℕ). escapable_front x bs ≡ true) two f) n2
no_front bs n3 n2 n1 m (inr (inr three)) f = opposite (escapable_front 3 bs) (subst (λ (x : ℕ). escapable_front x bs ≡ true) three f) n3

nothing_escaped : (b : ℕ) (bs : List ℕ) → name_len bs ≡ None → ((m : ℕ) → Short m → escapable_front m bs ≡ true → ⊥)
    → (k : Piece) (fs gs : List ℕ) → starts k Backslash ≡ true → bs ≡ fs ++ gs → IsForm k (b ∷ fs) gs → ⊥
nothing_escaped b bs none bar (Token kinds.Escaped) fs gs s e h = go (word_of b fs h.0 h.1 h.2)
  where
    go : IsWord fs → ⊥
    go (inl name) = no_word bs none fs gs e name
    go (inr listed) = bar (length fs) (short_lengths fs (listed_passes is_short escapable fs refl listed)) (operator_front (length fs) bs fs gs e refl listed)
nothing_escaped b bs none bar k fs gs s e h = absurd cc

operators_escaped : (b : ℕ) (bs : List ℕ) (t3 t2 t1 : Bool) → class_of b ≡ Backslash → name_len bs ≡ None
    → escapable_front 3 bs ≡ t3 → escapable_front 2 bs ≡ t2 → escapable_front 1 bs ≡ t1
    → Answers (cond t3 (Ok (Token kinds.Escaped, 4)) (cond t2 (Ok (Token kinds.Escaped, 3)) (cond t1 (Ok (Token kinds.Escaped, 2)) (Err BadByte)))) (b ∷ bs)
operators_escaped b bs true t2 t1 is none n3 n2 n1 = operator_escaped b bs 3 is none n3 (below_three bs)
operators_escaped b bs false true t1 is none n3 n2 n1 = operator_escaped b bs 2 is none n2 (below_two bs n3)
operators_escaped b bs false false true is none n3 n2 n1 = operator_escaped b bs 1 is none n1 (below_one bs n3 n2)
operators_escaped b bs false false false is none n3 n2 n1 =
    stuck_at BadByte b bs Backslash is refl (nothing_escaped b bs none (no_front bs n3 n2 n1)) (not_broken Backslash b bs is refl)

pub escaped_answers : (b : ℕ) (bs : List ℕ) (r : Option ℕ) → class_of b ≡ Backslash → name_len bs ≡ r → Answers (escaped r bs) (b ∷ bs)
escaped_answers b bs (Some n) is e = name_escaped b bs n is e
escaped_answers b bs None is e = operators_escaped b bs (escapable_front 3 bs) (escapable_front 2 bs) (escapable_front 1 bs) is e refl refl refl
