-- The next piece where it is a name, a symbol or a sign; and after a backslash.
use Rattle.std.proofs.Common.{◌≡◌, ℕ, suc, ◌+◌, inl, inr, Bool, true, false, cond, List, [], ◌∷◌, ◌++◌, length, take, drop, Ok, Err, Option, Some, None, refl, sym, ap, subst, ◌∙◌, append_assoc, arith}
use Rattle.std.proofs.lemmas.List.{length-take, take-append-drop, drop_at, length-append}
use Rattle.std.proofs.lemmas.Bool.{eqb-true}
use Rattle.std.proofs.Math.Dec.{eqb}
use Rattle.std.specs.List.{prefix_len}
use Rattle.dy_base.specs.declared.kind.Kind.{Kind}
use Rattle.dy_base.specs.declared.kind.Kind.TheVariants.{BadByte}
use Rattle.dy_tree.specs.declared.token.TokenKind.{TokenKind}
use Rattle.dy_tree.specs.declared.token.TokenKind.TheVariants as kinds
use Rattle.dy_pieces.specs.declared.class.Piece.{Piece}
use Rattle.dy_pieces.specs.declared.class.Piece.TheVariants.{Token, Comment, Blank}
use Rattle.dy_pieces.specs.declared.class.Class.{Class}
use Rattle.dy_pieces.specs.declared.class.Class.TheVariants.{Letter, Graphic, Joint, Sign}
use Rattle.dy_pieces.specs.Bytes.{class_of, in_name}
use Rattle.dy_pieces.specs.Pieces.{name_len, is_alone, ends_symbol, front, or_sign, sign_at, named}
use Rattle.dy_pieces.specs.Forms.{IsForm, IsBroken, IsName, class_fault}
use Rattle.dy_pieces.proofs.Runs.{some_same, same_value, not_none, name_of, name_splits}
use Rattle.dy_pieces.proofs.Lists.{opposite}
use Rattle.dy_pieces.proofs.Heads.{starts, Within, within_le, Answers, most_of, stuck_at}
use Rattle.dy_pieces.proofs.Signs.{Signed, signed_form, signed_short, front_signed, front_splits, signed_below, Short}

-- the kinds that begin with a letter, a graphic character or a sign
abbrev pub Wordlike : Piece → Type 0
Wordlike (Token kinds.Name) = Unit {0}
Wordlike (Token kinds.Symbol) = Unit {0}
Wordlike (Token kinds.Operator) = Unit {0}
Wordlike (Token kinds.Punctuation) = Unit {0}
Wordlike _ = ⊥

pub letter_only : (k : Piece) → starts k Letter ≡ true → Wordlike k
letter_only (Token kinds.Name) s = tt
letter_only (Token kinds.Symbol) s = tt
letter_only (Token kinds.Operator) s = tt
letter_only (Token kinds.Punctuation) s = tt
letter_only k s = absurd cc

pub graphic_only : (k : Piece) → starts k Graphic ≡ true → Wordlike k
graphic_only (Token kinds.Name) s = tt
graphic_only (Token kinds.Symbol) s = tt
graphic_only (Token kinds.Operator) s = tt
graphic_only (Token kinds.Punctuation) s = tt
graphic_only k s = absurd cc

pub joint_only : (k : Piece) → starts k Joint ≡ true → Wordlike k
joint_only (Token kinds.Name) s = tt
joint_only (Token kinds.Symbol) s = tt
joint_only (Token kinds.Operator) s = tt
joint_only (Token kinds.Punctuation) s = tt
joint_only k s = absurd cc

pub sign_only : (k : Piece) → starts k Sign ≡ true → Wordlike k
sign_only (Token kinds.Name) s = tt
sign_only (Token kinds.Symbol) s = tt
sign_only (Token kinds.Operator) s = tt
sign_only (Token kinds.Punctuation) s = tt
sign_only k s = absurd cc

-- what a front of the text can be there
abbrev pub Front : Piece → List ℕ → List ℕ → Type 0
Front (Token kinds.Name) p rest = IsName p
Front (Token kinds.Symbol) p rest = (name : List ℕ) × (p ≡ name ++ 58 ∷ []) × IsName name × (is_alone rest ≡ true)
Front (Token kinds.Operator) p rest = Signed kinds.Operator p
Front (Token kinds.Punctuation) p rest = Signed kinds.Punctuation p
Front _ p rest = ⊥

front_of : (k : Piece) (b : ℕ) (fs rest : List ℕ) → (b ≡ 35 → ⊥) → Wordlike k → IsForm k (b ∷ fs) rest → Front k (b ∷ fs) rest
front_of (Token kinds.Name) b fs rest hash w h = h
front_of (Token kinds.Symbol) b fs rest hash w (inl h) = h
front_of (Token kinds.Symbol) b fs rest hash w (inr h) = let (body, e, close) = h in let same : b ≡ 35 = cc in absurd (hash same)
front_of (Token kinds.Operator) b fs rest hash w h = h
front_of (Token kinds.Punctuation) b fs rest hash w (inl h) = h
front_of (Token kinds.Punctuation) b fs rest hash w (inr (inl h)) = let same : b ≡ 35 = cc in absurd (hash same)
front_of (Token kinds.Punctuation) b fs rest hash w (inr (inr h)) = let same : b ≡ 35 = cc in absurd (hash same)
front_of (Token kinds.Escaped) b fs rest hash w h = absurd w
front_of (Token kinds.Int) b fs rest hash w h = absurd w
front_of (Token kinds.Char) b fs rest hash w h = absurd w
front_of (Token kinds.Str) b fs rest hash w h = absurd w
front_of (Token kinds.Mark) b fs rest hash w h = absurd w
front_of (Token kinds.PatternVar) b fs rest hash w h = absurd w
front_of (Token kinds.CallSite) b fs rest hash w h = absurd w
front_of Comment b fs rest hash w h = absurd w
front_of Blank b fs rest hash w h = absurd w

-- ---- names and symbols

-- a name before a colon ends there
name_before : (name gs : List ℕ) (n : ℕ) → IsName name → name_len ((name ++ 58 ∷ []) ++ gs) ≡ Some n → length name ≡ n
name_before name gs n is e =
    let parts = append_assoc name (58 ∷ []) gs in
    let found = name_of name (58 ∷ gs) is in
    let sum = some_same n (length name + 0) (sym e ∙ ap name_len parts ∙ found) in
    omega arith

symbol_drop : (name gs : List ℕ) (n : ℕ) → length name ≡ n → drop n ((name ++ 58 ∷ []) ++ gs) ≡ 58 ∷ gs
symbol_drop name gs n len = ap (drop n) (append_assoc name (58 ∷ []) gs) ∙ drop_at name (58 ∷ gs) n len

length_symbol : (name : List ℕ) → length (name ++ 58 ∷ []) ≡ length name + 1
length_symbol name = length-append name (58 ∷ [])

-- a front beside a name of n bytes, by whether a symbol ends there
name_most : (text : List ℕ) (n : ℕ) → name_len text ≡ Some n → ends_symbol (drop n text) ≡ false
    → (k : Piece) (p rest : List ℕ) → text ≡ p ++ rest → Front k p rest → Within (length p) n k (Token kinds.Name)
name_most text n is no_symbol (Token kinds.Name) p rest e h =
    let found = name_of p rest h in
    let sum = same_value n (length p + prefix_len in_name rest) (name_len text) is (ap name_len e ∙ found) in
    within_le (length p) n (Token kinds.Name) (omega arith)
name_most text n is no_symbol (Token kinds.Symbol) p rest e h =
    let (name, parts, named_, alone) = h in
    let e2 : text ≡ (name ++ 58 ∷ []) ++ rest = e ∙ ap (λ (x : List ℕ). x ++ rest) parts in
    let len = name_before name rest n named_ (ap name_len (sym e2) ∙ is) in
    let stands : drop n text ≡ 58 ∷ rest = ap (drop n) e2 ∙ symbol_drop name rest n len in
    let bad : ends_symbol (drop n text) ≡ true = rw stands alone in
    absurd (opposite (ends_symbol (drop n text)) bad no_symbol)
name_most text n is no_symbol (Token kinds.Operator) p rest e h = inl (signed_below kinds.Operator p rest n h (ap name_len (sym e) ∙ is))
name_most text n is no_symbol (Token kinds.Punctuation) p rest e h = inl (signed_below kinds.Punctuation p rest n h (ap name_len (sym e) ∙ is))
name_most text n is no_symbol k p rest e h = absurd h

symbol_most : (text : List ℕ) (n : ℕ) → name_len text ≡ Some n
    → (k : Piece) (p rest : List ℕ) → text ≡ p ++ rest → Front k p rest → Within (length p) (n + 1) k (Token kinds.Symbol)
symbol_most text n is (Token kinds.Name) p rest e h =
    let found = name_of p rest h in
    let sum = same_value n (length p + prefix_len in_name rest) (name_len text) is (ap name_len e ∙ found) in
    inl (omega arith)
symbol_most text n is (Token kinds.Symbol) p rest e h =
    let (name, parts, named_, alone) = h in
    let e2 : text ≡ (name ++ 58 ∷ []) ++ rest = e ∙ ap (λ (x : List ℕ). x ++ rest) parts in
    let len = name_before name rest n named_ (ap name_len (sym e2) ∙ is) in
    inr (omega (arith, ap length parts, length_symbol name), refl)
symbol_most text n is (Token kinds.Operator) p rest e h = let less = signed_below kinds.Operator p rest n h (ap name_len (sym e) ∙ is) in inl (omega arith)
symbol_most text n is (Token kinds.Punctuation) p rest e h = let less = signed_below kinds.Punctuation p rest n h (ap name_len (sym e) ∙ is) in inl (omega arith)
symbol_most text n is k p rest e h = absurd h

abbrev SymbolRest : List ℕ → Type 0
SymbolRest rest = (after : List ℕ) × (rest ≡ 58 ∷ after) × (is_alone after ≡ true)

symbol_rest : (rest : List ℕ) → ends_symbol rest ≡ true → SymbolRest rest
symbol_rest [] e = absurd cc
symbol_rest (b ∷ after) e = go (eqb b 58) refl e
  where
    go : (t : Bool) → eqb b 58 ≡ t → cond t (is_alone after) false ≡ true → SymbolRest (b ∷ after)
    go true colon alone = (after, ap (λ (x : ℕ). x ∷ after) (eqb-true b 58 colon), alone)
    go false colon alone = absurd cc

module _ (b : ℕ) (bs : List ℕ) (c : Class) (is : class_of b ≡ c) (hash : b ≡ 35 → ⊥) (only : (k : Piece) → starts k c ≡ true → Wordlike k)
    (sound : (f : Kind) → IsBroken f (b ∷ bs) → ⊥) where
  lifted : (n : ℕ) (best : Piece) → ((k : Piece) (p rest : List ℕ) → b ∷ bs ≡ p ++ rest → Front k p rest → Within (length p) n k best)
      → (k : Piece) (fs gs : List ℕ) → starts k c ≡ true → bs ≡ fs ++ gs → IsForm k (b ∷ fs) gs → Within (suc (length fs)) n k best
  lifted n best most k fs gs s e h = most k (b ∷ fs) gs (ap (λ (x : List ℕ). b ∷ x) e) (front_of k b fs gs hash (only k s) h)

  word_answers : (n : ℕ) (t : Bool) → name_len (b ∷ bs) ≡ Some n → ends_symbol (drop n (b ∷ bs)) ≡ t
      → Answers (Ok (cond t (Token kinds.Symbol, n + 1) (Token kinds.Name, n))) (b ∷ bs)
  word_answers n true e symbol =
      let (q, rest, parts, len, name) = name_splits (b ∷ bs) n e in
      let back : drop n (b ∷ bs) ≡ rest = ap (drop n) parts ∙ drop_at q rest n len in
      let (after, colon, alone) = symbol_rest rest (ap ends_symbol (sym back) ∙ symbol) in
      record {
        piece = q ++ 58 ∷ [];
        rest = after;
        parts = parts ∙ ap (λ (x : List ℕ). q ++ x) colon ∙ sym (append_assoc q (58 ∷ []) after);
        len = omega (arith, length_symbol q);
        form = inl (q, refl, name, alone);
        most = most_of (Token kinds.Symbol) (n + 1) b bs c is (lifted (n + 1) (Token kinds.Symbol) (symbol_most (b ∷ bs) n e));
        sound = sound;
      }
  word_answers n false e symbol =
      let (q, rest, parts, len, name) = name_splits (b ∷ bs) n e in
      record {
        piece = q;
        rest = rest;
        parts = parts;
        len = len;
        form = name;
        most = most_of (Token kinds.Name) n b bs c is (lifted n (Token kinds.Name) (name_most (b ∷ bs) n e symbol));
        sound = sound;
      }

  -- where no name begins: of the signs the longest
  signs_most : (n : ℕ) (best : TokenKind) → name_len (b ∷ bs) ≡ None
      → ((k : TokenKind) (m : ℕ) → Short m → front m (b ∷ bs) ≡ Some k → Within m n (Token k) (Token best))
      → (k : Piece) (p rest : List ℕ) → b ∷ bs ≡ p ++ rest → Front k p rest → Within (length p) n k (Token best)
  signs_most n best none below (Token kinds.Name) p rest e h = absurd (not_none (length p + prefix_len in_name rest) (name_len (b ∷ bs)) (ap name_len e ∙ name_of p rest h) none)
  signs_most n best none below (Token kinds.Symbol) p rest e h =
      let (name, parts, named_, alone) = h in
      let e2 : b ∷ bs ≡ name ++ 58 ∷ rest = e ∙ ap (λ (x : List ℕ). x ++ rest) parts ∙ append_assoc name (58 ∷ []) rest in
      absurd (not_none (length name + prefix_len in_name (58 ∷ rest)) (name_len (b ∷ bs)) (ap name_len e2 ∙ name_of name (58 ∷ rest) named_) none)
  signs_most n best none below (Token kinds.Operator) p rest e h = below kinds.Operator (length p) (signed_short kinds.Operator p h) (front_signed (length p) (b ∷ bs) p rest kinds.Operator e refl h)
  signs_most n best none below (Token kinds.Punctuation) p rest e h = below kinds.Punctuation (length p) (signed_short kinds.Punctuation p h) (front_signed (length p) (b ∷ bs) p rest kinds.Punctuation e refl h)
  signs_most n best none below k p rest e h = absurd h

  sign_best : (n : ℕ) (best : TokenKind) → name_len (b ∷ bs) ≡ None → front n (b ∷ bs) ≡ Some best
      → ((k : TokenKind) (m : ℕ) → Short m → front m (b ∷ bs) ≡ Some k → Within m n (Token k) (Token best))
      → Answers (Ok (Token best, n)) (b ∷ bs)
  sign_best n best none found below =
      let (long, signed) = front_splits n (b ∷ bs) best found in
      record {
        piece = take n (b ∷ bs);
        rest = drop n (b ∷ bs);
        parts = sym (take-append-drop n (b ∷ bs));
        len = omega (arith, length-take n (b ∷ bs));
        form = signed_form best (take n (b ∷ bs)) (drop n (b ∷ bs)) signed;
        most = most_of (Token best) n b bs c is (lifted n (Token best) (signs_most n best none below));
        sound = sound;
      }

  same_kind : (n : ℕ) (k best : TokenKind) (r : Option TokenKind) → r ≡ Some best → r ≡ Some k → Within n n (Token k) (Token best)
  same_kind n k best r e f = let same : k ≡ best = cc in inr (refl, ap (λ (x : TokenKind). Token x) same)

  no_kind : (k : TokenKind) (r : Option TokenKind) → r ≡ None → r ≡ Some k → ⊥
  no_kind k r e f = absurd cc

  below_three : (k3 : TokenKind) → front 3 (b ∷ bs) ≡ Some k3 → (k : TokenKind) (m : ℕ) → Short m → front m (b ∷ bs) ≡ Some k → Within m 3 (Token k) (Token k3)
  below_three k3 e k m (inl one) f = inl (omega arith)
  below_three k3 e k m (inr (inl two)) f = inl (omega arith)
  below_three k3 e k m (inr (inr three)) f =
      let g : front 3 (b ∷ bs) ≡ Some k = ap (λ (x : ℕ). front x (b ∷ bs)) (sym three) ∙ f in
      subst (λ (x : ℕ). Within x 3 (Token k) (Token k3)) (sym three) (same_kind 3 k k3 (front 3 (b ∷ bs)) e g)

  below_two : (k2 : TokenKind) → front 3 (b ∷ bs) ≡ None → front 2 (b ∷ bs) ≡ Some k2 → (k : TokenKind) (m : ℕ) → Short m → front m (b ∷ bs) ≡ Some k → Within m 2 (Token k) (Token k2)
  below_two k2 n3 e k m (inl one) f = inl (omega arith)
  below_two k2 n3 e k m (inr (inl two)) f =
      let g : front 2 (b ∷ bs) ≡ Some k = ap (λ (x : ℕ). front x (b ∷ bs)) (sym two) ∙ f in
      subst (λ (x : ℕ). Within x 2 (Token k) (Token k2)) (sym two) (same_kind 2 k k2 (front 2 (b ∷ bs)) e g)
  below_two k2 n3 e k m (inr (inr three)) f = absurd (no_kind k (front 3 (b ∷ bs)) n3 (ap (λ (x : ℕ). front x (b ∷ bs)) (sym three) ∙ f))

  below_one : (k1 : TokenKind) → front 3 (b ∷ bs) ≡ None → front 2 (b ∷ bs) ≡ None → front 1 (b ∷ bs) ≡ Some k1 → (k : TokenKind) (m : ℕ) → Short m → front m (b ∷ bs) ≡ Some k → Within m 1 (Token k) (Token k1)
  below_one k1 n3 n2 e k m (inl one) f =
      let g : front 1 (b ∷ bs) ≡ Some k = ap (λ (x : ℕ). front x (b ∷ bs)) (sym one) ∙ f in
      subst (λ (x : ℕ). Within x 1 (Token k) (Token k1)) (sym one) (same_kind 1 k k1 (front 1 (b ∷ bs)) e g)
  below_one k1 n3 n2 e k m (inr (inl two)) f = absurd (no_kind k (front 2 (b ∷ bs)) n2 (ap (λ (x : ℕ). front x (b ∷ bs)) (sym two) ∙ f))
  below_one k1 n3 n2 e k m (inr (inr three)) f = absurd (no_kind k (front 3 (b ∷ bs)) n3 (ap (λ (x : ℕ). front x (b ∷ bs)) (sym three) ∙ f))

  no_front : front 3 (b ∷ bs) ≡ None → front 2 (b ∷ bs) ≡ None → front 1 (b ∷ bs) ≡ None → (k : TokenKind) (m : ℕ) → Short m → front m (b ∷ bs) ≡ Some k → ⊥
  no_front n3 n2 n1 k m (inl one) f = no_kind k (front 1 (b ∷ bs)) n1 (ap (λ (x : ℕ). front x (b ∷ bs)) (sym one) ∙ f)
  no_front n3 n2 n1 k m (inr (inl two)) f = no_kind k (front 2 (b ∷ bs)) n2 (ap (λ (x : ℕ). front x (b ∷ bs)) (sym two) ∙ f)
  no_front n3 n2 n1 k m (inr (inr three)) f = no_kind k (front 3 (b ∷ bs)) n3 (ap (λ (x : ℕ). front x (b ∷ bs)) (sym three) ∙ f)

  no_sign : name_len (b ∷ bs) ≡ None → ((k : TokenKind) (m : ℕ) → Short m → front m (b ∷ bs) ≡ Some k → ⊥)
      → (k : Piece) (p rest : List ℕ) → b ∷ bs ≡ p ++ rest → Front k p rest → ⊥
  no_sign none bar (Token kinds.Name) p rest e h = absurd (not_none (length p + prefix_len in_name rest) (name_len (b ∷ bs)) (ap name_len e ∙ name_of p rest h) none)
  no_sign none bar (Token kinds.Symbol) p rest e h =
      let (name, parts, named_, alone) = h in
      let e2 : b ∷ bs ≡ name ++ 58 ∷ rest = e ∙ ap (λ (x : List ℕ). x ++ rest) parts ∙ append_assoc name (58 ∷ []) rest in
      absurd (not_none (length name + prefix_len in_name (58 ∷ rest)) (name_len (b ∷ bs)) (ap name_len e2 ∙ name_of name (58 ∷ rest) named_) none)
  no_sign none bar (Token kinds.Operator) p rest e h = bar kinds.Operator (length p) (signed_short kinds.Operator p h) (front_signed (length p) (b ∷ bs) p rest kinds.Operator e refl h)
  no_sign none bar (Token kinds.Punctuation) p rest e h = bar kinds.Punctuation (length p) (signed_short kinds.Punctuation p h) (front_signed (length p) (b ∷ bs) p rest kinds.Punctuation e refl h)
  no_sign none bar k p rest e h = absurd h

  signs : name_len (b ∷ bs) ≡ None → BadByte ≡ class_fault c → (r3 r2 r1 : Option TokenKind) → front 3 (b ∷ bs) ≡ r3 → front 2 (b ∷ bs) ≡ r2 → front 1 (b ∷ bs) ≡ r1
      → Answers (or_sign 3 r3 (or_sign 2 r2 (or_sign 1 r1 (Err BadByte)))) (b ∷ bs)
  signs none bad (Some k3) r2 r1 e3 e2 e1 = sign_best 3 k3 none e3 (below_three k3 e3)
  signs none bad None (Some k2) r1 e3 e2 e1 = sign_best 2 k2 none e2 (below_two k2 e3 e2)
  signs none bad None None (Some k1) e3 e2 e1 = sign_best 1 k1 none e1 (below_one k1 e3 e2 e1)
  signs none bad None None None e3 e2 e1 =
      stuck_at BadByte b bs c is bad (λ k fs gs s e h. no_sign none (no_front e3 e2 e1) k (b ∷ fs) gs (ap (λ (x : List ℕ). b ∷ x) e) (front_of k b fs gs hash (only k s) h)) sound

  pub sign_answers : name_len (b ∷ bs) ≡ None → BadByte ≡ class_fault c → Answers (sign_at (b ∷ bs)) (b ∷ bs)
  sign_answers none bad = signs none bad (front 3 (b ∷ bs)) (front 2 (b ∷ bs)) (front 1 (b ∷ bs)) refl refl refl

  pub named_answers : (r : Option ℕ) → name_len (b ∷ bs) ≡ r → BadByte ≡ class_fault c → Answers (named r (b ∷ bs)) (b ∷ bs)
  named_answers (Some n) e bad = word_answers n (ends_symbol (drop n (b ∷ bs))) e refl
  named_answers None e bad = sign_answers e bad
