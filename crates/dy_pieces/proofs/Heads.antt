-- What the first byte of a piece says of its kind.
use Rattle.std.proofs.Common.{◌≡◌, ℕ, suc, ◌<◌, ◌≤◌, ◌⊎◌, inl, inr, Bool, true, false, cond, List, [], ◌∷◌, ◌++◌, length, Ok, Err, refl, sym, ap, subst, ◌∙◌, arith}
use Rattle.std.proofs.lemmas.Bool.{eqb-true}
use Rattle.std.proofs.Math.Dec.{eqb}
use Rattle.std.proofs.Math.Nat.{eq-or-lt_of_le}
use Rattle.dy_base.specs.declared.kind.Kind.{Kind}
use Rattle.dy_tree.specs.declared.token.TokenKind.TheVariants as kinds
use Rattle.dy_pieces.specs.declared.class.Piece.{Piece}
use Rattle.dy_pieces.specs.declared.class.Piece.TheVariants.{Token, Comment, Blank}
use Rattle.dy_pieces.specs.declared.class.Class.{Class}
use Rattle.dy_pieces.specs.declared.class.Class.TheVariants.{Letter, Digit, Graphic, Joint, Sign, Slash, Hash, Question, Backslash, SingleQuote, DoubleQuote, Space, Other}
use Rattle.dy_pieces.specs.Bytes.{within, is_letter_byte, is_space_byte, is_graphic, is_joint_byte, is_sign_byte, one_byte_class, class_of}
use Rattle.dy_pieces.specs.Words.{operators, punctuation}
use Rattle.dy_pieces.specs.Pieces.{Found}
use Rattle.dy_pieces.specs.Forms.{IsForm, IsBroken, IsOpenLiteral, IsFault, class_fault}
use Rattle.dy_pieces.proofs.Lists.{listed_passes}

-- ---- classes of one byte

abbrev pub IsByteOf : Class → ℕ → Type 0
IsByteOf Slash b = b ≡ 47
IsByteOf Hash b = b ≡ 35
IsByteOf Question b = b ≡ 63
IsByteOf Backslash b = b ≡ 92
IsByteOf SingleQuote b = b ≡ 39
IsByteOf DoubleQuote b = b ≡ 34
IsByteOf _ b = Unit {0}

test_byte : (b : ℕ) (t : Bool) (c rest : Class) → (t ≡ true → IsByteOf c b) → IsByteOf rest b → IsByteOf (cond t c rest) b
test_byte b true c rest h other = h refl
test_byte b false c rest h other = other

one_byte : (b : ℕ) → IsByteOf (one_byte_class b) b
one_byte b =
    test_byte b (eqb b 47) Slash (cond (eqb b 35) Hash (cond (eqb b 63) Question (cond (eqb b 92) Backslash (cond (eqb b 39) SingleQuote (cond (eqb b 34) DoubleQuote Other))))) (λ e. eqb-true b 47 e)
    (test_byte b (eqb b 35) Hash (cond (eqb b 63) Question (cond (eqb b 92) Backslash (cond (eqb b 39) SingleQuote (cond (eqb b 34) DoubleQuote Other)))) (λ e. eqb-true b 35 e)
    (test_byte b (eqb b 63) Question (cond (eqb b 92) Backslash (cond (eqb b 39) SingleQuote (cond (eqb b 34) DoubleQuote Other))) (λ e. eqb-true b 63 e)
    (test_byte b (eqb b 92) Backslash (cond (eqb b 39) SingleQuote (cond (eqb b 34) DoubleQuote Other)) (λ e. eqb-true b 92 e)
    (test_byte b (eqb b 39) SingleQuote (cond (eqb b 34) DoubleQuote Other) (λ e. eqb-true b 39 e)
    (test_byte b (eqb b 34) DoubleQuote Other (λ e. eqb-true b 34 e) tt)))))

byte_from : (t1 t2 t3 t4 t5 t6 : Bool) (b : ℕ) (c : Class)
    → cond t1 Letter (cond t2 Digit (cond t3 Space (cond t4 Graphic (cond t5 Joint (cond t6 Sign (one_byte_class b)))))) ≡ c → IsByteOf c b
byte_from true t2 t3 t4 t5 t6 b c e = subst (λ (d : Class). IsByteOf d b) e tt
byte_from false true t3 t4 t5 t6 b c e = subst (λ (d : Class). IsByteOf d b) e tt
byte_from false false true t4 t5 t6 b c e = subst (λ (d : Class). IsByteOf d b) e tt
byte_from false false false true t5 t6 b c e = subst (λ (d : Class). IsByteOf d b) e tt
byte_from false false false false true t6 b c e = subst (λ (d : Class). IsByteOf d b) e tt
byte_from false false false false false true b c e = subst (λ (d : Class). IsByteOf d b) e tt
byte_from false false false false false false b c e = subst (λ (d : Class). IsByteOf d b) e (one_byte b)

-- a class of one byte has that byte
pub byte_of : (b : ℕ) (c : Class) → class_of b ≡ c → IsByteOf c b
byte_of b c is = byte_from (is_letter_byte b) (within 48 57 b) (is_space_byte b) (is_graphic b) (is_joint_byte b) (is_sign_byte b) b c is

-- ---- kinds by class

abbrev pub starts : Piece → Class → Bool
starts (Token kinds.Name) Letter = true
starts (Token kinds.Name) Graphic = true
starts (Token kinds.Name) _ = false
starts (Token kinds.Escaped) Backslash = true
starts (Token kinds.Escaped) _ = false
starts (Token kinds.Symbol) Letter = true
starts (Token kinds.Symbol) Graphic = true
starts (Token kinds.Symbol) Hash = true
starts (Token kinds.Symbol) _ = false
starts (Token kinds.Int) Digit = true
starts (Token kinds.Int) Hash = true
starts (Token kinds.Int) _ = false
starts (Token kinds.Char) SingleQuote = true
starts (Token kinds.Char) _ = false
starts (Token kinds.Str) DoubleQuote = true
starts (Token kinds.Str) _ = false
starts (Token kinds.Mark) Hash = true
starts (Token kinds.Mark) _ = false
starts (Token kinds.PatternVar) Question = true
starts (Token kinds.PatternVar) _ = false
starts (Token kinds.CallSite) Question = true
starts (Token kinds.CallSite) _ = false
starts (Token kinds.Operator) Graphic = true
starts (Token kinds.Operator) Joint = true
starts (Token kinds.Operator) Sign = true
starts (Token kinds.Operator) Slash = true
starts (Token kinds.Operator) _ = false
starts (Token kinds.Punctuation) Joint = true
starts (Token kinds.Punctuation) Sign = true
starts (Token kinds.Punctuation) Hash = true
starts (Token kinds.Punctuation) _ = false
starts Comment Slash = true
starts Comment _ = false
starts Blank Space = true
starts Blank _ = false

abbrev pub head_is : (Class → Bool) → List ℕ → Bool
head_is p [] = false
head_is p (b ∷ bs) = p (class_of b)

symbol_head : (name : List ℕ) (b : ℕ) (fs rest : List ℕ) → b ∷ fs ≡ name ++ 58 ∷ [] → IsForm (Token kinds.Name) name rest → starts (Token kinds.Symbol) (class_of b) ≡ true
symbol_head [] b fs rest e h = absurd h
symbol_head (x ∷ name) b fs rest e (inl h) = let same : b ≡ x = cc in rw (same, h.0) refl
symbol_head (x ∷ name) b fs rest e (inr h) = let same : b ≡ x = cc in rw (same, h.0) refl

pub head : (k : Piece) (b : ℕ) (fs rest : List ℕ) → IsForm k (b ∷ fs) rest → starts k (class_of b) ≡ true
head (Token kinds.Name) b fs rest (inl h) = rw h.0 refl
head (Token kinds.Name) b fs rest (inr h) = rw h.0 refl
head (Token kinds.Escaped) b fs rest h = let (word, parts, is) = h in let same : b ≡ 92 = cc in rw same refl
head (Token kinds.Symbol) b fs rest (inl h) = let (name, parts, is, alone) = h in symbol_head name b fs rest parts is
head (Token kinds.Symbol) b fs rest (inr h) = let (body, parts, is) = h in let same : b ≡ 35 = cc in rw same refl
head (Token kinds.Int) b fs rest (inl h) = rw h.0 refl
head (Token kinds.Int) b fs rest (inr h) = let (letter, base, digits, parts, is, some, each) = h in let same : b ≡ 35 = cc in rw same refl
head (Token kinds.Char) b fs rest h = let (body, parts, is) = h in let same : b ≡ 39 = cc in rw same refl
head (Token kinds.Str) b fs rest h = let (body, parts, is) = h in let same : b ≡ 34 = cc in rw same refl
head (Token kinds.Mark) b fs rest h = let (word, parts, is) = h in let same : b ≡ 35 = cc in rw same refl
head (Token kinds.PatternVar) b fs rest (inl h) = let (name, parts, is) = h in let same : b ≡ 63 = cc in rw same refl
head (Token kinds.PatternVar) b fs rest (inr (inl h)) = let (name, word, parts, is, listed) = h in let same : b ≡ 63 = cc in rw same refl
head (Token kinds.PatternVar) b fs rest (inr (inr h)) = let (word, parts, is) = h in let same : b ≡ 63 = cc in rw same refl
head (Token kinds.CallSite) b fs rest h = let (name, parts, is) = h in let same : b ≡ 63 = cc in rw same refl
head (Token kinds.Operator) b fs rest h = listed_passes (head_is (starts (Token kinds.Operator))) operators (b ∷ fs) refl h
head (Token kinds.Punctuation) b fs rest (inl h) = listed_passes (head_is (starts (Token kinds.Punctuation))) punctuation (b ∷ fs) refl h
head (Token kinds.Punctuation) b fs rest (inr (inl h)) = let same : b ≡ 35 = cc in rw same refl
head (Token kinds.Punctuation) b fs rest (inr (inr h)) = let same : b ≡ 35 = cc in rw same refl
head Comment b fs rest (inl h) = let (body, parts, is) = h in let same : b ≡ 47 = cc in rw same refl
head Comment b fs rest (inr h) = let (body, parts, is) = h in let same : b ≡ 47 = cc in rw same refl
head Blank b fs rest h = rw h.0 refl

not_pushed : (name : List ℕ) (x : ℕ) → [] ≡ name ++ x ∷ [] → ⊥
not_pushed [] x e = absurd cc
not_pushed (b ∷ name) x e = absurd cc

pub not_empty : (k : Piece) (rest : List ℕ) → IsForm k [] rest → ⊥
not_empty (Token kinds.Name) rest h = h
not_empty (Token kinds.Escaped) rest h = let e = h.1 in absurd cc
not_empty (Token kinds.Symbol) rest (inl h) = not_pushed h.0 58 h.1
not_empty (Token kinds.Symbol) rest (inr h) = let e = h.1 in absurd cc
not_empty (Token kinds.Int) rest (inl h) = h
not_empty (Token kinds.Int) rest (inr h) = let e = h.3 in absurd cc
not_empty (Token kinds.Char) rest h = let e = h.1 in absurd cc
not_empty (Token kinds.Str) rest h = let e = h.1 in absurd cc
not_empty (Token kinds.Mark) rest h = let e = h.1 in absurd cc
not_empty (Token kinds.PatternVar) rest (inl h) = let e = h.1 in absurd cc
not_empty (Token kinds.PatternVar) rest (inr (inl h)) = let e = h.2 in absurd cc
not_empty (Token kinds.PatternVar) rest (inr (inr h)) = let e = h.1 in absurd cc
not_empty (Token kinds.CallSite) rest h = let e = h.1 in absurd cc
not_empty (Token kinds.Operator) rest h = absurd cc
not_empty (Token kinds.Punctuation) rest (inl h) = absurd cc
not_empty (Token kinds.Punctuation) rest (inr (inl h)) = absurd cc
not_empty (Token kinds.Punctuation) rest (inr (inr h)) = absurd cc
not_empty Comment rest (inl h) = let e = h.1 in absurd cc
not_empty Comment rest (inr h) = let e = h.1 in absurd cc
not_empty Blank rest h = h

-- ---- broken comments and literals

abbrev opens : Class → Bool
opens Slash = true
opens Hash = true
opens SingleQuote = true
opens DoubleQuote = true
opens _ = false

literal_head : (b : ℕ) (bs : List ℕ) → IsOpenLiteral (b ∷ bs) → opens (class_of b) ≡ true
literal_head b bs (inl h) = let e = h.1 in let same : b ≡ 39 = cc in rw same refl
literal_head b bs (inr (inl h)) = let e = h.1 in let same : b ≡ 34 = cc in rw same refl
literal_head b bs (inr (inr h)) = let e = h.1 in let same : b ≡ 35 = cc in rw same refl

broken_head : (f : Kind) (b : ℕ) (bs : List ℕ) → IsBroken f (b ∷ bs) → opens (class_of b) ≡ true
broken_head f b bs (inl h) = let (body, e, is) = h.1 in let same : b ≡ 47 = cc in rw same refl
broken_head f b bs (inr h) = literal_head b bs h.1

pub not_broken : (c : Class) (b : ℕ) (bs : List ℕ) → class_of b ≡ c → opens c ≡ false → (f : Kind) → IsBroken f (b ∷ bs) → ⊥
not_broken c b bs is shut f h =
    let open_ : opens c ≡ true = subst (λ (d : Class). opens d ≡ true) is (broken_head f b bs h) in
    absurd cc

-- ---- the best piece

-- shorter than the best piece, or as long and of its kind
abbrev pub Within : ℕ → ℕ → Piece → Piece → Type 0
Within m n k best = (m < n) ⊎ ((m ≡ n) × (k ≡ best))

pub within_le : (m n : ℕ) (k : Piece) → m ≤ n → Within m n k k
within_le m n k h = elim (eq-or-lt_of_le h) [ inl e ↦ inr (e, refl) | inr l ↦ inl l ]

pub record Best (best : Piece) (n : ℕ) (text : List ℕ) : Type 0 where
  pub piece : List ℕ
  pub rest : List ℕ
  pub parts : text ≡ piece ++ rest
  pub len : length piece ≡ n
  pub form : IsForm best piece rest
  pub most : (k : Piece) (front after : List ℕ) → text ≡ front ++ after → IsForm k front after → Within (length front) n k best
  pub sound : (f : Kind) → IsBroken f text → ⊥

abbrev pub Answers : Found → List ℕ → Type 0
Answers (Ok p) text = Best p.0 p.1 text
Answers (Err f) text = IsFault f text

pub most_of : (best : Piece) (n b : ℕ) (bs : List ℕ) (c : Class) → class_of b ≡ c
    → ((k : Piece) (fs gs : List ℕ) → starts k c ≡ true → bs ≡ fs ++ gs → IsForm k (b ∷ fs) gs → Within (suc (length fs)) n k best)
    → (k : Piece) (front after : List ℕ) → b ∷ bs ≡ front ++ after → IsForm k front after → Within (length front) n k best
most_of best n b bs c is below k [] after e h = absurd (not_empty k after h)
most_of best n b bs c is below k (x ∷ fs) after e h =
    let same : b ≡ x = cc in
    let rest : bs ≡ fs ++ after = cc in
    let here : IsForm k (b ∷ fs) after = subst (λ (y : ℕ). IsForm k (y ∷ fs) after) (sym same) h in
    below k fs after (subst (λ (d : Class). starts k d ≡ true) is (head k b fs after here)) rest here

pub none_of : (b : ℕ) (bs : List ℕ) (c : Class) → class_of b ≡ c
    → ((k : Piece) (fs gs : List ℕ) → starts k c ≡ true → bs ≡ fs ++ gs → IsForm k (b ∷ fs) gs → ⊥)
    → (k : Piece) (front after : List ℕ) → b ∷ bs ≡ front ++ after → IsForm k front after → ⊥
none_of b bs c is below k [] after e h = not_empty k after h
none_of b bs c is below k (x ∷ fs) after e h =
    let same : b ≡ x = cc in
    let rest : bs ≡ fs ++ after = cc in
    let here : IsForm k (b ∷ fs) after = subst (λ (y : ℕ). IsForm k (y ∷ fs) after) (sym same) h in
    below k fs after (subst (λ (d : Class). starts k d ≡ true) is (head k b fs after here)) rest here

pub stuck_at : (f : Kind) (b : ℕ) (bs : List ℕ) (c : Class) → class_of b ≡ c → f ≡ class_fault c
    → ((k : Piece) (fs gs : List ℕ) → starts k c ≡ true → bs ≡ fs ++ gs → IsForm k (b ∷ fs) gs → ⊥)
    → ((f : Kind) → IsBroken f (b ∷ bs) → ⊥) → IsFault f (b ∷ bs)
stuck_at f b bs c is kind none sound = inr (kind ∙ ap class_fault (sym is), record { some = omega arith; none = none_of b bs c is none; sound = sound })
