-- The next piece after #.
use Rattle.std.proofs.Common.{◌≡◌, ℕ, zero, suc, ◌+◌, ◌<◌, ◌≤◌, ◌⊎◌, inl, inr, Bool, true, false, ◌||◌, cond, List, [], ◌∷◌, ◌++◌, length, Ok, Err, Option, Some, None, refl, sym, ap, subst, ◌∙◌, arith}
use Rattle.std.proofs.lemmas.Bool.{eqb-true, eq-eqb, false≢true}
use Rattle.std.proofs.Math.Dec.{eqb}
use Rattle.std.specs.List.{prefix_len}
use Rattle.dy_base.specs.Folding.{folded_byte, folded}
use Rattle.dy_base.specs.declared.kind.Kind.{Kind}
use Rattle.dy_base.specs.declared.kind.Kind.TheVariants.{BadLiteral, OpenString}
use Rattle.dy_tree.specs.declared.token.TokenKind.TheVariants as kinds
use Rattle.dy_pieces.specs.declared.class.Piece.{Piece}
use Rattle.dy_pieces.specs.declared.class.Piece.TheVariants.{Token}
use Rattle.dy_pieces.specs.declared.class.Class.{Class}
use Rattle.dy_pieces.specs.declared.class.Class.TheVariants.{Hash, Letter, Digit, Graphic}
use Rattle.dy_pieces.specs.Bytes.{class_of, in_base, base_of}
use Rattle.dy_pieces.specs.Words.{punctuation, marks, is_listed, front_in}
use Rattle.dy_pieces.specs.Scan.{literal_step, literal_end}
use Rattle.dy_pieces.specs.Pieces.{closed, number_at, marked, hash_at}
use Rattle.dy_pieces.specs.Forms.{IsForm, IsBroken, IsName, IsClosed, Each}
use Rattle.dy_pieces.proofs.Runs.{run_splits, run_longest, same_value, not_none, stable, splits}
use Rattle.dy_pieces.proofs.Lists.{listed_passes, opposite, or_cases, front_found, front_splits}
use Rattle.dy_pieces.proofs.Heads.{byte_of, starts, head_is, Within, within_le, Answers, most_of, stuck_at}
use Rattle.dy_pieces.proofs.Simple.{heads}

-- the first letters of the marks
abbrev begins_mark : ℕ → Bool
begins_mark x = eqb x 97 || (eqb x 110 || (eqb x 114 || (eqb x 107 || (eqb x 116 || eqb x 102))))

abbrev first_begins : List ℕ → Bool
first_begins [] = false
first_begins (x ∷ xs) = begins_mark x

mark_first : (c : ℕ) (fs : List ℕ) → is_listed marks (folded (c ∷ fs)) ≡ true → begins_mark (folded_byte c) ≡ true
mark_first c fs h = listed_passes first_begins marks (folded (c ∷ fs)) refl h

base_not_mark : (c base : ℕ) → base_of c ≡ Some base → begins_mark (folded_byte c) ≡ true → ⊥
base_not_mark c base e mark = go (eqb c 98 || eqb c 66) (eqb c 111 || eqb c 79) (eqb c 120 || eqb c 88) refl refl refl e
  where
    bar : (x : ℕ) → c ≡ x → begins_mark (folded_byte x) ≡ false → ⊥
    bar x same no_mark = opposite (begins_mark (folded_byte c)) mark (ap (λ (y : ℕ). begins_mark (folded_byte y)) same ∙ no_mark)

    either : (x y : ℕ) → begins_mark (folded_byte x) ≡ false → begins_mark (folded_byte y) ≡ false → (eqb c x || eqb c y) ≡ true → ⊥
    either x y p q h = elim (or_cases (eqb c x) (eqb c y) h) [ inl h ↦ bar x (eqb-true c x h) p | inr h ↦ bar y (eqb-true c y h) q ]

    go : (t u v : Bool) → (eqb c 98 || eqb c 66) ≡ t → (eqb c 111 || eqb c 79) ≡ u → (eqb c 120 || eqb c 88) ≡ v → cond t (Some 2) (cond u (Some 8) (cond v (Some 16) None)) ≡ Some base → ⊥
    go true u v f g h is = either 98 66 refl refl f
    go false true v f g h is = either 111 79 refl refl g
    go false false true f g h is = either 120 88 refl refl h
    go false false false f g h is = absurd cc

-- what can stand after the #
abbrev After : Piece → List ℕ → Type 0
After (Token kinds.Symbol) q = (body : List ℕ) × (q ≡ 34 ∷ body) × IsClosed 34 body
After (Token kinds.Int) q = (letter : ℕ) × (base : ℕ) × (digits : List ℕ) × (q ≡ letter ∷ digits) × (base_of letter ≡ Some base) × (0 < length digits) × Each (in_base base) digits
After (Token kinds.Mark) q = is_listed marks (folded q) ≡ true
After (Token kinds.Punctuation) q = (q ≡ 40 ∷ []) ⊎ (q ≡ 91 ∷ [])
After _ q = ⊥

abbrev not_hash : Class → Bool
not_hash Hash = false
not_hash _ = true

no_keyword : (name : List ℕ) (b : ℕ) (fs : List ℕ) → class_of b ≡ Hash → b ∷ fs ≡ name ++ 58 ∷ [] → IsName name → ⊥
no_keyword [] b fs is e h = h
no_keyword (x ∷ name) b fs is e (inl h) = let same : b ≡ x = cc in let clash : Hash ≡ Letter = sym is ∙ ap class_of same ∙ h.0 in absurd cc
no_keyword (x ∷ name) b fs is e (inr h) = let same : b ≡ x = cc in let clash : Hash ≡ Graphic = sym is ∙ ap class_of same ∙ h.0 in absurd cc

after_of : (k : Piece) (b : ℕ) (fs gs : List ℕ) → class_of b ≡ Hash → starts k Hash ≡ true → IsForm k (b ∷ fs) gs → After k fs
after_of (Token kinds.Symbol) b fs gs is s (inl h) = absurd (no_keyword h.0 b fs is h.1 h.2)
after_of (Token kinds.Symbol) b fs gs is s (inr h) = let (body, e, close) = h in let same : fs ≡ 34 ∷ body = cc in (body, same, close)
after_of (Token kinds.Int) b fs gs is s (inl h) = let clash : Hash ≡ Digit = sym is ∙ h.0 in absurd cc
after_of (Token kinds.Int) b fs gs is s (inr h) =
    let (letter, base, digits, e, of, some, each) = h in
    let same : fs ≡ letter ∷ digits = cc in
    (letter, base, digits, same, of, some, each)
after_of (Token kinds.Mark) b fs gs is s h = let (word, e, listed) = h in let same : fs ≡ word = cc in subst (λ (x : List ℕ). is_listed marks (folded x) ≡ true) (sym same) listed
after_of (Token kinds.Punctuation) b fs gs is s (inl h) =
    let passes : not_hash (class_of b) ≡ true = listed_passes (head_is not_hash) punctuation (b ∷ fs) refl h in
    let bad : not_hash Hash ≡ true = subst (λ (c : Class). not_hash c ≡ true) is passes in
    absurd cc
after_of (Token kinds.Punctuation) b fs gs is s (inr (inl h)) = let same : fs ≡ 40 ∷ [] = cc in inl same
after_of (Token kinds.Punctuation) b fs gs is s (inr (inr h)) = let same : fs ≡ 91 ∷ [] = cc in inr same
after_of k b fs gs is s h = absurd cc

hash_sound : (b : ℕ) (bs : List ℕ) → class_of b ≡ Hash → ((body : List ℕ) → bs ≡ 34 ∷ body → literal_end 34 false body ≡ None → ⊥) → (f : Kind) → IsBroken f (b ∷ bs) → ⊥
hash_sound b bs is shut f (inl h) = let byte : b ≡ 35 = byte_of b Hash is in let (body, e, open_) = h.1 in let clash : b ≡ 47 = cc in absurd (omega arith)
hash_sound b bs is shut f (inr (kind, inl h)) = let byte : b ≡ 35 = byte_of b Hash is in let (body, e, open_) = h in let clash : b ≡ 39 = cc in absurd (omega arith)
hash_sound b bs is shut f (inr (kind, inr (inl h))) = let byte : b ≡ 35 = byte_of b Hash is in let (body, e, open_) = h in let clash : b ≡ 34 = cc in absurd (omega arith)
hash_sound b bs is shut f (inr (kind, inr (inr h))) = let (body, e, open_) = h in let rest : bs ≡ 34 ∷ body = cc in shut body rest open_

module _ (b : ℕ) (bs : List ℕ) (is : class_of b ≡ Hash) (shut : (body : List ℕ) → bs ≡ 34 ∷ body → literal_end 34 false body ≡ None → ⊥) where
  nothing : ((k : Piece) (q gs : List ℕ) → bs ≡ q ++ gs → After k q → ⊥) → Answers (Err BadLiteral) (b ∷ bs)
  nothing none = stuck_at BadLiteral b bs Hash is refl (λ k fs gs s e h. none k fs gs e (after_of k b fs gs is s h)) (hash_sound b bs is shut)

  best_at : (n : ℕ) (best : Piece) (q rest : List ℕ) → bs ≡ q ++ rest → suc (length q) ≡ n → IsForm best (b ∷ q) rest
      → ((k : Piece) (q gs : List ℕ) → bs ≡ q ++ gs → After k q → Within (suc (length q)) n k best) → Answers (Ok (best, n)) (b ∷ bs)
  best_at n best q rest parts len form most = record {
    piece = b ∷ q;
    rest = rest;
    parts = ap (λ (x : List ℕ). b ∷ x) parts;
    len = len;
    form = form;
    most = most_of best n b bs Hash is (λ k fs gs s e h. most k fs gs e (after_of k b fs gs is s h));
    sound = hash_sound b bs is shut;
  }

-- what is known of the byte after the #, for the kinds that do not begin with it
no_mark : (c : ℕ) (cs q gs : List ℕ) → begins_mark (folded_byte c) ≡ false → c ∷ cs ≡ q ++ gs → is_listed marks (folded q) ≡ true → ⊥
no_mark c cs [] gs bar parts h = absurd cc
no_mark c cs (x ∷ q) gs bar parts h =
    let same : c ≡ x = heads c x cs (q ++ gs) parts in
    opposite (begins_mark (folded_byte c)) (ap (λ (y : ℕ). begins_mark (folded_byte y)) same ∙ mark_first x q h) bar

no_number : (c : ℕ) (cs q gs : List ℕ) → base_of c ≡ None → c ∷ cs ≡ q ++ gs → After (Token kinds.Int) q → ⊥
no_number c cs q gs bar parts h =
    let (letter, base, digits, same, of, some, each) = h in
    let parts2 : c ∷ cs ≡ letter ∷ (digits ++ gs) = parts ∙ ap (λ (x : List ℕ). x ++ gs) same in
    let first : c ≡ letter = heads c letter cs (digits ++ gs) parts2 in
    not_none base (base_of c) (ap base_of first ∙ of) bar

no_quote : (c : ℕ) (cs q gs : List ℕ) → (c ≡ 34 → ⊥) → c ∷ cs ≡ q ++ gs → After (Token kinds.Symbol) q → ⊥
no_quote c cs q gs bar parts h =
    let (body, same, close) = h in
    let parts2 : c ∷ cs ≡ 34 ∷ (body ++ gs) = parts ∙ ap (λ (x : List ℕ). x ++ gs) same in
    bar (heads c 34 cs (body ++ gs) parts2)

no_bracket : (c : ℕ) (cs q gs : List ℕ) → (c ≡ 40 → ⊥) → (c ≡ 91 → ⊥) → c ∷ cs ≡ q ++ gs → After (Token kinds.Punctuation) q → ⊥
no_bracket c cs q gs round square parts (inl h) = let parts2 : c ∷ cs ≡ 40 ∷ gs = parts ∙ ap (λ (x : List ℕ). x ++ gs) h in round (heads c 40 cs gs parts2)
no_bracket c cs q gs round square parts (inr h) = let parts2 : c ∷ cs ≡ 91 ∷ gs = parts ∙ ap (λ (x : List ℕ). x ++ gs) h in square (heads c 91 cs gs parts2)

-- ---- #"..."

quoted_most : (cs : List ℕ) (m : ℕ) → literal_end 34 false cs ≡ Some m → (k : Piece) (q gs : List ℕ) → 34 ∷ cs ≡ q ++ gs → After k q → Within (suc (length q)) (2 + m) k (Token kinds.Symbol)
quoted_most cs m e (Token kinds.Symbol) q gs parts h =
    let (body, same, close) = h in
    let parts2 : 34 ∷ cs ≡ 34 ∷ (body ++ gs) = parts ∙ ap (λ (x : List ℕ). x ++ gs) same in
    let tails : cs ≡ body ++ gs = cc in
    let there = stable (literal_step 34) false body gs (length body) close in
    let there2 : literal_end 34 false cs ≡ Some (length body) = rw tails there in
    let size = same_value m (length body) (literal_end 34 false cs) e there2 in
    inr (omega (arith, ap length same), refl)
quoted_most cs m e (Token kinds.Int) q gs parts h = absurd (no_number 34 cs q gs refl parts h)
quoted_most cs m e (Token kinds.Mark) q gs parts h = absurd (no_mark 34 cs q gs refl parts h)
quoted_most cs m e (Token kinds.Punctuation) q gs parts h = absurd (no_bracket 34 cs q gs (λ x. absurd (omega arith)) (λ x. absurd (omega arith)) parts h)
quoted_most cs m e k q gs parts h = absurd h

quoted_answers : (b : ℕ) (cs : List ℕ) (r : Option ℕ) → class_of b ≡ Hash → literal_end 34 false cs ≡ r → Answers (closed (Token kinds.Symbol) 2 OpenString r) (b ∷ 34 ∷ cs)
quoted_answers b cs (Some m) is e =
    let byte : b ≡ 35 = byte_of b Hash is in
    let (front, rest, parts, len, again) = splits (literal_step 34) false cs m e in
    best_at b (34 ∷ cs) is (λ body same open_. let tails : cs ≡ body = cc in not_none m (literal_end 34 false cs) e (rw tails open_))
    (2 + m) (Token kinds.Symbol) (34 ∷ front) rest (ap (λ (x : List ℕ). 34 ∷ x) parts) (omega arith)
    (inr (front, ap (λ (x : ℕ). x ∷ 34 ∷ front) byte, rw len again)) (quoted_most cs m e)
quoted_answers b cs None is e = inl (inr (refl, inr (inr (cs, ap (λ (x : ℕ). x ∷ 34 ∷ cs) (byte_of b Hash is), e))))

-- ---- #( and #[

bracket_most : (c : ℕ) (cs : List ℕ) → base_of c ≡ None → begins_mark (folded_byte c) ≡ false → (c ≡ 34 → ⊥)
    → (k : Piece) (q gs : List ℕ) → c ∷ cs ≡ q ++ gs → After k q → Within (suc (length q)) 2 k (Token kinds.Punctuation)
bracket_most c cs base mark quote (Token kinds.Symbol) q gs parts h = absurd (no_quote c cs q gs quote parts h)
bracket_most c cs base mark quote (Token kinds.Int) q gs parts h = absurd (no_number c cs q gs base parts h)
bracket_most c cs base mark quote (Token kinds.Mark) q gs parts h = absurd (no_mark c cs q gs mark parts h)
bracket_most c cs base mark quote (Token kinds.Punctuation) q gs parts (inl h) = inr (omega (arith, ap length h), refl)
bracket_most c cs base mark quote (Token kinds.Punctuation) q gs parts (inr h) = inr (omega (arith, ap length h), refl)
bracket_most c cs base mark quote k q gs parts h = absurd h

bracket_answers : (b c : ℕ) (cs : List ℕ) → class_of b ≡ Hash → ((c ≡ 40) ⊎ (c ≡ 91)) → Answers (Ok (Token kinds.Punctuation, 2)) (b ∷ c ∷ cs)
bracket_answers b c cs is (inl round) =
    let byte : b ≡ 35 = byte_of b Hash is in
    best_at b (c ∷ cs) is (λ body same open_. absurd (omega (arith, heads c 34 cs body same))) 2 (Token kinds.Punctuation) (c ∷ []) cs refl refl
    (inr (inl (rw (byte, round) refl))) (bracket_most c cs (rw round refl) (rw round refl) (λ e. absurd (omega arith)))
bracket_answers b c cs is (inr square) =
    let byte : b ≡ 35 = byte_of b Hash is in
    best_at b (c ∷ cs) is (λ body same open_. absurd (omega (arith, heads c 34 cs body same))) 2 (Token kinds.Punctuation) (c ∷ []) cs refl refl
    (inr (inr (rw (byte, square) refl))) (bracket_most c cs (rw square refl) (rw square refl) (λ e. absurd (omega arith)))

-- ---- marks

mark_most : (c : ℕ) (cs : List ℕ) (n : ℕ) → front_in marks (c ∷ cs) ≡ Some n → begins_mark (folded_byte c) ≡ true → (c ≡ 34 → ⊥) → (c ≡ 40 → ⊥) → (c ≡ 91 → ⊥)
    → (k : Piece) (q gs : List ℕ) → c ∷ cs ≡ q ++ gs → After k q → Within (suc (length q)) (1 + n) k (Token kinds.Mark)
mark_most c cs n e mark quote round square (Token kinds.Symbol) q gs parts h = absurd (no_quote c cs q gs quote parts h)
mark_most c cs n e mark quote round square (Token kinds.Int) q gs parts h =
    let (letter, base, digits, same, of, some, each) = h in
    let parts2 : c ∷ cs ≡ letter ∷ (digits ++ gs) = parts ∙ ap (λ (x : List ℕ). x ++ gs) same in
    let first : c ≡ letter = heads c letter cs (digits ++ gs) parts2 in
    absurd (base_not_mark c base (ap base_of first ∙ of) mark)
mark_most c cs n e mark quote round square (Token kinds.Mark) q gs parts h =
    let (m, found, most) = front_found marks (c ∷ cs) q gs parts refl h in
    let size = same_value n m (front_in marks (c ∷ cs)) e found in
    within_le (suc (length q)) (1 + n) (Token kinds.Mark) (omega arith)
mark_most c cs n e mark quote round square (Token kinds.Punctuation) q gs parts h = absurd (no_bracket c cs q gs round square parts h)
mark_most c cs n e mark quote round square k q gs parts h = absurd h

-- ---- numbers

number_most : (c base : ℕ) (cs : List ℕ) → base_of c ≡ Some base → front_in marks (c ∷ cs) ≡ None → (c ≡ 34 → ⊥) → (c ≡ 40 → ⊥) → (c ≡ 91 → ⊥)
    → (k : Piece) (q gs : List ℕ) → c ∷ cs ≡ q ++ gs → After k q → (k ≡ Token kinds.Int) × (length q ≤ 1 + prefix_len (in_base base) cs) × (0 < prefix_len (in_base base) cs)
number_most c base cs of none quote round square (Token kinds.Symbol) q gs parts h = absurd (no_quote c cs q gs quote parts h)
number_most c base cs of none quote round square (Token kinds.Int) q gs parts h =
    let (letter, base2, digits, same, of2, some, each) = h in
    let parts2 : c ∷ cs ≡ letter ∷ (digits ++ gs) = parts ∙ ap (λ (x : List ℕ). x ++ gs) same in
    let first : c ≡ letter = heads c letter cs (digits ++ gs) parts2 in
    let bases = same_value base base2 (base_of c) of (ap base_of first ∙ of2) in
    let tails : cs ≡ digits ++ gs = cc in
    let run = run_longest (in_base base) digits gs (subst (λ (x : ℕ). Each (in_base x) digits) (sym bases) each) in
    let same2 = ap (λ (x : List ℕ). prefix_len (in_base base) x) tails in
    (refl, omega (arith, ap length same), omega arith)
number_most c base cs of none quote round square (Token kinds.Mark) q gs parts h =
    let (m, found, most) = front_found marks (c ∷ cs) q gs parts refl h in
    absurd (not_none m (front_in marks (c ∷ cs)) found none)
number_most c base cs of none quote round square (Token kinds.Punctuation) q gs parts h = absurd (no_bracket c cs q gs round square parts h)
number_most c base cs of none quote round square k q gs parts h = absurd h

baseless_none : (c : ℕ) (cs : List ℕ) → base_of c ≡ None → front_in marks (c ∷ cs) ≡ None → (c ≡ 34 → ⊥) → (c ≡ 40 → ⊥) → (c ≡ 91 → ⊥)
    → (k : Piece) (q gs : List ℕ) → c ∷ cs ≡ q ++ gs → After k q → ⊥
baseless_none c cs of none quote round square (Token kinds.Symbol) q gs parts h = no_quote c cs q gs quote parts h
baseless_none c cs of none quote round square (Token kinds.Int) q gs parts h = no_number c cs q gs of parts h
baseless_none c cs of none quote round square (Token kinds.Mark) q gs parts h =
    let (m, found, most) = front_found marks (c ∷ cs) q gs parts refl h in
    not_none m (front_in marks (c ∷ cs)) found none
baseless_none c cs of none quote round square (Token kinds.Punctuation) q gs parts h = no_bracket c cs q gs round square parts h
baseless_none c cs of none quote round square k q gs parts h = h

module _ (b c : ℕ) (cs : List ℕ) (is : class_of b ≡ Hash) (quote : c ≡ 34 → ⊥) (round : c ≡ 40 → ⊥) (square : c ≡ 91 → ⊥) where
  shut : (body : List ℕ) → c ∷ cs ≡ 34 ∷ body → literal_end 34 false body ≡ None → ⊥
  shut body same open_ = quote (heads c 34 cs body same)

  mark_answers : (n : ℕ) → front_in marks (c ∷ cs) ≡ Some n → Answers (Ok (Token kinds.Mark, 1 + n)) (b ∷ c ∷ cs)
  mark_answers n e =
      let byte : b ≡ 35 = byte_of b Hash is in
      let (word, rest, parts, len, listed) = front_splits marks (c ∷ cs) n e in
      best_at b (c ∷ cs) is shut (1 + n) (Token kinds.Mark) word rest parts (omega arith)
      (word, ap (λ (x : ℕ). x ∷ word) byte, listed) (mark_most c cs n e (first word rest parts listed) quote round square)
    where
      first : (word rest : List ℕ) → c ∷ cs ≡ word ++ rest → is_listed marks (folded word) ≡ true → begins_mark (folded_byte c) ≡ true
      first [] rest parts listed = absurd cc
      first (x ∷ word) rest parts listed = ap (λ (y : ℕ). begins_mark (folded_byte y)) (heads c x cs (word ++ rest) parts) ∙ mark_first x word listed

  based : (base : ℕ) (t : Bool) → base_of c ≡ Some base → front_in marks (c ∷ cs) ≡ None → eqb (prefix_len (in_base base) cs) 0 ≡ t
      → Answers (cond t (Err BadLiteral) (Ok (Token kinds.Int, 2 + prefix_len (in_base base) cs))) (b ∷ c ∷ cs)
  based base true of none zero_ =
      let size = eqb-true (prefix_len (in_base base) cs) 0 zero_ in
      nothing b (c ∷ cs) is shut (λ k q gs parts h. let below = number_most c base cs of none quote round square k q gs parts h in absurd (omega (arith, below.2)))
  based base false of none zero_ =
      let byte : b ≡ 35 = byte_of b Hash is in
      let (digits, rest, parts, len, each) = run_splits (in_base base) cs in
      let some : 0 < length digits = not_zero (prefix_len (in_base base) cs) (length digits) len zero_ in
      best_at b (c ∷ cs) is shut (2 + prefix_len (in_base base) cs) (Token kinds.Int) (c ∷ digits) rest (ap (λ (x : List ℕ). c ∷ x) parts) (omega arith)
      (inr (c, base, digits, ap (λ (x : ℕ). x ∷ c ∷ digits) byte, of, some, each)) most
    where
      not_zero : (n m : ℕ) → m ≡ n → eqb n 0 ≡ false → 0 < m
      not_zero zero m e f = absurd (false≢true (sym f ∙ eq-eqb 0 0 refl))
      not_zero (suc n) m e f = omega arith

      most : (k : Piece) (q gs : List ℕ) → c ∷ cs ≡ q ++ gs → After k q → Within (suc (length q)) (2 + prefix_len (in_base base) cs) k (Token kinds.Int)
      most k q gs parts h =
          let below = number_most c base cs of none quote round square k q gs parts h in
          subst (λ (x : Piece). Within (suc (length q)) (2 + prefix_len (in_base base) cs) x (Token kinds.Int)) (sym below.0)
          (within_le (suc (length q)) (2 + prefix_len (in_base base) cs) (Token kinds.Int) (omega (arith, below.1)))

  numbered : (r : Option ℕ) → base_of c ≡ r → front_in marks (c ∷ cs) ≡ None → Answers (number_at r cs) (b ∷ c ∷ cs)
  numbered None of none = nothing b (c ∷ cs) is shut (baseless_none c cs of none quote round square)
  numbered (Some base) of none = based base (eqb (prefix_len (in_base base) cs) 0) of none refl

  marked_answers : (r : Option ℕ) → front_in marks (c ∷ cs) ≡ r → Answers (marked r (number_at (base_of c) cs)) (b ∷ c ∷ cs)
  marked_answers (Some n) e = mark_answers n e
  marked_answers None e = numbered (base_of c) refl e

end_none : (k : Piece) (q gs : List ℕ) → [] ≡ q ++ gs → After k q → ⊥
end_none (Token kinds.Symbol) [] gs parts h = let e = h.1 in absurd cc
end_none (Token kinds.Int) [] gs parts h = let e = h.3 in absurd cc
end_none (Token kinds.Mark) [] gs parts h = absurd cc
end_none (Token kinds.Punctuation) [] gs parts (inl h) = absurd cc
end_none (Token kinds.Punctuation) [] gs parts (inr h) = absurd cc
end_none k [] gs parts h = h
end_none k (x ∷ q) gs parts h = absurd cc

pub hash_answers : (b : ℕ) (bs : List ℕ) → class_of b ≡ Hash → Answers (hash_at bs) (b ∷ bs)
hash_answers b [] is = nothing b [] is (λ body e open_. absurd cc) end_none
hash_answers b (c ∷ cs) is = go (eqb c 34) (eqb c 40 || eqb c 91) refl refl
  where
    go : (t u : Bool) → eqb c 34 ≡ t → (eqb c 40 || eqb c 91) ≡ u
        → Answers (cond t (closed (Token kinds.Symbol) 2 OpenString (literal_end 34 false cs)) (cond u (Ok (Token kinds.Punctuation, 2)) (marked (front_in marks (c ∷ cs)) (number_at (base_of c) cs)))) (b ∷ c ∷ cs)
    go true u e f = let same : c ≡ 34 = eqb-true c 34 e in rw same (quoted_answers b cs (literal_end 34 false cs) is refl)
    go false true e f = elim (or_cases (eqb c 40) (eqb c 91) f) [ inl h ↦ bracket_answers b c cs is (inl (eqb-true c 40 h)) | inr h ↦ bracket_answers b c cs is (inr (eqb-true c 91 h)) ]
    go false false e f = marked_answers b c cs is (λ same. false≢true (sym e ∙ eq-eqb c 34 same)) (λ same. absurd (left same)) (λ same. absurd (right same)) (front_in marks (c ∷ cs)) refl
      where
        left : c ≡ 40 → ⊥
        left same = false≢true (sym f ∙ rw (eq-eqb c 40 same) refl)

        right : c ≡ 91 → ⊥
        right same = or_right (eqb c 40) (eqb c 91) (eq-eqb c 91 same) f
          where
            or_right : (x y : Bool) → y ≡ true → (x || y) ≡ false → ⊥
            or_right true y e f = absurd cc
            or_right false y e f = opposite y e f
