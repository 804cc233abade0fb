-- The next piece where its first byte leaves one kind, or none; and after a slash.
use Rattle.std.proofs.Common.{◌≡◌, ℕ, suc, ◌+◌, ◌⊎◌, inl, inr, Bool, true, false, cond, List, [], ◌∷◌, ◌++◌, length, Ok, Err, Option, Some, None, refl, sym, ap, subst, ◌∙◌, arith}
use Rattle.std.proofs.lemmas.Bool.{eqb-true, eq-eqb, false≢true}
use Rattle.std.proofs.Math.Dec.{eqb}
use Rattle.std.specs.List.{prefix_len}
use Rattle.dy_base.specs.declared.kind.Kind.{Kind}
use Rattle.dy_base.specs.declared.kind.Kind.TheVariants.{BadByte, OpenComment, OpenString}
use Rattle.dy_tree.specs.declared.token.TokenKind.TheVariants as kinds
use Rattle.dy_pieces.specs.declared.class.Piece.{Piece}
use Rattle.dy_pieces.specs.declared.class.Piece.TheVariants.{Token, Comment, Blank}
use Rattle.dy_pieces.specs.declared.class.Class.TheVariants.{Digit, Slash, Hash, SingleQuote, DoubleQuote, Space, Other}
use Rattle.dy_pieces.specs.Bytes.{class_of, is_digit, is_blank, in_line}
use Rattle.dy_pieces.specs.Words.{operators, is_listed}
use Rattle.dy_pieces.specs.Scan.{literal_step, literal_end, comment_step, comment_end}
use Rattle.dy_pieces.specs.Pieces.{closed, slash_at}
use Rattle.dy_pieces.specs.Forms.{IsForm, IsBroken}
use Rattle.dy_pieces.proofs.Runs.{run_splits, run_longest, same_value, not_none, stable, splits}
use Rattle.dy_pieces.proofs.Lists.{listed_passes}
use Rattle.dy_pieces.proofs.Heads.{byte_of, starts, Within, within_le, Answers, most_of, stuck_at, not_broken}

pub heads : (x y : ℕ) (xs ys : List ℕ) → x ∷ xs ≡ y ∷ ys → x ≡ y
heads x y xs ys e = cc

-- ---- runs

digit_most : (n b : ℕ) (bs : List ℕ) → class_of b ≡ Digit → n ≡ 1 + prefix_len is_digit bs
    → (k : Piece) (fs gs : List ℕ) → starts k Digit ≡ true → bs ≡ fs ++ gs → IsForm k (b ∷ fs) gs → Within (suc (length fs)) n k (Token kinds.Int)
digit_most n b bs is size (Token kinds.Int) fs gs s e (inl h) =
    let run = run_longest is_digit fs gs h.1 in
    let same = ap (λ (x : List ℕ). prefix_len is_digit x) e in
    within_le (suc (length fs)) n (Token kinds.Int) (omega arith)
digit_most n b bs is size (Token kinds.Int) fs gs s e (inr h) =
    let (letter, base, digits, parts, of, some, each) = h in
    let hash : b ≡ 35 = cc in
    let clash : Hash ≡ Digit = rw hash at is in
    absurd cc
digit_most n b bs is size k fs gs s e h = absurd cc

pub digit_answers : (b : ℕ) (bs : List ℕ) → class_of b ≡ Digit → Answers (Ok (Token kinds.Int, 1 + prefix_len is_digit bs)) (b ∷ bs)
digit_answers b bs is =
    let (front, rest, parts, len, each) = run_splits is_digit bs in
    record {
      piece = b ∷ front;
      rest = rest;
      parts = ap (λ (x : List ℕ). b ∷ x) parts;
      len = omega arith;
      form = inl (is, each);
      most = most_of (Token kinds.Int) (1 + prefix_len is_digit bs) b bs Digit is (digit_most (1 + prefix_len is_digit bs) b bs is refl);
      sound = not_broken Digit b bs is refl;
    }

space_most : (n b : ℕ) (bs : List ℕ) → n ≡ 1 + prefix_len is_blank bs
    → (k : Piece) (fs gs : List ℕ) → starts k Space ≡ true → bs ≡ fs ++ gs → IsForm k (b ∷ fs) gs → Within (suc (length fs)) n k Blank
space_most n b bs size Blank fs gs s e h =
    let run = run_longest is_blank fs gs h.1 in
    let same = ap (λ (x : List ℕ). prefix_len is_blank x) e in
    within_le (suc (length fs)) n Blank (omega arith)
space_most n b bs size (Token kinds.Name) fs gs s e h = absurd cc
space_most n b bs size k fs gs s e h = absurd cc

pub space_answers : (b : ℕ) (bs : List ℕ) → class_of b ≡ Space → Answers (Ok (Blank, 1 + prefix_len is_blank bs)) (b ∷ bs)
space_answers b bs is =
    let (front, rest, parts, len, each) = run_splits is_blank bs in
    record {
      piece = b ∷ front;
      rest = rest;
      parts = ap (λ (x : List ℕ). b ∷ x) parts;
      len = omega arith;
      form = (is, each);
      most = most_of Blank (1 + prefix_len is_blank bs) b bs Space is (space_most (1 + prefix_len is_blank bs) b bs refl);
      sound = not_broken Space b bs is refl;
    }

-- ---- bytes that begin nothing

other_none : (b : ℕ) (bs : List ℕ) (k : Piece) (fs gs : List ℕ) → starts k Other ≡ true → bs ≡ fs ++ gs → IsForm k (b ∷ fs) gs → ⊥
other_none b bs k fs gs s e h = go k s
  where
    go : (k : Piece) → starts k Other ≡ true → ⊥
    go (Token kinds.Name) s = absurd cc
    go (Token kinds.Escaped) s = absurd cc
    go (Token kinds.Symbol) s = absurd cc
    go (Token kinds.Int) s = absurd cc
    go (Token kinds.Char) s = absurd cc
    go (Token kinds.Str) s = absurd cc
    go (Token kinds.Mark) s = absurd cc
    go (Token kinds.PatternVar) s = absurd cc
    go (Token kinds.CallSite) s = absurd cc
    go (Token kinds.Operator) s = absurd cc
    go (Token kinds.Punctuation) s = absurd cc
    go Comment s = absurd cc
    go Blank s = absurd cc

pub other_answers : (b : ℕ) (bs : List ℕ) → class_of b ≡ Other → Answers (Err BadByte) (b ∷ bs)
other_answers b bs is = stuck_at BadByte b bs Other is refl (other_none b bs) (not_broken Other b bs is refl)

-- ---- characters and strings

character_most : (b : ℕ) (bs : List ℕ) (m : ℕ) → literal_end 39 false bs ≡ Some m
    → (k : Piece) (fs gs : List ℕ) → starts k SingleQuote ≡ true → bs ≡ fs ++ gs → IsForm k (b ∷ fs) gs → Within (suc (length fs)) (1 + m) k (Token kinds.Char)
character_most b bs m is (Token kinds.Char) fs gs s e h =
    let (body, parts, close) = h in
    let same : fs ≡ body = cc in
    let there = stable (literal_step 39) false body gs (length body) close in
    let there2 : literal_end 39 false bs ≡ Some (length body) = rw (e, same) there in
    let size = same_value m (length body) (literal_end 39 false bs) is there2 in
    inr (omega (arith, ap length same), refl)
character_most b bs m is k fs gs s e h = absurd cc

string_most : (b : ℕ) (bs : List ℕ) (m : ℕ) → literal_end 34 false bs ≡ Some m
    → (k : Piece) (fs gs : List ℕ) → starts k DoubleQuote ≡ true → bs ≡ fs ++ gs → IsForm k (b ∷ fs) gs → Within (suc (length fs)) (1 + m) k (Token kinds.Str)
string_most b bs m is (Token kinds.Str) fs gs s e h =
    let (body, parts, close) = h in
    let same : fs ≡ body = cc in
    let there = stable (literal_step 34) false body gs (length body) close in
    let there2 : literal_end 34 false bs ≡ Some (length body) = rw (e, same) there in
    let size = same_value m (length body) (literal_end 34 false bs) is there2 in
    inr (omega (arith, ap length same), refl)
string_most b bs m is k fs gs s e h = absurd cc

character_sound : (b : ℕ) (bs : List ℕ) (m : ℕ) → b ≡ 39 → literal_end 39 false bs ≡ Some m → (f : Kind) → IsBroken f (b ∷ bs) → ⊥
character_sound b bs m byte is f (inl h) = let (body, e, open_) = h.1 in let clash : b ≡ 47 = cc in absurd (omega arith)
character_sound b bs m byte is f (inr (kind, inl h)) = let (body, e, open_) = h in let same : bs ≡ body = cc in not_none m (literal_end 39 false bs) is (rw same open_)
character_sound b bs m byte is f (inr (kind, inr (inl h))) = let (body, e, open_) = h in let clash : b ≡ 34 = cc in absurd (omega arith)
character_sound b bs m byte is f (inr (kind, inr (inr h))) = let (body, e, open_) = h in let clash : b ≡ 35 = cc in absurd (omega arith)

string_sound : (b : ℕ) (bs : List ℕ) (m : ℕ) → b ≡ 34 → literal_end 34 false bs ≡ Some m → (f : Kind) → IsBroken f (b ∷ bs) → ⊥
string_sound b bs m byte is f (inl h) = let (body, e, open_) = h.1 in let clash : b ≡ 47 = cc in absurd (omega arith)
string_sound b bs m byte is f (inr (kind, inl h)) = let (body, e, open_) = h in let clash : b ≡ 39 = cc in absurd (omega arith)
string_sound b bs m byte is f (inr (kind, inr (inl h))) = let (body, e, open_) = h in let same : bs ≡ body = cc in not_none m (literal_end 34 false bs) is (rw same open_)
string_sound b bs m byte is f (inr (kind, inr (inr h))) = let (body, e, open_) = h in let clash : b ≡ 35 = cc in absurd (omega arith)

pub character_answers : (b : ℕ) (bs : List ℕ) (r : Option ℕ) → class_of b ≡ SingleQuote → literal_end 39 false bs ≡ r → Answers (closed (Token kinds.Char) 1 OpenString r) (b ∷ bs)
character_answers b bs (Some m) is e =
    let byte : b ≡ 39 = byte_of b SingleQuote is in
    let (front, rest, parts, len, again) = splits (literal_step 39) false bs m e in
    record {
      piece = b ∷ front;
      rest = rest;
      parts = ap (λ (x : List ℕ). b ∷ x) parts;
      len = omega arith;
      form = (front, ap (λ (x : ℕ). x ∷ front) byte, rw len again);
      most = most_of (Token kinds.Char) (1 + m) b bs SingleQuote is (character_most b bs m e);
      sound = character_sound b bs m byte e;
    }
character_answers b bs None is e = inl (inr (refl, inl (bs, ap (λ (x : ℕ). x ∷ bs) (byte_of b SingleQuote is), e)))

pub string_answers : (b : ℕ) (bs : List ℕ) (r : Option ℕ) → class_of b ≡ DoubleQuote → literal_end 34 false bs ≡ r → Answers (closed (Token kinds.Str) 1 OpenString r) (b ∷ bs)
string_answers b bs (Some m) is e =
    let byte : b ≡ 34 = byte_of b DoubleQuote is in
    let (front, rest, parts, len, again) = splits (literal_step 34) false bs m e in
    record {
      piece = b ∷ front;
      rest = rest;
      parts = ap (λ (x : List ℕ). b ∷ x) parts;
      len = omega arith;
      form = (front, ap (λ (x : ℕ). x ∷ front) byte, rw len again);
      most = most_of (Token kinds.Str) (1 + m) b bs DoubleQuote is (string_most b bs m e);
      sound = string_sound b bs m byte e;
    }
string_answers b bs None is e = inl (inr (refl, inr (inl (bs, ap (λ (x : ℕ). x ∷ bs) (byte_of b DoubleQuote is), e))))

-- ---- after a slash

abbrev is_false : Bool → Bool
is_false true = false
is_false false = true

-- no operator of more than one byte begins with a slash
abbrev stays_short : List ℕ → Bool
stays_short [] = true
stays_short (a ∷ []) = true
stays_short (a ∷ c ∷ rest) = is_false (eqb a 47)

slash_operator : (b : ℕ) (fs : List ℕ) → b ≡ 47 → is_listed operators (b ∷ fs) ≡ true → length fs ≡ 0
slash_operator b [] byte h = refl
slash_operator b (c ∷ fs) byte h =
    let passes : is_false (eqb b 47) ≡ true = listed_passes stays_short operators (b ∷ c ∷ fs) refl h in
    let bad : false ≡ true = rw (eq-eqb b 47 byte) at passes in
    absurd cc

slash_most : (b : ℕ) (bs : List ℕ) (n : ℕ) (best : Piece) → b ≡ 47
    → ((fs gs : List ℕ) → bs ≡ fs ++ gs → IsForm Comment (b ∷ fs) gs → Within (suc (length fs)) n Comment best)
    → Within 1 n (Token kinds.Operator) best
    → (k : Piece) (fs gs : List ℕ) → starts k Slash ≡ true → bs ≡ fs ++ gs → IsForm k (b ∷ fs) gs → Within (suc (length fs)) n k best
slash_most b bs n best byte comment operator Comment fs gs s e h = comment fs gs e h
slash_most b bs n best byte comment operator (Token kinds.Operator) fs gs s e h =
    let short = slash_operator b fs byte h in
    let one : 1 ≡ suc (length fs) = omega arith in
    subst (λ (m : ℕ). Within m n (Token kinds.Operator) best) one operator
slash_most b bs n best byte comment operator k fs gs s e h = absurd cc

slash_sound : (b : ℕ) (bs : List ℕ) → b ≡ 47 → ((body : List ℕ) → bs ≡ 42 ∷ body → comment_end 1 0 body ≡ None → ⊥) → (f : Kind) → IsBroken f (b ∷ bs) → ⊥
slash_sound b bs byte shut f (inl h) = let (body, e, open_) = h.1 in let rest : bs ≡ 42 ∷ body = cc in shut body rest open_
slash_sound b bs byte shut f (inr (kind, inl h)) = let (body, e, open_) = h in let clash : b ≡ 39 = cc in absurd (omega arith)
slash_sound b bs byte shut f (inr (kind, inr (inl h))) = let (body, e, open_) = h in let clash : b ≡ 34 = cc in absurd (omega arith)
slash_sound b bs byte shut f (inr (kind, inr (inr h))) = let (body, e, open_) = h in let clash : b ≡ 35 = cc in absurd (omega arith)

slash_alone : (b : ℕ) (bs : List ℕ) → class_of b ≡ Slash → ((c : ℕ) (cs : List ℕ) → bs ≡ c ∷ cs → ((c ≡ 47) ⊎ (c ≡ 42)) → ⊥) → Answers (Ok (Token kinds.Operator, 1)) (b ∷ bs)
slash_alone b bs is bar =
    let byte : b ≡ 47 = byte_of b Slash is in
    record {
      piece = b ∷ [];
      rest = bs;
      parts = refl;
      len = refl;
      form = rw byte refl;
      most = most_of (Token kinds.Operator) 1 b bs Slash is (slash_most b bs 1 (Token kinds.Operator) byte no_comment (inr (refl, refl)));
      sound = slash_sound b bs byte (λ body e open_. bar 42 body e (inr refl));
    }
  where
    no_comment : (fs gs : List ℕ) → bs ≡ fs ++ gs → IsForm Comment (b ∷ fs) gs → Within (suc (length fs)) 1 Comment (Token kinds.Operator)
    no_comment fs gs e (inl h) =
        let (body, parts, each) = h in
        let rest : fs ≡ 47 ∷ body = cc in
        absurd (bar 47 (body ++ gs) (e ∙ ap (λ (x : List ℕ). x ++ gs) rest) (inl refl))
    no_comment fs gs e (inr h) =
        let (body, parts, end) = h in
        let rest : fs ≡ 42 ∷ body = cc in
        absurd (bar 42 (body ++ gs) (e ∙ ap (λ (x : List ℕ). x ++ gs) rest) (inr refl))

line_answers : (b : ℕ) (cs : List ℕ) → class_of b ≡ Slash → Answers (Ok (Comment, 2 + prefix_len in_line cs)) (b ∷ 47 ∷ cs)
line_answers b cs is =
    let byte : b ≡ 47 = byte_of b Slash is in
    let (front, rest, parts, len, each) = run_splits in_line cs in
    record {
      piece = b ∷ 47 ∷ front;
      rest = rest;
      parts = ap (λ (x : List ℕ). b ∷ 47 ∷ x) parts;
      len = omega arith;
      form = inl (front, ap (λ (x : ℕ). x ∷ 47 ∷ front) byte, each);
      most = most_of Comment (2 + prefix_len in_line cs) b (47 ∷ cs) Slash is (slash_most b (47 ∷ cs) (2 + prefix_len in_line cs) Comment byte comment (inl (omega arith)));
      sound = slash_sound b (47 ∷ cs) byte (λ body e open_. absurd (omega (arith, heads 47 42 cs body e)));
    }
  where
    comment : (fs gs : List ℕ) → 47 ∷ cs ≡ fs ++ gs → IsForm Comment (b ∷ fs) gs → Within (suc (length fs)) (2 + prefix_len in_line cs) Comment Comment
    comment fs gs e (inl h) =
        let (body, parts, each) = h in
        let fronts : fs ≡ 47 ∷ body = cc in
        let e2 : 47 ∷ cs ≡ 47 ∷ (body ++ gs) = e ∙ ap (λ (x : List ℕ). x ++ gs) fronts in
        let rest : cs ≡ body ++ gs = cc in
        let run = run_longest in_line body gs each in
        let same = ap (λ (x : List ℕ). prefix_len in_line x) rest in
        within_le (suc (length fs)) (2 + prefix_len in_line cs) Comment (omega (arith, ap length fronts))
    comment fs gs e (inr h) =
        let (body, parts, end) = h in
        let fronts : fs ≡ 42 ∷ body = cc in
        let e2 : 47 ∷ cs ≡ 42 ∷ (body ++ gs) = e ∙ ap (λ (x : List ℕ). x ++ gs) fronts in
        absurd (omega (arith, heads 47 42 cs (body ++ gs) e2))

block_answers : (b : ℕ) (cs : List ℕ) (r : Option ℕ) → class_of b ≡ Slash → comment_end 1 0 cs ≡ r → Answers (closed Comment 2 OpenComment r) (b ∷ 42 ∷ cs)
block_answers b cs (Some m) is end =
    let byte : b ≡ 47 = byte_of b Slash is in
    let (front, rest, parts, len, again) = splits comment_step (1, 0) cs m end in
    record {
      piece = b ∷ 42 ∷ front;
      rest = rest;
      parts = ap (λ (x : List ℕ). b ∷ 42 ∷ x) parts;
      len = omega arith;
      form = inr (front, ap (λ (x : ℕ). x ∷ 42 ∷ front) byte, rw len again);
      most = most_of Comment (2 + m) b (42 ∷ cs) Slash is (slash_most b (42 ∷ cs) (2 + m) Comment byte comment (inl (omega arith)));
      sound = slash_sound b (42 ∷ cs) byte (λ body e open_. let rest : cs ≡ body = cc in not_none m (comment_end 1 0 cs) end (rw rest open_));
    }
  where
    comment : (fs gs : List ℕ) → 42 ∷ cs ≡ fs ++ gs → IsForm Comment (b ∷ fs) gs → Within (suc (length fs)) (2 + m) Comment Comment
    comment fs gs e (inl h) =
        let (body, parts, each) = h in
        let fronts : fs ≡ 47 ∷ body = cc in
        let e2 : 42 ∷ cs ≡ 47 ∷ (body ++ gs) = e ∙ ap (λ (x : List ℕ). x ++ gs) fronts in
        absurd (omega (arith, heads 42 47 cs (body ++ gs) e2))
    comment fs gs e (inr h) =
        let (body, parts, close) = h in
        let fronts : fs ≡ 42 ∷ body = cc in
        let e2 : 42 ∷ cs ≡ 42 ∷ (body ++ gs) = e ∙ ap (λ (x : List ℕ). x ++ gs) fronts in
        let rest : cs ≡ body ++ gs = cc in
        let there = stable comment_step (1, 0) body gs (length body) close in
        let there2 : comment_end 1 0 cs ≡ Some (length body) = rw rest there in
        let size = same_value m (length body) (comment_end 1 0 cs) end there2 in
        inr (omega (arith, ap length fronts), refl)
block_answers b cs None is end = inl (inl (refl, (cs, ap (λ (x : ℕ). x ∷ 42 ∷ cs) (byte_of b Slash is), end)))

pub slash_answers : (b : ℕ) (bs : List ℕ) → class_of b ≡ Slash → Answers (slash_at bs) (b ∷ bs)
slash_answers b [] is = slash_alone b [] is (λ c cs e. absurd cc)
slash_answers b (c ∷ cs) is = go (eqb c 47) (eqb c 42) refl refl
  where
    go : (t u : Bool) → eqb c 47 ≡ t → eqb c 42 ≡ u → Answers (cond t (Ok (Comment, 2 + prefix_len in_line cs)) (cond u (closed Comment 2 OpenComment (comment_end 1 0 cs)) (Ok (Token kinds.Operator, 1)))) (b ∷ c ∷ cs)
    go true u e f = let same : c ≡ 47 = eqb-true c 47 e in rw same (line_answers b cs is)
    go false true e f = let same : c ≡ 42 = eqb-true c 42 f in rw same (block_answers b cs (comment_end 1 0 cs) is refl)
    go false false e f = slash_alone b (c ∷ cs) is bar
      where
        bar : (d : ℕ) (ds : List ℕ) → c ∷ cs ≡ d ∷ ds → ((d ≡ 47) ⊎ (d ≡ 42)) → ⊥
        bar d ds parts (inl is47) = let same : c ≡ 47 = cc in false≢true (sym e ∙ eq-eqb c 47 same)
        bar d ds parts (inr is42) = let same : c ≡ 42 = cc in false≢true (sym f ∙ eq-eqb c 42 same)
