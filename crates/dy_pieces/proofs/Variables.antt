-- The next piece after a question mark.
use Rattle.std.proofs.Common.{◌≡◌, ℕ, suc, ◌+◌, ◌≤◌, ◌⊎◌, inl, inr, Bool, true, false, cond, List, [], ◌∷◌, ◌++◌, length, drop, Ok, Err, Option, Some, None, refl, sym, ap, subst, ◌∙◌, append_assoc, arith}
use Rattle.std.proofs.lemmas.List.{drop_at, length-append}
use Rattle.std.proofs.lemmas.Bool.{eqb-true, eq-eqb, false≢true}
use Rattle.std.proofs.Math.Dec.{eqb}
use Rattle.std.specs.List.{prefix_len}
use Rattle.dy_base.specs.declared.kind.Kind.TheVariants.{BadLiteral}
use Rattle.dy_tree.specs.declared.token.TokenKind.TheVariants as kinds
use Rattle.dy_pieces.specs.declared.class.Piece.{Piece}
use Rattle.dy_pieces.specs.declared.class.Piece.TheVariants.{Token}
use Rattle.dy_pieces.specs.declared.class.Class.TheVariants.{Question}
use Rattle.dy_pieces.specs.Bytes.{class_of, in_name}
use Rattle.dy_pieces.specs.Words.{constraints, front_in}
use Rattle.dy_pieces.specs.Pieces.{name_len, call_site, constraint_found, constraint_len, variable_at, unnamed_variable, question_at}
use Rattle.dy_pieces.specs.Forms.{IsForm, IsName, IsConstraint}
use Rattle.dy_pieces.proofs.Runs.{same_value, not_none, name_of, name_splits}
use Rattle.dy_pieces.proofs.Lists.{front_found, front_splits}
use Rattle.dy_pieces.proofs.Heads.{byte_of, starts, Within, within_le, Answers, most_of, stuck_at, not_broken}
use Rattle.dy_pieces.proofs.Simple.{heads}

-- what can stand after the question mark
abbrev After : Piece → List ℕ → Type 0
After (Token kinds.PatternVar) q =
    IsName q ⊎ (((name : List ℕ) × (word : List ℕ) × (q ≡ name ++ 58 ∷ word) × IsName name × IsConstraint word) ⊎ ((word : List ℕ) × (q ≡ 58 ∷ word) × IsConstraint word))
After (Token kinds.CallSite) q = (name : List ℕ) × (q ≡ 61 ∷ name) × IsName name
After _ q = ⊥

after_of : (k : Piece) (b : ℕ) (fs gs : List ℕ) → starts k Question ≡ true → IsForm k (b ∷ fs) gs → After k fs
after_of (Token kinds.PatternVar) b fs gs s (inl h) = let (name, e, is) = h in let same : fs ≡ name = cc in inl (subst IsName (sym same) is)
after_of (Token kinds.PatternVar) b fs gs s (inr (inl h)) = let (name, word, e, is, listed) = h in let same : fs ≡ name ++ 58 ∷ word = cc in inr (inl (name, word, same, is, listed))
after_of (Token kinds.PatternVar) b fs gs s (inr (inr h)) = let (word, e, listed) = h in let same : fs ≡ 58 ∷ word = cc in inr (inr (word, same, listed))
after_of (Token kinds.CallSite) b fs gs s h = let (name, e, is) = h in let same : fs ≡ 61 ∷ name = cc in (name, same, is)
after_of k b fs gs s h = absurd cc

-- no name begins with : or =
no_colon : (word : List ℕ) → IsName (58 ∷ word) → ⊥
no_colon word (inl h) = let e = h.0 in absurd cc
no_colon word (inr h) = let e = h.0 in absurd cc

no_equals : (word : List ℕ) → IsName (61 ∷ word) → ⊥
no_equals word (inl h) = let e = h.0 in absurd cc
no_equals word (inr h) = let e = h.0 in absurd cc

name_head : (q name : List ℕ) (x : ℕ) (ys rest : List ℕ) → x ∷ ys ≡ name ++ rest → IsName name → ((word : List ℕ) → IsName (x ∷ word) → ⊥) → ⊥
name_head q [] x ys rest e is bar = is
name_head q (y ∷ name) x ys rest e is bar = bar name (subst (λ (z : ℕ). IsName (z ∷ name)) (sym (heads x y ys (name ++ rest) e)) is)

module _ (b : ℕ) (bs : List ℕ) (is : class_of b ≡ Question) where
  lifted : (n : ℕ) (best : Piece) → ((k : Piece) (q gs : List ℕ) → bs ≡ q ++ gs → After k q → Within (suc (length q)) n k best)
      → (k : Piece) (fs gs : List ℕ) → starts k Question ≡ true → bs ≡ fs ++ gs → IsForm k (b ∷ fs) gs → Within (suc (length fs)) n k best
  lifted n best most k fs gs s e h = most k fs gs e (after_of k b fs gs s h)

  nothing : ((k : Piece) (q gs : List ℕ) → bs ≡ q ++ gs → After k q → ⊥) → Answers (Err BadLiteral) (b ∷ bs)
  nothing none = stuck_at BadLiteral b bs Question is refl (λ k fs gs s e h. none k fs gs e (after_of k b fs gs s h)) (not_broken Question b bs is refl)

  best_at : (n : ℕ) (best : Piece) (q rest : List ℕ) → bs ≡ q ++ rest → suc (length q) ≡ n → IsForm best (b ∷ q) rest
      → ((k : Piece) (q gs : List ℕ) → bs ≡ q ++ gs → After k q → Within (suc (length q)) n k best) → Answers (Ok (best, n)) (b ∷ bs)
  best_at n best q rest parts len form most = record {
    piece = b ∷ q;
    rest = rest;
    parts = ap (λ (x : List ℕ). b ∷ x) parts;
    len = len;
    form = form;
    most = most_of best n b bs Question is (lifted n best most);
    sound = not_broken Question b bs is refl;
  }

-- ---- ?=name

call_most : (cs : List ℕ) (n : ℕ) → name_len cs ≡ Some n → (k : Piece) (q gs : List ℕ) → 61 ∷ cs ≡ q ++ gs → After k q → Within (suc (length q)) (2 + n) k (Token kinds.CallSite)
call_most cs n e (Token kinds.PatternVar) q gs parts (inl h) = absurd (name_head q q 61 cs gs parts h no_equals)
call_most cs n e (Token kinds.PatternVar) q gs parts (inr (inl h)) =
    let (name, word, same, is, listed) = h in
    let parts2 : 61 ∷ cs ≡ name ++ (58 ∷ word ++ gs) = parts ∙ ap (λ (x : List ℕ). x ++ gs) same ∙ append_assoc name (58 ∷ word) gs in
    absurd (name_head q name 61 cs (58 ∷ word ++ gs) parts2 is no_equals)
call_most cs n e (Token kinds.PatternVar) q gs parts (inr (inr h)) =
    let (word, same, listed) = h in
    let parts2 : 61 ∷ cs ≡ 58 ∷ (word ++ gs) = parts ∙ ap (λ (x : List ℕ). x ++ gs) same in
    absurd (omega (arith, heads 61 58 cs (word ++ gs) parts2))
call_most cs n e (Token kinds.CallSite) q gs parts h =
    let (name, same, is) = h in
    let parts2 : 61 ∷ cs ≡ 61 ∷ (name ++ gs) = parts ∙ ap (λ (x : List ℕ). x ++ gs) same in
    let tails : cs ≡ name ++ gs = cc in
    let sum = same_value n (length name + prefix_len in_name gs) (name_len cs) e (ap name_len tails ∙ name_of name gs is) in
    within_le (suc (length q)) (2 + n) (Token kinds.CallSite) (omega (arith, ap length same))
call_most cs n e k q gs parts h = absurd h

call_none : (cs : List ℕ) → name_len cs ≡ None → (k : Piece) (q gs : List ℕ) → 61 ∷ cs ≡ q ++ gs → After k q → ⊥
call_none cs e (Token kinds.PatternVar) q gs parts (inl h) = name_head q q 61 cs gs parts h no_equals
call_none cs e (Token kinds.PatternVar) q gs parts (inr (inl h)) =
    let (name, word, same, is, listed) = h in
    let parts2 : 61 ∷ cs ≡ name ++ (58 ∷ word ++ gs) = parts ∙ ap (λ (x : List ℕ). x ++ gs) same ∙ append_assoc name (58 ∷ word) gs in
    name_head q name 61 cs (58 ∷ word ++ gs) parts2 is no_equals
call_none cs e (Token kinds.PatternVar) q gs parts (inr (inr h)) =
    let (word, same, listed) = h in
    let parts2 : 61 ∷ cs ≡ 58 ∷ (word ++ gs) = parts ∙ ap (λ (x : List ℕ). x ++ gs) same in
    absurd (omega (arith, heads 61 58 cs (word ++ gs) parts2))
call_none cs e (Token kinds.CallSite) q gs parts h =
    let (name, same, is) = h in
    let parts2 : 61 ∷ cs ≡ 61 ∷ (name ++ gs) = parts ∙ ap (λ (x : List ℕ). x ++ gs) same in
    let tails : cs ≡ name ++ gs = cc in
    not_none (length name + prefix_len in_name gs) (name_len cs) (ap name_len tails ∙ name_of name gs is) e
call_none cs e k q gs parts h = h

call_answers : (b : ℕ) (cs : List ℕ) (r : Option ℕ) → class_of b ≡ Question → name_len cs ≡ r → Answers (call_site r) (b ∷ 61 ∷ cs)
call_answers b cs (Some n) is e =
    let byte : b ≡ 63 = byte_of b Question is in
    let (q, rest, parts, len, name) = name_splits cs n e in
    best_at b (61 ∷ cs) is (2 + n) (Token kinds.CallSite) (61 ∷ q) rest (ap (λ (x : List ℕ). 61 ∷ x) parts) (omega arith)
    (q, ap (λ (x : ℕ). x ∷ 61 ∷ q) byte, name) (call_most cs n e)
call_answers b cs None is e = nothing b (61 ∷ cs) is (call_none cs e)

-- ---- ?:constraint

unnamed_most : (cs : List ℕ) (n : ℕ) → front_in constraints cs ≡ Some n → (k : Piece) (q gs : List ℕ) → 58 ∷ cs ≡ q ++ gs → After k q → Within (suc (length q)) (2 + n) k (Token kinds.PatternVar)
unnamed_most cs n e (Token kinds.PatternVar) q gs parts (inl h) = absurd (name_head q q 58 cs gs parts h no_colon)
unnamed_most cs n e (Token kinds.PatternVar) q gs parts (inr (inl h)) =
    let (name, word, same, is, listed) = h in
    let parts2 : 58 ∷ cs ≡ name ++ (58 ∷ word ++ gs) = parts ∙ ap (λ (x : List ℕ). x ++ gs) same ∙ append_assoc name (58 ∷ word) gs in
    absurd (name_head q name 58 cs (58 ∷ word ++ gs) parts2 is no_colon)
unnamed_most cs n e (Token kinds.PatternVar) q gs parts (inr (inr h)) =
    let (word, same, listed) = h in
    let parts2 : 58 ∷ cs ≡ 58 ∷ (word ++ gs) = parts ∙ ap (λ (x : List ℕ). x ++ gs) same in
    let tails : cs ≡ word ++ gs = cc in
    let (m, found, most) = front_found constraints cs word gs tails refl listed in
    let size = same_value n m (front_in constraints cs) e found in
    within_le (suc (length q)) (2 + n) (Token kinds.PatternVar) (omega (arith, ap length same))
unnamed_most cs n e (Token kinds.CallSite) q gs parts h =
    let (name, same, is) = h in
    let parts2 : 58 ∷ cs ≡ 61 ∷ (name ++ gs) = parts ∙ ap (λ (x : List ℕ). x ++ gs) same in
    absurd (omega (arith, heads 58 61 cs (name ++ gs) parts2))
unnamed_most cs n e k q gs parts h = absurd h

unnamed_none : (cs : List ℕ) → front_in constraints cs ≡ None → (k : Piece) (q gs : List ℕ) → 58 ∷ cs ≡ q ++ gs → After k q → ⊥
unnamed_none cs e (Token kinds.PatternVar) q gs parts (inl h) = name_head q q 58 cs gs parts h no_colon
unnamed_none cs e (Token kinds.PatternVar) q gs parts (inr (inl h)) =
    let (name, word, same, is, listed) = h in
    let parts2 : 58 ∷ cs ≡ name ++ (58 ∷ word ++ gs) = parts ∙ ap (λ (x : List ℕ). x ++ gs) same ∙ append_assoc name (58 ∷ word) gs in
    name_head q name 58 cs (58 ∷ word ++ gs) parts2 is no_colon
unnamed_none cs e (Token kinds.PatternVar) q gs parts (inr (inr h)) =
    let (word, same, listed) = h in
    let parts2 : 58 ∷ cs ≡ 58 ∷ (word ++ gs) = parts ∙ ap (λ (x : List ℕ). x ++ gs) same in
    let tails : cs ≡ word ++ gs = cc in
    let (m, found, most) = front_found constraints cs word gs tails refl listed in
    not_none m (front_in constraints cs) found e
unnamed_none cs e (Token kinds.CallSite) q gs parts h =
    let (name, same, is) = h in
    let parts2 : 58 ∷ cs ≡ 61 ∷ (name ++ gs) = parts ∙ ap (λ (x : List ℕ). x ++ gs) same in
    absurd (omega (arith, heads 58 61 cs (name ++ gs) parts2))
unnamed_none cs e k q gs parts h = h

unnamed_answers : (b : ℕ) (cs : List ℕ) (r : Option ℕ) → class_of b ≡ Question → front_in constraints cs ≡ r → Answers (unnamed_variable r) (b ∷ 58 ∷ cs)
unnamed_answers b cs (Some n) is e =
    let byte : b ≡ 63 = byte_of b Question is in
    let (word, rest, parts, len, listed) = front_splits constraints cs n e in
    best_at b (58 ∷ cs) is (2 + n) (Token kinds.PatternVar) (58 ∷ word) rest (ap (λ (x : List ℕ). 58 ∷ x) parts) (omega arith)
    (inr (inr (word, ap (λ (x : ℕ). x ∷ 58 ∷ word) byte, listed))) (unnamed_most cs n e)
unnamed_answers b cs None is e = nothing b (58 ∷ cs) is (unnamed_none cs e)

-- ---- ?name and ?name:constraint

-- the longest constraint after a colon
colon_found : (rest word gs : List ℕ) → rest ≡ 58 ∷ (word ++ gs) → IsConstraint word → 1 + length word ≤ constraint_len rest
colon_found rest word gs e listed =
    let (m, found, most) = front_found constraints (word ++ gs) word gs refl refl listed in
    let size : constraint_len rest ≡ 1 + m = ap constraint_len e ∙ ap constraint_found found in
    omega arith

variable_most : (bs : List ℕ) (n : ℕ) → name_len bs ≡ Some n
    → (k : Piece) (q gs : List ℕ) → bs ≡ q ++ gs → After k q → Within (suc (length q)) (1 + n + constraint_len (drop n bs)) k (Token kinds.PatternVar)
variable_most bs n e (Token kinds.PatternVar) q gs parts (inl h) =
    let sum = same_value n (length q + prefix_len in_name gs) (name_len bs) e (ap name_len parts ∙ name_of q gs h) in
    within_le (suc (length q)) (1 + n + constraint_len (drop n bs)) (Token kinds.PatternVar) (omega arith)
variable_most bs n e (Token kinds.PatternVar) q gs parts (inr (inl h)) =
    let (name, word, same, is, listed) = h in
    let parts2 : bs ≡ name ++ (58 ∷ (word ++ gs)) = parts ∙ ap (λ (x : List ℕ). x ++ gs) same ∙ append_assoc name (58 ∷ word) gs in
    let sum = same_value n (length name + prefix_len in_name (58 ∷ (word ++ gs))) (name_len bs) e (ap name_len parts2 ∙ name_of name (58 ∷ (word ++ gs)) is) in
    let len : length name ≡ n = omega arith in
    let back : drop n bs ≡ 58 ∷ (word ++ gs) = ap (drop n) parts2 ∙ drop_at name (58 ∷ (word ++ gs)) n len in
    let room = colon_found (drop n bs) word gs back listed in
    within_le (suc (length q)) (1 + n + constraint_len (drop n bs)) (Token kinds.PatternVar) (omega (arith, ap length same ∙ length-append name (58 ∷ word)))
variable_most bs n e (Token kinds.PatternVar) q gs parts (inr (inr h)) =
    let (word, same, listed) = h in
    let parts2 : bs ≡ 58 ∷ (word ++ gs) = parts ∙ ap (λ (x : List ℕ). x ++ gs) same in
    absurd (not_none n (name_len bs) e (ap name_len parts2))
variable_most bs n e (Token kinds.CallSite) q gs parts h =
    let (name, same, is) = h in
    let parts2 : bs ≡ 61 ∷ (name ++ gs) = parts ∙ ap (λ (x : List ℕ). x ++ gs) same in
    absurd (not_none n (name_len bs) e (ap name_len parts2))
variable_most bs n e k q gs parts h = absurd h

variable_none : (c : ℕ) (cs : List ℕ) → name_len (c ∷ cs) ≡ None → (c ≡ 58 → ⊥) → (c ≡ 61 → ⊥) → (k : Piece) (q gs : List ℕ) → c ∷ cs ≡ q ++ gs → After k q → ⊥
variable_none c cs e colon equals (Token kinds.PatternVar) q gs parts (inl h) = not_none (length q + prefix_len in_name gs) (name_len (c ∷ cs)) (ap name_len parts ∙ name_of q gs h) e
variable_none c cs e colon equals (Token kinds.PatternVar) q gs parts (inr (inl h)) =
    let (name, word, same, is, listed) = h in
    let parts2 : c ∷ cs ≡ name ++ (58 ∷ (word ++ gs)) = parts ∙ ap (λ (x : List ℕ). x ++ gs) same ∙ append_assoc name (58 ∷ word) gs in
    not_none (length name + prefix_len in_name (58 ∷ (word ++ gs))) (name_len (c ∷ cs)) (ap name_len parts2 ∙ name_of name (58 ∷ (word ++ gs)) is) e
variable_none c cs e colon equals (Token kinds.PatternVar) q gs parts (inr (inr h)) =
    let (word, same, listed) = h in
    let parts2 : c ∷ cs ≡ 58 ∷ (word ++ gs) = parts ∙ ap (λ (x : List ℕ). x ++ gs) same in
    colon (heads c 58 cs (word ++ gs) parts2)
variable_none c cs e colon equals (Token kinds.CallSite) q gs parts h =
    let (name, same, is) = h in
    let parts2 : c ∷ cs ≡ 61 ∷ (name ++ gs) = parts ∙ ap (λ (x : List ℕ). x ++ gs) same in
    equals (heads c 61 cs (name ++ gs) parts2)
variable_none c cs e colon equals k q gs parts h = h

-- what is at the colon
abbrev ColonSplits : List ℕ → Type 0
ColonSplits rest = (constraint_len rest ≡ 0) ⊎ ((word : List ℕ) × (gs : List ℕ) × (rest ≡ 58 ∷ (word ++ gs)) × (constraint_len rest ≡ 1 + length word) × IsConstraint word)

colon_splits : (rest : List ℕ) → ColonSplits rest
colon_splits [] = inl refl
colon_splits (d ∷ ds) = go (eqb d 58) refl (front_in constraints ds) refl
  where
    go : (t : Bool) → eqb d 58 ≡ t → (r : Option ℕ) → front_in constraints ds ≡ r → ColonSplits (d ∷ ds)
    go false e r f = inl (rw e refl)
    go true e None f = inl (rw (e, f) refl)
    go true e (Some m) f =
        let (word, gs, parts, len, listed) = front_splits constraints ds m f in
        let colon : d ≡ 58 = eqb-true d 58 e in
        let size : constraint_len (d ∷ ds) ≡ 1 + length word = rw (e, f) (omega arith) in
        inr (word, gs, ap (λ (x : ℕ). x ∷ ds) colon ∙ ap (λ (x : List ℕ). 58 ∷ x) parts, size, listed)

variable_found : (b : ℕ) (bs : List ℕ) (n : ℕ) (q rest : List ℕ) → class_of b ≡ Question → name_len bs ≡ Some n → bs ≡ q ++ rest → length q ≡ n → IsName q → ColonSplits rest
    → drop n bs ≡ rest → Answers (Ok (Token kinds.PatternVar, 1 + n + constraint_len (drop n bs))) (b ∷ bs)
variable_found b bs n q rest is e parts len name (inl none) back =
    let byte : b ≡ 63 = byte_of b Question is in
    let zero_ : constraint_len (drop n bs) ≡ 0 = ap constraint_len back ∙ none in
    best_at b bs is (1 + n + constraint_len (drop n bs)) (Token kinds.PatternVar) q rest parts (omega arith)
    (inl (q, ap (λ (x : ℕ). x ∷ q) byte, name)) (variable_most bs n e)
variable_found b bs n q rest is e parts len name (inr h) back =
    let byte : b ≡ 63 = byte_of b Question is in
    let (word, gs, colon, size, listed) = h in
    let size2 : constraint_len (drop n bs) ≡ 1 + length word = ap constraint_len back ∙ size in
    let parts2 : bs ≡ (q ++ 58 ∷ word) ++ gs = parts ∙ ap (λ (x : List ℕ). q ++ x) colon ∙ sym (append_assoc q (58 ∷ word) gs) in
    best_at b bs is (1 + n + constraint_len (drop n bs)) (Token kinds.PatternVar) (q ++ 58 ∷ word) gs parts2 (omega (arith, length-append q (58 ∷ word)))
    (inr (inl (q, word, ap (λ (x : ℕ). x ∷ (q ++ 58 ∷ word)) byte, name, listed))) (variable_most bs n e)

variable_answers : (b c : ℕ) (cs : List ℕ) (r : Option ℕ) → class_of b ≡ Question → name_len (c ∷ cs) ≡ r → (c ≡ 58 → ⊥) → (c ≡ 61 → ⊥) → Answers (variable_at r (c ∷ cs)) (b ∷ c ∷ cs)
variable_answers b c cs (Some n) is e colon equals =
    let (q, rest, parts, len, name) = name_splits (c ∷ cs) n e in
    variable_found b (c ∷ cs) n q rest is e parts len name (colon_splits rest) (ap (drop n) parts ∙ drop_at q rest n len)
variable_answers b c cs None is e colon equals = nothing b (c ∷ cs) is (variable_none c cs e colon equals)

end_none : (k : Piece) (q gs : List ℕ) → [] ≡ q ++ gs → After k q → ⊥
end_none (Token kinds.PatternVar) [] gs parts (inl h) = h
end_none (Token kinds.PatternVar) [] gs parts (inr (inl h)) = not_pushed h.0 h.1 h.2
  where
    not_pushed : (name word : List ℕ) → [] ≡ name ++ 58 ∷ word → ⊥
    not_pushed [] word e = absurd cc
    not_pushed (x ∷ name) word e = absurd cc
end_none (Token kinds.PatternVar) [] gs parts (inr (inr h)) = let e = h.1 in absurd cc
end_none (Token kinds.CallSite) [] gs parts h = let e = h.1 in absurd cc
end_none k [] gs parts h = h
end_none k (x ∷ q) gs parts h = absurd cc

pub question_answers : (b : ℕ) (bs : List ℕ) → class_of b ≡ Question → Answers (question_at bs) (b ∷ bs)
question_answers b [] is = nothing b [] is end_none
question_answers b (c ∷ cs) is = go (eqb c 61) (eqb c 58) refl refl
  where
    go : (t u : Bool) → eqb c 61 ≡ t → eqb c 58 ≡ u
        → Answers (cond t (call_site (name_len cs)) (cond u (unnamed_variable (front_in constraints cs)) (variable_at (name_len (c ∷ cs)) (c ∷ cs)))) (b ∷ c ∷ cs)
    go true u e f = let same : c ≡ 61 = eqb-true c 61 e in rw same (call_answers b cs (name_len cs) is refl)
    go false true e f = let same : c ≡ 58 = eqb-true c 58 f in rw same (unnamed_answers b cs (front_in constraints cs) is refl)
    go false false e f = variable_answers b c cs (name_len (c ∷ cs)) is refl (λ same. false≢true (sym f ∙ eq-eqb c 58 same)) (λ same. false≢true (sym e ∙ eq-eqb c 61 same))
