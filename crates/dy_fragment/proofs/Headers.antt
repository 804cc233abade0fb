-- From a `define` up to its definition word only brackets group.
use Rattle.std.proofs.Common.{◌≡◌, ℕ, suc, ◌+◌, ◌<◌, ◌≤◌, ◌⊎◌, Bool, true, false, cond, List, [], ◌∷◌, ◌++◌, length, drop, Some, refl, sym, ap, ◌∙◌, subst, inl, inr, arith}
use Rattle.std.specs.Prelude.{slice_get}
use Rattle.std.proofs.lemmas.Bool.{cases_lt}
use Rattle.dy_tree.specs.declared.token.Token.{Token}
use Rattle.dy_tree.specs.declared.macros.MacroKind.TheVariants as kinds
use Rattle.dy_tree.specs.declared.words.Words.{Words}
use Rattle.dy_tree.specs.Fragments.{SeenFragment}
use Rattle.dy_fragment.specs.declared.word.Defined.{Defined}
use Rattle.dy_fragment.specs.declared.word.Defined.TheVariants.{Absent, Bare, Ended}
use Rattle.dy_fragment.specs.declared.front.Context.{Context}
use Rattle.dy_fragment.specs.declared.front.Closer.{Closer}
use Rattle.dy_fragment.specs.declared.front.Front.{Front}
use Rattle.dy_fragment.specs.declared.front.Front.TheVariants.{Leaf, Opens, Closes}
use Rattle.dy_fragment.specs.declared.closing.Closing.{Closing}
use Rattle.dy_fragment.specs.declared.closing.Closing.TheVariants as closings
use Rattle.dy_fragment.specs.declared.closing.Closed.{Closed}
use Rattle.dy_fragment.specs.declared.closing.Closed.TheVariants.{At}
use Rattle.dy_fragment.specs.Words.{is_semicolon, is_word, has_no_end, defined_by, defined_from}
use Rattle.dy_fragment.specs.Fronts.{front_at}
use Rattle.dy_fragment.specs.Closings.{close}
use Rattle.dy_fragment.specs.Groups.{Groups, nothing, leaf, closed}
use Rattle.dy_fragment.proofs.Ahead.{close_ahead}
use Rattle.dy_fragment.proofs.Places.{drop_found}
use Rattle.dy_fragment.proofs.Fronts.{IsHeader, Stays, stays, StaysClosed, stays_closed}

-- ---- the definition word among tokens

ended_place : (at word : ℕ) → Ended at ≡ Ended word → word ≡ at
ended_place at word e = cc

-- the first token is the definition word, or it is none and the word stands among the others
word_cases : (semicolon defines bare : Bool) (at word : ℕ) (rest : Defined) → cond semicolon Absent (cond defines (defined_by bare at) rest) ≡ Ended word
    → (word ≡ at) ⊎ ((semicolon ≡ false) × ((defines ≡ false) × (rest ≡ Ended word)))
word_cases true defines bare at word rest e = absurd cc
word_cases false true true at word rest e = absurd cc
word_cases false true false at word rest e = inl (ended_place at word e)
word_cases false false bare at word rest e = inr (refl, (refl, e))

module _ (words : Words) where
  cases_of : (t : Token) (ts : List Token) (at word : ℕ) → defined_from words at (t ∷ ts) ≡ Ended word
      → (word ≡ at) ⊎ ((is_semicolon t ≡ false) × ((is_word kinds.Definition words t ≡ false) × (defined_from words (at + 1) ts ≡ Ended word)))
  cases_of t ts at word e = word_cases (is_semicolon t) (is_word kinds.Definition words t) (has_no_end t) at word (defined_from words (at + 1) ts) e

  next_of : (t : Token) (ts : List Token) (at word : ℕ) → at < word
      → (word ≡ at) ⊎ ((is_semicolon t ≡ false) × ((is_word kinds.Definition words t ≡ false) × (defined_from words (at + 1) ts ≡ Ended word)))
      → (is_word kinds.Definition words t ≡ false) × (defined_from words (at + 1) ts ≡ Ended word)
  next_of t ts at word less (inl place) = absurd (omega arith)
  next_of t ts at word less (inr (none, next)) = next

  -- before the definition word stands no other
  defined_next : (t : Token) (ts : List Token) (at word : ℕ) → defined_from words at (t ∷ ts) ≡ Ended word → at < word
      → (is_word kinds.Definition words t ≡ false) × (defined_from words (at + 1) ts ≡ Ended word)
  defined_next t ts at word e less = next_of t ts at word less (cases_of t ts at word e)

  ahead_of : (t : Token) (ts : List Token) (at word : ℕ) → (defined_from words (at + 1) ts ≡ Ended word → at + 1 ≤ word)
      → (word ≡ at) ⊎ ((is_semicolon t ≡ false) × ((is_word kinds.Definition words t ≡ false) × (defined_from words (at + 1) ts ≡ Ended word))) → at ≤ word
  ahead_of t ts at word rest (inl place) = omega arith
  ahead_of t ts at word rest (inr (none, (other, next))) = let further = rest next in omega arith

  defined_ahead : (ts : List Token) (at word : ℕ) → defined_from words at ts ≡ Ended word → at ≤ word
  defined_ahead [] at word e = absurd cc
  defined_ahead (t ∷ ts) at word e = ahead_of t ts at word (λ next. defined_ahead ts (at + 1) word next) (cases_of t ts at word e)

  -- the definition word among the first tokens, and what stands before and behind it
  pub record Defines (between : List Token) (at word : ℕ) : Type 0 where
    pub before : List Token
    pub token : Token
    pub behind : List Token
    pub split : between ≡ before ++ token ∷ behind
    pub place : word ≡ at + length before
    pub first : (n : ℕ) → defined_from words n between ≡ Ended (n + length before)

  -- what is found where a token is no definition word and no semicolon
  passed_over : (t : Token) (ts : List Token) (n : ℕ) → is_semicolon t ≡ false → is_word kinds.Definition words t ≡ false
      → defined_from words n (t ∷ ts) ≡ defined_from words (n + 1) ts
  passed_over t ts n none other =
      ap (λ (b : Bool). cond b Absent (cond (is_word kinds.Definition words t) (defined_by (has_no_end t) n) (defined_from words (n + 1) ts))) none
      ∙ ap (λ (b : Bool). cond b (defined_by (has_no_end t) n) (defined_from words (n + 1) ts)) other

  -- a definition word in front is found there
  front_found : (semicolon defines bare : Bool) (at word n : ℕ) (rest others : Defined) → cond semicolon Absent (cond defines (defined_by bare at) rest) ≡ Ended word
      → (rest ≡ Ended at → ⊥) → word ≡ at → cond semicolon Absent (cond defines (defined_by bare n) others) ≡ Ended (n + 0)
  front_found true defines bare at word n rest others e later place = absurd cc
  front_found false true true at word n rest others e later place = absurd cc
  front_found false true false at word n rest others e later place = ap Ended (omega arith)
  front_found false false bare at word n rest others e later place = absurd (later (e ∙ ap Ended place))

  one_further : (n k : ℕ) → n + 1 + k ≡ n + suc k
  one_further n k = omega arith

  behind_it : (ts rest : List Token) (at : ℕ) → defined_from words (at + 1) (ts ++ rest) ≡ Ended at → ⊥
  behind_it ts rest at f = let ahead = defined_ahead (ts ++ rest) (at + 1) at f in absurd (omega arith)

  among : (t : Token) (ts rest : List Token) (at word : ℕ) → defined_from words at (t ∷ (ts ++ rest)) ≡ Ended word → word < at + length (t ∷ ts)
      → (defined_from words (at + 1) (ts ++ rest) ≡ Ended word → word < at + 1 + length ts → Defines ts (at + 1) word)
      → (word ≡ at) ⊎ ((is_semicolon t ≡ false) × ((is_word kinds.Definition words t ≡ false) × (defined_from words (at + 1) (ts ++ rest) ≡ Ended word)))
      → Defines (t ∷ ts) at word
  among t ts rest at word e less further (inl is) = record {
    before = [];
    token = t;
    behind = ts;
    split = refl;
    place = omega arith;
    first = λ (n : ℕ). front_found (is_semicolon t) (is_word kinds.Definition words t) (has_no_end t) at word n (defined_from words (at + 1) (ts ++ rest))
        (defined_from words (n + 1) ts) e (behind_it ts rest at) is;
  }
  among t ts rest at word e less further (inr (none, (other, next))) =
      let deeper = further next (omega arith) in
      let is : word ≡ at + 1 + length deeper.before = deeper.place in
      record {
        before = t ∷ deeper.before;
        token = deeper.token;
        behind = deeper.behind;
        split = ap (λ (xs : List Token). t ∷ xs) deeper.split;
        place = omega arith;
        first = λ (n : ℕ). passed_over t ts n none other ∙ deeper.first (n + 1) ∙ ap Ended (one_further n (length deeper.before));
      }

  pub defines : (between rest : List Token) (at word : ℕ) → defined_from words at (between ++ rest) ≡ Ended word → word < at + length between → Defines between at word
  defines [] rest at word e less = let ahead = defined_ahead rest at word e in absurd (omega arith)
  defines (t ∷ ts) rest at word e less =
      among t ts rest at word e less (λ next bound. defines ts rest (at + 1) word next bound) (cases_of t (ts ++ rest) at word e)

-- ---- groups before the definition word

module _ (words : Words) (tokens : List Token) where
  pub groups_ahead : (at : ℕ) (c : Context) (to : ℕ) (e : Context) (fs : List SeenFragment) → Groups words tokens at c to e fs → at ≤ to
  groups_ahead at c to e fs (nothing a b) = omega arith
  groups_ahead at c to e fs (leaf a b c2 d e2 t gs found front more) = let ahead = groups_ahead (at + 1) d to e gs more in omega arith
  groups_ahead at c to h fs (closed a end after b c2 d e g h2 opener closer k j inner gs found front within met ends closes more) =
      let first = groups_ahead (at + 1) d end e inner within in
      let past = close_ahead words tokens k j closer (end + 1) e after g closes in
      let last = groups_ahead after g to h gs more in
      omega arith

  module _ (word : ℕ) where
    -- the definition word is awaited here, and it is this one
    abbrev Awaited : ℕ → Context → Type 0
    Awaited at c = IsHeader c.mode × (defined_from words at (drop at tokens) ≡ Ended word)

    next : (at : ℕ) (c : Context) (t : Token) → slice_get tokens at ≡ Some t → at < word → Awaited at c
        → Stays c.mode (front_at words tokens t at c) × (defined_from words (at + 1) (drop (at + 1) tokens) ≡ Ended word)
    next at c t found less (header, defined) =
        let is = defined_next words t (drop (at + 1) tokens) at word
        (subst (λ (ts : List Token). defined_from words at ts ≡ Ended word) (drop_found tokens at t found) defined) less in
        (stays words tokens t at c header is.0, is.1)

    next_leaf : (at : ℕ) (c d : Context) (t : Token) → slice_get tokens at ≡ Some t → front_at words tokens t at c ≡ Leaf d → at < word → Awaited at c → Awaited (at + 1) d
    next_leaf at c d t found front less h = let is = next at c t found less h in (subst (Stays c.mode) front is.0, is.1)

    next_group : (at end after : ℕ) (c d e g : Context) (opener closer : Token) (k : Closing) (j : Closer)
        → slice_get tokens at ≡ Some opener → front_at words tokens opener at c ≡ Opens k d
        → slice_get tokens end ≡ Some closer → close words tokens k j closer (end + 1) e ≡ At after g
        → at < word → end < word → Awaited at c → (Awaited (at + 1) d → Awaited end e) → Awaited after g
    next_group at end after c d e g opener closer (closings.Word w o) j found front met closes less before h within =
        absurd (subst (Stays c.mode) front (next at c opener found less h).0)
    next_group at end after c d e g opener closer (closings.Bracket bracket outside) j found front met closes less before h within =
        let is = next at c opener found less h in
        let opens = subst (Stays c.mode) front is.0 in
        let ended = within (opens.1, is.1) in
        let past = next end e closer met before ended in
        let around = subst IsHeader (sym opens.0) h.0 in
        let stands = subst (StaysClosed (end + 1)) closes (stays_closed words tokens bracket outside j closer (end + 1) e around ended.0) in
        (stands.1, subst (λ (n : ℕ). defined_from words n (drop n tokens) ≡ Ended word) stands.0 past.1)

    awaited : (at : ℕ) (c : Context) (to : ℕ) (e : Context) (fs : List SeenFragment) → Groups words tokens at c to e fs → to ≤ word → Awaited at c → Awaited to e
    awaited at c to e fs (nothing a b) within h = h
    awaited at c to e fs (leaf a b c2 d e2 t gs found front more) within h =
        let ahead = groups_ahead (at + 1) d to e gs more in
        awaited (at + 1) d to e gs more within (next_leaf at c d t found front (omega arith) h)
    awaited at c to h fs (closed a end after b c2 d e g h2 opener closer k j inner gs found front inside met ends closes more) within kept =
        let first = groups_ahead (at + 1) d end e inner inside in
        let past = close_ahead words tokens k j closer (end + 1) e after g closes in
        let last = groups_ahead after g to h gs more in
        awaited after g to h gs more within
        (next_group at end after c d e g opener closer k j found front met closes (omega arith) (omega arith) kept
        (λ inner_kept. awaited (at + 1) d end e inner inside (omega arith) inner_kept))

    -- a definition word stands before the `end` of its definition
    pub word_before : (at end : ℕ) (d e : Context) (fs : List SeenFragment) → Groups words tokens at d end e fs → IsHeader d.mode
        → defined_from words at (drop at tokens) ≡ Ended word → (IsHeader e.mode → ⊥) → word < end
    word_before at end d e fs groups header defined closes = decide (cases_lt word end)
      where
        decide : (word < end) ⊎ (end ≤ word) → word < end
        decide (inl less) = less
        decide (inr more) = absurd (closes (awaited at d end e fs groups more (header, defined)).0)
