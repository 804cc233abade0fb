-- Tokens up to a semicolon outside of all groups are grouped as in front of others.
use Rattle.std.proofs.Common.{◌≡◌, ◌⊎◌, ℕ, zero, suc, ◌+◌, ◌-◌, ◌<◌, ◌≤◌, Bool, true, false, cond, inl, inr, List, [], ◌∷◌, take, drop, Option, Some, None, refl, sym, ap, subst, ◌∙◌, arith}
use Rattle.std.specs.Prelude.{slice_get, codes, not, ◌&&◌, ◌||◌}
use Rattle.std.specs.Str.{bytes_eq}
use Rattle.std.proofs.lemmas.Bool.{cases_lt}
use Rattle.std.proofs.lemmas.List.{drop-take}
use Rattle.std.proofs.lemmas.Slice.Eq.{bytes_eq-Decides}
use Rattle.dy_tree.specs.declared.token.TokenKind.{TokenKind}
use Rattle.dy_tree.specs.declared.token.TokenKind.TheVariants.{Name, Escaped, Symbol, Int, Char, Str, Mark, PatternVar, CallSite, Operator, Punctuation}
use Rattle.dy_tree.specs.declared.token.Token.{Token}
use Rattle.dy_tree.specs.declared.macros.MacroKind.TheVariants as kinds
use Rattle.dy_tree.specs.declared.words.Words.{Words}
use Rattle.dy_tree.specs.Spelling.{is_spelled, is_name_kind, is_punctuation}
use Rattle.dy_tree.specs.Fragments.{SeenFragment}
use Rattle.dy_fragment.specs.declared.word.Defined.{Defined}
use Rattle.dy_fragment.specs.declared.word.Defined.TheVariants.{Absent, Ended}
use Rattle.dy_fragment.specs.declared.sign.Bracket.TheVariants.{Round, Square, Curly}
use Rattle.dy_fragment.specs.declared.sign.Sign.{Sign}
use Rattle.dy_fragment.specs.declared.sign.Sign.TheVariants as signs
use Rattle.dy_fragment.specs.declared.front.Mode.{Mode}
use Rattle.dy_fragment.specs.declared.front.Mode.TheVariants as modes
use Rattle.dy_fragment.specs.declared.front.Context.{Context}
use Rattle.dy_fragment.specs.declared.front.Closer.{Closer}
use Rattle.dy_fragment.specs.declared.front.Closer.TheVariants as closers
use Rattle.dy_fragment.specs.declared.front.Front.{Front}
use Rattle.dy_fragment.specs.declared.front.Front.TheVariants.{Opens, Closes}
use Rattle.dy_fragment.specs.declared.closing.Opening.{Opening}
use Rattle.dy_fragment.specs.declared.closing.Opening.TheVariants as openings
use Rattle.dy_fragment.specs.declared.closing.Closing.{Closing}
use Rattle.dy_fragment.specs.declared.closing.Closing.TheVariants as closings
use Rattle.dy_fragment.specs.Signs.{sign_of}
use Rattle.dy_fragment.specs.Words.{is_escaped, is_end, is_define, is_semicolon, is_word, has_no_end, defined_by, defined_from}
use Rattle.dy_fragment.specs.Fronts.{leaf as stands, front_of_sign, front_of_define, front_of_word, front_in, front_by, front_at}
use Rattle.dy_fragment.specs.Closings.{may_be_defined, is_same_word, is_same_name, past, past_word, past_name, past_end, closed_word, close}
use Rattle.dy_fragment.specs.Groups.{Groups, nothing, leaf, closed}
use Rattle.dy_fragment.proofs.Fronts.{Awaits, Opened, opened}

-- ---- the first of some items

pub take_found : {X : Type 0} → (xs : List X) (k i : ℕ) → i < k → slice_get (take k xs) i ≡ slice_get xs i
take_found xs zero i low = absurd (omega arith)
take_found [] (suc k) i low = refl
take_found (x ∷ xs) (suc k) zero low = refl
take_found (x ∷ xs) (suc k) (suc i) low = take_found xs k i (omega arith)

pub take_within : {X : Type 0} → (xs : List X) (k i : ℕ) (x : X) → slice_get (take k xs) i ≡ Some x → (i < k) × (slice_get xs i ≡ Some x)
take_within xs zero i x e = absurd cc
take_within [] (suc k) i x e = absurd cc
take_within (y ∷ xs) (suc k) zero x e = (omega arith, e)
take_within (y ∷ xs) (suc k) (suc i) x e = let (low, found) = take_within xs k i x e in (omega arith, found)

found_behind : {X : Type 0} → (xs : List X) (i k n : ℕ) (x : X) → n ≡ i + k → slice_get xs n ≡ Some x → slice_get (drop i xs) k ≡ Some x
found_behind xs zero k n x is e = let same : k ≡ n = omega arith in ap (slice_get xs) same ∙ e
found_behind [] (suc i) k n x is e = absurd cc
found_behind (y ∷ xs) (suc i) k zero x is e = absurd (omega arith)
found_behind (y ∷ xs) (suc i) k (suc n) x is e = found_behind xs i k n x (omega arith) e

same_token : (t u : Token) (found : Option Token) → found ≡ Some t → found ≡ Some u → u ≡ t
same_token t u found e f = cc

-- ---- a semicolon

sign_kind : (kind : TokenKind) (b : Bool) → (is_punctuation kind && b) ≡ true → kind ≡ Punctuation
sign_kind Punctuation b e = refl
sign_kind Name b e = absurd cc
sign_kind Escaped b e = absurd cc
sign_kind Symbol b e = absurd cc
sign_kind Int b e = absurd cc
sign_kind Char b e = absurd cc
sign_kind Str b e = absurd cc
sign_kind Mark b e = absurd cc
sign_kind PatternVar b e = absurd cc
sign_kind CallSite b e = absurd cc
sign_kind Operator b e = absurd cc

both_true : (a b : Bool) → (a && b) ≡ true → b ≡ true
both_true true b e = e
both_true false b e = absurd cc

abbrev closing_text : List ℕ → Sign
closing_text text = cond (bytes_eq text (codes ")")) (signs.Closes Round)
    (cond (bytes_eq text (codes "]")) (signs.Closes Square)
    (cond (bytes_eq text (codes "}")) (signs.Closes Curly)
    (cond (bytes_eq text (codes ",")) signs.Comma signs.Other)))

abbrev sign_text : List ℕ → Sign
sign_text text = cond (bytes_eq text (codes "(")) (signs.Opens Round)
    (cond (bytes_eq text (codes "#(")) (signs.Opens Round)
    (cond (bytes_eq text (codes "[")) (signs.Opens Square)
    (cond (bytes_eq text (codes "#[")) (signs.Opens Square)
    (cond (bytes_eq text (codes "{")) (signs.Opens Curly) (closing_text text)))))

false_first : (a b : Bool) → (a && false && b) ≡ false
false_first true b = refl
false_first false b = refl

module _ (mark : Token) (is : is_semicolon mark ≡ true) where
  mark_kind : mark.kind ≡ Punctuation
  mark_kind = sign_kind mark.kind (is_spelled (codes ";") mark) is

  mark_text : mark.text ≡ codes ";"
  mark_text = (bytes_eq-Decides mark.text (codes ";")).0 (both_true (is_punctuation mark.kind) (is_spelled (codes ";") mark) is)

  mark_sign : sign_of mark ≡ signs.Other
  mark_sign = ap sign_text mark_text

  mark_front : (words : Words) (tokens : List Token) (at : ℕ) (c : Context) → front_at words tokens mark at c ≡ stands c.mode
  mark_front words tokens at c =
      ap (λ (kind : TokenKind). front_by kind words tokens mark at c) mark_kind ∙ ap (λ (sign : Sign). front_of_sign sign c) mark_sign

  -- it is absorbed behind no `end`
  no_word : (word : Token) → is_same_word word mark ≡ false
  no_word word = ap (λ (kind : TokenKind). is_name_kind kind && is_spelled word.text mark) mark_kind

  no_name : (name : Token) → is_same_name name mark ≡ false
  no_name name =
      ap (λ (kind : TokenKind). may_be_defined name && (is_escaped kind || (is_name_kind kind && not (is_end mark) && not (is_define mark))) && is_spelled name.text mark) mark_kind
      ∙ false_first (may_be_defined name) (is_spelled name.text mark)

  -- ---- what follows a `define` is looked for up to it

  by_mark : (b : Bool) (x y : Defined) → b ≡ true → cond b Absent x ≡ cond b Absent y
  by_mark true x y e = refl
  by_mark false x y e = absurd cc

  module _ (words : Words) where
    defined_same : (ts : List Token) (k i : ℕ) → slice_get ts k ≡ Some mark → defined_from words i (take (suc k) ts) ≡ defined_from words i ts
    defined_same [] k i e = absurd cc
    defined_same (t ∷ ts) zero i e =
        let same : mark ≡ t = cc in
        by_mark (is_semicolon t) (cond (is_word kinds.Definition words t) (defined_by (has_no_end t) i) Absent)
        (cond (is_word kinds.Definition words t) (defined_by (has_no_end t) i) (defined_from words (i + 1) ts)) (ap is_semicolon (sym same) ∙ is)
    defined_same (t ∷ ts) (suc k) i e =
        ap (λ (d : Defined). cond (is_semicolon t) Absent (cond (is_word kinds.Definition words t) (defined_by (has_no_end t) i) d)) (defined_same ts k (i + 1) e)

    low_by : (semicolon defines bare : Bool) (i k w : ℕ) (rest : Defined) → (rest ≡ Ended w → w < i + 1 + k)
        → cond semicolon Absent (cond defines (defined_by bare i) rest) ≡ Ended w → w < i + suc k
    low_by true defines bare i k w rest more e = absurd cc
    low_by false true true i k w rest more e = absurd cc
    low_by false true false i k w rest more e = let same : i ≡ w = cc in omega arith
    low_by false false bare i k w rest more e = let low = more e in omega arith

    none_by : (b : Bool) (x : Defined) (w : ℕ) → b ≡ true → cond b Absent x ≡ Ended w → ⊥
    none_by true x w e f = absurd cc
    none_by false x w e f = absurd cc

    defined_low : (ts : List Token) (k i w : ℕ) → slice_get ts k ≡ Some mark → defined_from words i (take (suc k) ts) ≡ Ended w → w < i + k
    defined_low [] k i w e f = absurd cc
    defined_low (t ∷ ts) zero i w e f =
        let same : mark ≡ t = cc in
        absurd (none_by (is_semicolon t) (cond (is_word kinds.Definition words t) (defined_by (has_no_end t) i) Absent) w (ap is_semicolon (sym same) ∙ is) f)
    defined_low (t ∷ ts) (suc k) i w e f =
        low_by (is_semicolon t) (is_word kinds.Definition words t) (has_no_end t) i k w (defined_from words (i + 1) (take (suc k) ts)) (defined_low ts k (i + 1) w e) f

-- ---- tokens up to a semicolon

in_name : (mode : Mode) (words : Words) (some all : List Token) (t : Token) (at : ℕ) (c : Context)
    → defined_from words (at + 1) (drop (at + 1) some) ≡ defined_from words (at + 1) (drop (at + 1) all)
    → front_in mode words some t at c.local ≡ front_in mode words all t at c.local
in_name modes.Words words some all t at c same =
    ap (λ (d : Defined). cond (is_end t) (Closes closers.End) (cond (is_define t) (front_of_define d) (front_of_word words t at c.local))) same
in_name modes.Header words some all t at c same = refl
in_name modes.BracedHeader words some all t at c same = refl
in_name modes.Macro words some all t at c same = refl
in_name modes.Rules words some all t at c same = refl

by_kind : (kind : TokenKind) (words : Words) (some all : List Token) (t : Token) (at : ℕ) (c : Context)
    → defined_from words (at + 1) (drop (at + 1) some) ≡ defined_from words (at + 1) (drop (at + 1) all)
    → front_by kind words some t at c ≡ front_by kind words all t at c
by_kind Name words some all t at c same = in_name c.mode words some all t at c same
by_kind Escaped words some all t at c same = refl
by_kind Symbol words some all t at c same = refl
by_kind Int words some all t at c same = refl
by_kind Char words some all t at c same = refl
by_kind Str words some all t at c same = refl
by_kind Mark words some all t at c same = refl
by_kind PatternVar words some all t at c same = refl
by_kind CallSite words some all t at c same = refl
by_kind Operator words some all t at c same = refl
by_kind Punctuation words some all t at c same = refl

past_one : (same : Token → Token → Bool) (at : ℕ) (w t : Option Token) → past same at w t ≤ at + 1
past_one same at None t = omega arith
past_one same at (Some w) None = omega arith
past_one same at (Some w) (Some t) = by_test (same w t)
  where
    by_test : (b : Bool) → cond b (at + 1) at ≤ at + 1
    by_test true = omega arith
    by_test false = omega arith

module _ (words : Words) (tokens : List Token) (n : ℕ) (mark : Token) (found : slice_get tokens n ≡ Some mark) (is : is_semicolon mark ≡ true) where
  abbrev some : List Token
  some = take (suc n) tokens

  -- a token is one in front of the semicolon, or the semicolon
  before_or_mark : (t : Token) (at : ℕ) → slice_get some at ≡ Some t → (at < n) ⊎ ((at ≡ n) × (t ≡ mark))
  before_or_mark t at e = by_order (cases_lt at n) (take_within tokens (suc n) at t e)
    where
      by_order : (at < n) ⊎ (n ≤ at) → (at < suc n) × (slice_get tokens at ≡ Some t) → (at < n) ⊎ ((at ≡ n) × (t ≡ mark))
      by_order (inl low) within = inl low
      by_order (inr high) (low, there) =
          let same : at ≡ n = omega arith in
          inr (same, same_token mark t (slice_get tokens n) found (subst (λ (i : ℕ). slice_get tokens i ≡ Some t) same there))

  front_same : (t : Token) (at : ℕ) (c : Context) → slice_get some at ≡ Some t → front_at words some t at c ≡ front_at words tokens t at c
  front_same t at c e = by_place (before_or_mark t at e)
    where
      by_place : (at < n) ⊎ ((at ≡ n) × (t ≡ mark)) → front_at words some t at c ≡ front_at words tokens t at c
      by_place (inl low) =
          let k : ℕ = n - (at + 1) in
          let all : at + 1 + suc k ≡ suc n = omega arith in
          let there : at + 1 + k ≡ n = omega arith in
          let here : slice_get (drop (at + 1) tokens) k ≡ Some mark =
          found_behind tokens (at + 1) k n mark (sym there) found in
          by_kind t.kind words some tokens t at c
          (ap (λ (i : ℕ). defined_from words (at + 1) (drop (at + 1) (take i tokens))) (sym all)
          ∙ ap (λ (ts : List Token). defined_from words (at + 1) ts) (drop-take (at + 1) (suc k) tokens)
          ∙ defined_same mark is words (drop (at + 1) tokens) k (at + 1) here)
      by_place (inr (same, last)) =
          ap (λ (u : Token). front_at words some u at c) last ∙ mark_front mark is words some at c ∙ sym (mark_front mark is words tokens at c)
          ∙ ap (λ (u : Token). front_at words tokens u at c) (sym last)

  -- what opens or closes a group stands in front of the semicolon
  before_mark : (t : Token) (at : ℕ) (c : Context) (front : Front) → slice_get some at ≡ Some t → front_at words some t at c ≡ front → (stands c.mode ≡ front → ⊥) → at < n
  before_mark t at c front e is_front unlike = by_place (before_or_mark t at e)
    where
      by_place : (at < n) ⊎ ((at ≡ n) × (t ≡ mark)) → at < n
      by_place (inl low) = low
      by_place (inr (same, last)) =
          absurd (unlike (sym (mark_front mark is words some at c) ∙ ap (λ (u : Token). front_at words some u at c) (sym last) ∙ is_front))

  -- and its word too
  abbrev Within : Closing → Type 0
  Within (closings.Bracket b m) = Unit {0}
  Within (closings.Word word o) = word < n

  within_word : (o : Opening) (t : Token) (at word : ℕ) (mode : Mode) → at < n → Awaits words some t at word mode o → word < n
  within_word openings.Statement t at word mode low awaits = omega arith
  within_word openings.LocalMethod t at word mode low awaits = let same = awaits.0 in omega arith
  within_word openings.Definition t at word mode low awaits =
      let k : ℕ = n - (at + 1) in
      let all : at + 1 + suc k ≡ suc n = omega arith in
      let there : at + 1 + k ≡ n = omega arith in
      let here : slice_get (drop (at + 1) tokens) k ≡ Some mark =
      found_behind tokens (at + 1) k n mark (sym there) found in
      let ended : defined_from words (at + 1) (take (suc k) (drop (at + 1) tokens)) ≡ Ended word =
      ap (λ (ts : List Token). defined_from words (at + 1) ts) (sym (drop-take (at + 1) (suc k) tokens))
      ∙ ap (λ (i : ℕ). defined_from words (at + 1) (drop (at + 1) (take i tokens))) all ∙ awaits.2 in
      let less = defined_low mark is words (drop (at + 1) tokens) k (at + 1) word here ended in
      omega arith

  within : (k : Closing) (d : Context) (t : Token) (at : ℕ) → at < n → Opened words some t at (Opens k d) → Within k
  within (closings.Bracket b m) d t at low opens = tt
  within (closings.Word word o) d t at low opens = within_word o t at word d.mode low opens

  -- ---- what may follow an `end`

  found_same : (i : ℕ) → i ≤ n → slice_get some i ≡ slice_get tokens i
  found_same i low = take_found tokens (suc n) i (omega arith)

  past_same : (same : Token → Token → Bool) (at w : ℕ) → at ≤ n → w ≤ n → past same at (slice_get some w) (slice_get some at) ≡ past same at (slice_get tokens w) (slice_get tokens at)
  past_same same at w low less =
      ap (λ (o : Option Token). past same at o (slice_get some at)) (found_same w less) ∙ ap (λ (o : Option Token). past same at (slice_get tokens w) o) (found_same at low)

  stays : (same : Token → Token → Bool) → ((w : Token) → same w mark ≡ false) → (at : ℕ) (w : Option Token) → past same at w (Some mark) ≡ at
  stays same never at None = refl
  stays same never at (Some w) = ap (λ (b : Bool). cond b (at + 1) at) (never w)

  past_low : (same : Token → Token → Bool) → ((w : Token) → same w mark ≡ false) → (at : ℕ) (w : Option Token) → at ≤ n → past same at w (slice_get tokens at) ≤ n
  past_low same never at w low = by_order (cases_lt at n)
    where
      by_order : (at < n) ⊎ (n ≤ at) → past same at w (slice_get tokens at) ≤ n
      by_order (inl less) = let one = past_one same at w (slice_get tokens at) in omega arith
      by_order (inr high) =
          let here : n ≡ at = omega arith in
          let there : slice_get tokens at ≡ Some mark = ap (slice_get tokens) (sym here) ∙ found in
          let still : past same at w (slice_get tokens at) ≡ at = ap (λ (o : Option Token). past same at w o) there ∙ stays same never at w in
          omega arith

  word_end : (at word : ℕ) → at ≤ n → word < n → (past_word some word at ≡ past_word tokens word at) × (past_word tokens word at ≤ n)
  word_end at word low less = (past_same is_same_word at word low (omega arith), past_low is_same_word (no_word mark is) at (slice_get tokens word) low)

  name_end : (at word : ℕ) → at ≤ n → word < n
      → (past_name some word (past_word some word at) ≡ past_name tokens word (past_word tokens word at)) × (past_name tokens word (past_word tokens word at) ≤ n)
  name_end at word low less =
      let (same, under) = word_end at word low less in (
        ap (λ (i : ℕ). past_name some word i) same ∙ past_same is_same_name (past_word tokens word at) (word + 1) under (omega arith),
        past_low is_same_name (no_name mark is) (past_word tokens word at) (slice_get tokens (word + 1)) under,
      )

  same_end : (o : Opening) (at word : ℕ) → at ≤ n → word < n → (past_end some word o at ≡ past_end tokens word o at) × (past_end tokens word o at ≤ n)
  same_end openings.Statement at word low less = word_end at word low less
  same_end openings.LocalMethod at word low less = name_end at word low less
  same_end openings.Definition at word low less = name_end at word low less

  close_same : (k : Closing) (j : Closer) (t : Token) (after : ℕ) (c : Context) → after ≤ n → Within k → close words some k j t after c ≡ close words tokens k j t after c
  close_same (closings.Bracket b m) (closers.Bracket a) t after c low less = refl
  close_same (closings.Bracket b m) closers.End t after c low less = refl
  close_same (closings.Word word o) (closers.Bracket a) t after c low less = refl
  close_same (closings.Word word o) closers.End t after c low less =
      let (same, under) = same_end o after word low less in
      ap (λ (i : ℕ). closed_word words o i (slice_get some i)) same
      ∙ ap (λ (u : Option Token). closed_word words o (past_end tokens word o after) u) (found_same (past_end tokens word o after) under)

  -- ---- the groups of these tokens stand in front of the others

  pub groups_before : (at : ℕ) (c : Context) (to : ℕ) (e : Context) (fs : List SeenFragment) → Groups words some at c to e fs → Groups words tokens at c to e fs
  groups_before at c to e fs (nothing a b) = nothing at c
  groups_before at c to e fs (leaf a b c2 d e2 t gs met front more) =
      leaf at to c d e t gs (take_within tokens (suc n) at t met).1 (sym (front_same t at c met) ∙ front) (groups_before (at + 1) d to e gs more)
  groups_before at c to h fs (closed a end after b c2 d e g h2 opener closer k j inner gs met front inside ending ends closes more) =
      let low : at < n = before_mark opener at c (Opens k d) met front (λ x. cc) in
      let less : end < n = before_mark closer end e (Closes j) ending ends (λ x. cc) in
      closed at end after to c d e g h opener closer k j inner gs
      (take_within tokens (suc n) at opener met).1 (sym (front_same opener at c met) ∙ front)
      (groups_before (at + 1) d end e inner inside)
      (take_within tokens (suc n) end closer ending).1 (sym (front_same closer end e ending) ∙ ends)
      (sym (close_same k j closer (end + 1) e (omega arith) (within k d opener at low (subst (Opened words some opener at) front (opened words some opener at c)))) ∙ closes)
      (groups_before after g to h gs more)
