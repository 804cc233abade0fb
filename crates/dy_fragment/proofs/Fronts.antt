-- What a token that opens or closes a group tells, and that a definition word ends the front of its definition.
use Rattle.std.proofs.Common.{◌≡◌, ℕ, ◌+◌, Bool, true, false, cond, List, drop, refl}
use Rattle.std.specs.Prelude.{codes, not, ◌&&◌, ◌||◌}
use Rattle.dy_tree.specs.declared.token.TokenKind.{TokenKind}
use Rattle.dy_tree.specs.declared.token.TokenKind.TheVariants.{Name, Escaped, Symbol, Int, Char, Str, Mark, PatternVar, CallSite, Operator, Punctuation}
use Rattle.dy_tree.specs.declared.token.Token.{Token}
use Rattle.dy_tree.specs.declared.macros.MacroKind.TheVariants as kinds
use Rattle.dy_tree.specs.declared.words.Words.{Words}
use Rattle.dy_tree.specs.Spelling.{is_spelled, is_name_kind}
use Rattle.dy_fragment.specs.declared.word.Defined.{Defined}
use Rattle.dy_fragment.specs.declared.word.Defined.TheVariants.{Absent, Bare, Ended}
use Rattle.dy_fragment.specs.declared.sign.Bracket.{Bracket}
use Rattle.dy_fragment.specs.declared.sign.Bracket.TheVariants.{Round, Square, Curly}
use Rattle.dy_fragment.specs.declared.sign.Sign.{Sign}
use Rattle.dy_fragment.specs.declared.sign.Sign.TheVariants as signs
use Rattle.dy_fragment.specs.declared.front.Mode.{Mode}
use Rattle.dy_fragment.specs.declared.front.Mode.TheVariants as modes
use Rattle.dy_fragment.specs.declared.front.Local.{Local}
use Rattle.dy_fragment.specs.declared.front.Local.TheVariants.{Off, Wanted}
use Rattle.dy_fragment.specs.declared.front.Context.{Context}
use Rattle.dy_fragment.specs.declared.front.Closer.{Closer}
use Rattle.dy_fragment.specs.declared.front.Closer.TheVariants as closers
use Rattle.dy_fragment.specs.declared.front.Front.{Front}
use Rattle.dy_fragment.specs.declared.front.Front.TheVariants.{Leaf, Opens, Closes, Wrong}
use Rattle.dy_fragment.specs.declared.closing.Opening.{Opening}
use Rattle.dy_fragment.specs.declared.closing.Opening.TheVariants as openings
use Rattle.dy_fragment.specs.declared.closing.Closing.{Closing}
use Rattle.dy_fragment.specs.declared.closing.Closing.TheVariants as closings
use Rattle.dy_fragment.specs.declared.closing.Closed.{Closed}
use Rattle.dy_fragment.specs.declared.closing.Closed.TheVariants as closed
use Rattle.dy_fragment.specs.Signs.{sign_of, same_shape}
use Rattle.dy_fragment.specs.Words.{is_escaped, is_end, is_define, is_word, defined_from}
use Rattle.dy_fragment.specs.Fronts.{leaf, inside, front_of_sign, front_of_define, is_wanted, opening_of, front_of_word, front_of_name, in_macro, front_of_definition, front_in_header, front_in, front_by, front_at}
use Rattle.dy_fragment.specs.Closings.{may_be_defined, is_same_name, restored, after_bracket, close}

-- ---- from `define` up to the definition word

-- a definition word is awaited
abbrev pub IsHeader : Mode → Type 0
IsHeader modes.Words = ⊥
IsHeader modes.Header = Unit {0}
IsHeader modes.BracedHeader = Unit {0}
IsHeader modes.Macro = ⊥
IsHeader modes.Rules = ⊥

-- a token that is no definition word closes brackets alone, opens brackets alone, and lets the definition word be awaited
abbrev pub Stays : Mode → Front → Type 0
Stays mode (Leaf d) = IsHeader d.mode
Stays mode (Opens (closings.Bracket bracket outside) d) = (outside ≡ mode) × IsHeader d.mode
Stays mode (Opens (closings.Word word opening) d) = ⊥
Stays mode (Closes (closers.Bracket bracket)) = Unit {0}
Stays mode (Closes closers.End) = ⊥
Stays mode Wrong = Unit {0}

inside_header : (bracket : Bracket) (mode : Mode) → IsHeader mode → IsHeader (inside bracket mode)
inside_header Round mode h = h
inside_header Square mode h = h
inside_header Curly modes.Words h = absurd h
inside_header Curly modes.Header h = tt
inside_header Curly modes.BracedHeader h = tt
inside_header Curly modes.Macro h = absurd h
inside_header Curly modes.Rules h = absurd h

stays_sign : (sign : Sign) (c : Context) → IsHeader c.mode → Stays c.mode (front_of_sign sign c)
stays_sign (signs.Opens bracket) c h = (refl, inside_header bracket c.mode h)
stays_sign (signs.Closes bracket) c h = tt
stays_sign signs.Comma c h = h
stays_sign signs.Other c h = h

stays_untested : (mode : Mode) (b : Bool) (x y : Front) → b ≡ false → Stays mode y → Stays mode (cond b x y)
stays_untested mode true x y e h = absurd cc
stays_untested mode false x y e h = h

stays_in : (mode : Mode) (words : Words) (tokens : List Token) (t : Token) (at : ℕ) (local : Local)
    → IsHeader mode → is_word kinds.Definition words t ≡ false → Stays mode (front_in mode words tokens t at local)
stays_in modes.Words words tokens t at local h unlike = absurd h
stays_in modes.Header words tokens t at local h unlike =
    stays_untested modes.Header (is_word kinds.Definition words t) (front_of_definition t modes.Header) (leaf modes.Header) unlike tt
stays_in modes.BracedHeader words tokens t at local h unlike =
    stays_untested modes.BracedHeader (is_word kinds.Definition words t) (front_of_definition t modes.BracedHeader) (leaf modes.BracedHeader) unlike tt
stays_in modes.Macro words tokens t at local h unlike = absurd h
stays_in modes.Rules words tokens t at local h unlike = absurd h

stays_by : (kind : TokenKind) (words : Words) (tokens : List Token) (t : Token) (at : ℕ) (c : Context)
    → IsHeader c.mode → is_word kinds.Definition words t ≡ false → Stays c.mode (front_by kind words tokens t at c)
stays_by Name words tokens t at c h unlike = stays_in c.mode words tokens t at c.local h unlike
stays_by Escaped words tokens t at c h unlike = h
stays_by Symbol words tokens t at c h unlike = h
stays_by Int words tokens t at c h unlike = h
stays_by Char words tokens t at c h unlike = h
stays_by Str words tokens t at c h unlike = h
stays_by Mark words tokens t at c h unlike = h
stays_by PatternVar words tokens t at c h unlike = h
stays_by CallSite words tokens t at c h unlike = h
stays_by Operator words tokens t at c h unlike = h
stays_by Punctuation words tokens t at c h unlike = stays_sign (sign_of t) c h

pub stays : (words : Words) (tokens : List Token) (t : Token) (at : ℕ) (c : Context)
    → IsHeader c.mode → is_word kinds.Definition words t ≡ false → Stays c.mode (front_at words tokens t at c)
stays words tokens t at c h unlike = stays_by t.kind words tokens t at c h unlike

-- a bracket that is closed there absorbs nothing
abbrev pub StaysClosed : ℕ → Closed → Type 0
StaysClosed at (closed.At to d) = (at ≡ to) × IsHeader d.mode
StaysClosed at (closed.Wrong place) = Unit {0}

restored_header : (outside mode : Mode) → IsHeader outside → IsHeader mode → IsHeader (restored outside mode)
restored_header outside modes.Words h k = absurd k
restored_header outside modes.Header h k = tt
restored_header outside modes.BracedHeader h k = h
restored_header outside modes.Macro h k = absurd k
restored_header outside modes.Rules h k = absurd k

shape_stays : (same : Bool) (at : ℕ) (d : Context) (wrong : Closed) → IsHeader d.mode → StaysClosed at wrong → StaysClosed at (cond same (closed.At at d) wrong)
shape_stays true at d wrong h k = (refl, h)
shape_stays false at d wrong h k = k

pub stays_closed : (words : Words) (tokens : List Token) (bracket : Bracket) (outside : Mode) (j : Closer) (t : Token) (after : ℕ) (c : Context)
    → IsHeader outside → IsHeader c.mode → StaysClosed after (close words tokens (closings.Bracket bracket outside) j t after c)
stays_closed words tokens bracket outside (closers.Bracket other) t after c h k =
    shape_stays (same_shape bracket other) after (after_bracket outside c.mode) (closed.Wrong t.place) (restored_header outside c.mode h k) tt
stays_closed words tokens bracket outside closers.End t after c h k = tt

-- ---- what a token that opens a group with a word tells

abbrev pub Awaits : Words → List Token → Token → ℕ → ℕ → Mode → Opening → Type 0
Awaits words tokens t at word mode openings.Statement = word ≡ at
Awaits words tokens t at word mode openings.LocalMethod = (word ≡ at) × (is_spelled (codes "method") t ≡ true)
Awaits words tokens t at word mode openings.Definition =
    (is_define t ≡ true) × IsHeader mode × (defined_from words (at + 1) (drop (at + 1) tokens) ≡ Ended word)

abbrev pub Opened : Words → List Token → Token → ℕ → Front → Type 0
Opened words tokens t at (Leaf d) = Unit {0}
Opened words tokens t at (Opens (closings.Bracket bracket outside) d) = Unit {0}
Opened words tokens t at (Opens (closings.Word word opening) d) = Awaits words tokens t at word d.mode opening
Opened words tokens t at (Closes j) = Unit {0}
Opened words tokens t at Wrong = Unit {0}

module _ (words : Words) (tokens : List Token) (t : Token) (at : ℕ) where
  opened_if : (b : Bool) (x y : Front) → (b ≡ true → Opened words tokens t at x) → Opened words tokens t at y → Opened words tokens t at (cond b x y)
  opened_if true x y h k = h refl
  opened_if false x y h k = k

  opened_define : (d : Defined) → is_define t ≡ true → defined_from words (at + 1) (drop (at + 1) tokens) ≡ d → Opened words tokens t at (front_of_define d)
  opened_define Absent is e = tt
  opened_define Bare is e = tt
  opened_define (Ended word) is e = (is, tt, e)

  awaits_word : (wanted spelled : Bool) → is_spelled (codes "method") t ≡ spelled
      → Awaits words tokens t at at modes.Words (cond (wanted && spelled) openings.LocalMethod openings.Statement)
  awaits_word true true e = (refl, e)
  awaits_word true false e = refl
  awaits_word false spelled e = refl

  opened_word : (local : Local) → Opened words tokens t at (front_of_word words t at local)
  opened_word local =
      opened_if (is_word kinds.Statement words t) (Opens (closings.Word at (opening_of t local)) (record { mode = modes.Words; local = Off }))
      (cond (is_spelled (codes "local") t) (Leaf (record { mode = modes.Words; local = Wanted })) (leaf modes.Words))
      (λ _. awaits_word (is_wanted local) (is_spelled (codes "method") t) refl)
      (opened_if (is_spelled (codes "local") t) (Leaf (record { mode = modes.Words; local = Wanted })) (leaf modes.Words) (λ _. tt) tt)

  opened_name : (local : Local) → Opened words tokens t at (front_of_name words tokens t at local)
  opened_name local =
      opened_if (is_end t) (Closes closers.End)
      (cond (is_define t) (front_of_define (defined_from words (at + 1) (drop (at + 1) tokens))) (front_of_word words t at local)) (λ _. tt)
      (opened_if (is_define t) (front_of_define (defined_from words (at + 1) (drop (at + 1) tokens))) (front_of_word words t at local)
      (λ is. opened_define (defined_from words (at + 1) (drop (at + 1) tokens)) is refl)
      (opened_word local))

  opened_header : (mode : Mode) → Opened words tokens t at (front_in_header words t mode)
  opened_header mode =
      opened_if (is_word kinds.Definition words t) (front_of_definition t mode) (leaf mode)
      (λ _. opened_if (is_spelled (codes "macro") t) (leaf (in_macro mode)) (leaf modes.Words) (λ _. tt) tt) tt

  opened_in : (mode : Mode) (local : Local) → Opened words tokens t at (front_in mode words tokens t at local)
  opened_in modes.Words local = opened_name local
  opened_in modes.Header local = opened_header modes.Header
  opened_in modes.BracedHeader local = opened_header modes.BracedHeader
  opened_in modes.Macro local = opened_if (is_end t) (Closes closers.End) (leaf modes.Macro) (λ _. tt) tt
  opened_in modes.Rules local = tt

  opened_sign : (sign : Sign) (c : Context) → Opened words tokens t at (front_of_sign sign c)
  opened_sign (signs.Opens bracket) c = tt
  opened_sign (signs.Closes bracket) c = tt
  opened_sign signs.Comma c = tt
  opened_sign signs.Other c = tt

  opened_by : (kind : TokenKind) (c : Context) → Opened words tokens t at (front_by kind words tokens t at c)
  opened_by Name c = opened_in c.mode c.local
  opened_by Escaped c = tt
  opened_by Symbol c = tt
  opened_by Int c = tt
  opened_by Char c = tt
  opened_by Str c = tt
  opened_by Mark c = tt
  opened_by PatternVar c = tt
  opened_by CallSite c = tt
  opened_by Operator c = tt
  opened_by Punctuation c = opened_sign (sign_of t) c

  pub opened : (c : Context) → Opened words tokens t at (front_at words tokens t at c)
  opened c = opened_by t.kind c

-- ---- what a closer tells

-- an `end` closes where no definition word is awaited
abbrev pub IsCloser : Token → Mode → Front → Type 0
IsCloser t mode (Leaf d) = Unit {0}
IsCloser t mode (Opens k d) = Unit {0}
IsCloser t mode (Closes (closers.Bracket bracket)) = Unit {0}
IsCloser t mode (Closes closers.End) = (is_end t ≡ true) × (IsHeader mode → ⊥)
IsCloser t mode Wrong = Unit {0}

module _ (words : Words) (tokens : List Token) (t : Token) (at : ℕ) where
  closer_if : (mode : Mode) (b : Bool) (x y : Front) → (b ≡ true → IsCloser t mode x) → IsCloser t mode y → IsCloser t mode (cond b x y)
  closer_if mode true x y h k = h refl
  closer_if mode false x y h k = k

  closer_define : (mode : Mode) (d : Defined) → IsCloser t mode (front_of_define d)
  closer_define mode Absent = tt
  closer_define mode Bare = tt
  closer_define mode (Ended word) = tt

  closer_word : (mode : Mode) (local : Local) → IsCloser t mode (front_of_word words t at local)
  closer_word mode local =
      closer_if mode (is_word kinds.Statement words t) (Opens (closings.Word at (opening_of t local)) (record { mode = modes.Words; local = Off }))
      (cond (is_spelled (codes "local") t) (Leaf (record { mode = modes.Words; local = Wanted })) (leaf modes.Words)) (λ _. tt)
      (closer_if mode (is_spelled (codes "local") t) (Leaf (record { mode = modes.Words; local = Wanted })) (leaf modes.Words) (λ _. tt) tt)

  closer_name : (local : Local) → IsCloser t modes.Words (front_of_name words tokens t at local)
  closer_name local =
      closer_if modes.Words (is_end t) (Closes closers.End)
      (cond (is_define t) (front_of_define (defined_from words (at + 1) (drop (at + 1) tokens))) (front_of_word words t at local)) (λ is. (is, λ h. h))
      (closer_if modes.Words (is_define t) (front_of_define (defined_from words (at + 1) (drop (at + 1) tokens))) (front_of_word words t at local)
      (λ _. closer_define modes.Words (defined_from words (at + 1) (drop (at + 1) tokens)))
      (closer_word modes.Words local))

  closer_header : (mode : Mode) → IsCloser t mode (front_in_header words t mode)
  closer_header mode =
      closer_if mode (is_word kinds.Definition words t) (front_of_definition t mode) (leaf mode)
      (λ _. closer_if mode (is_spelled (codes "macro") t) (leaf (in_macro mode)) (leaf modes.Words) (λ _. tt) tt) tt

  closer_in : (mode : Mode) (local : Local) → IsCloser t mode (front_in mode words tokens t at local)
  closer_in modes.Words local = closer_name local
  closer_in modes.Header local = closer_header modes.Header
  closer_in modes.BracedHeader local = closer_header modes.BracedHeader
  closer_in modes.Macro local = closer_if modes.Macro (is_end t) (Closes closers.End) (leaf modes.Macro) (λ is. (is, λ h. h)) tt
  closer_in modes.Rules local = tt

  closer_sign : (mode : Mode) (sign : Sign) (c : Context) → IsCloser t mode (front_of_sign sign c)
  closer_sign mode (signs.Opens bracket) c = tt
  closer_sign mode (signs.Closes bracket) c = tt
  closer_sign mode signs.Comma c = tt
  closer_sign mode signs.Other c = tt

  closer_by : (kind : TokenKind) (c : Context) → IsCloser t c.mode (front_by kind words tokens t at c)
  closer_by Name c = closer_in c.mode c.local
  closer_by Escaped c = tt
  closer_by Symbol c = tt
  closer_by Int c = tt
  closer_by Char c = tt
  closer_by Str c = tt
  closer_by Mark c = tt
  closer_by PatternVar c = tt
  closer_by CallSite c = tt
  closer_by Operator c = tt
  closer_by Punctuation c = closer_sign c.mode (sign_of t) c

  pub closer_is : (c : Context) → IsCloser t c.mode (front_at words tokens t at c)
  closer_is c = closer_by t.kind c

-- ---- an `end` is the name of nothing

abbrev defined_if : TokenKind → Bool → Bool → Bool
defined_if kind ends defines = is_escaped kind || (is_name_kind kind && not ends && not defines)

no_name : (kind : TokenKind) (spelled defines : Bool) → (is_name_kind kind && spelled) ≡ true → defined_if kind (is_name_kind kind && spelled) defines ≡ false
no_name Name true defines e = refl
no_name Name false defines e = absurd cc
no_name Escaped spelled defines e = absurd cc
no_name Symbol spelled defines e = absurd cc
no_name Int spelled defines e = absurd cc
no_name Char spelled defines e = absurd cc
no_name Str spelled defines e = absurd cc
no_name Mark spelled defines e = absurd cc
no_name PatternVar spelled defines e = absurd cc
no_name CallSite spelled defines e = absurd cc
no_name Operator spelled defines e = absurd cc
no_name Punctuation spelled defines e = absurd cc

first_false : (a b c : Bool) → a ≡ false → (a && b && c) ≡ false
first_false true b c e = absurd cc
first_false false b c e = refl

pub end_unnamed : (name t : Token) → is_end name ≡ true → is_same_name name t ≡ false
end_unnamed name t e =
    first_false (may_be_defined name) (may_be_defined t) (is_spelled name.text t) (no_name name.kind (is_spelled (codes "end") name) (is_define name) e)
