-- Literals and comments, which have an end: automata over bytes.
use Rattle.std.specs.Prelude.{ℕ, ◌+◌, ◌-◌, ◌*◌, ◌≤◌, Bool, true, false, ◌&&◌, ◌||◌, ◌==◌, nat_lt}
use Rattle.std.specs.Prelude.{if◌then◌else◌, List, [], ◌∷◌, Option, Some, None}
use Rattle.dy_pieces.specs.Bytes.{digit_of}
use Rattle.dy_pieces.specs.declared.spelling.Spelling.{Spelling}
use Rattle.dy_pieces.specs.declared.spelling.Spelling.TheVariants.{Plain, Escape, Open, Digit}
use Rattle.dy_pieces.specs.declared.spelling.Spelling.TheVariants.{Digits}
use Rattle.dy_pieces.specs.declared.spelling.Read.{Read}
use Rattle.dy_pieces.specs.declared.spelling.Read.TheVariants.{Value, GoesOn, Wrong}

-- n bytes more
abbrev pub plus : ℕ → Option ℕ → Option ℕ
plus n None = None
plus n (Some m) = Some (n + m)

-- what an automaton does at a byte
pub data Turn (S : Type 0) : Type 0 where
  Goes : (s : S) → Turn S
  Stops : Turn S
  Fails : Turn S

abbrev pub turned : {S : Type 0} → Turn S → (S → Option ℕ) → Option ℕ
turned (Goes s) rest = plus 1 (rest s)
turned Stops rest = Some 1
turned Fails rest = None

-- how many bytes there are up to the one at which the automaton stops, and with it
abbrev pub scan : {S : Type 0} → (S → ℕ → Turn S) → S → List ℕ → Option ℕ
scan step s [] = None
scan step s (b ∷ bs) = turned (step s b) (λ s'. scan step s' bs)

-- inside of a literal; the flag says that a backslash was before
abbrev pub literal_step : ℕ → Bool → ℕ → Turn Bool
literal_step quote true b = if b == 10 then Fails else Goes false
literal_step quote false b =
    if b == 10 then Fails
    else if b == quote then Stops
    else if b == 92 then Goes true
    else Goes false

-- up to the closing quote, which stands on the same line
abbrev pub literal_end : ℕ → Bool → List ℕ → Option ℕ
literal_end quote escaped bs = scan (literal_step quote) escaped bs

-- in d open comments, after the byte `before`, which is 0 where a mark ended
abbrev pub comment_step : ℕ × ℕ → ℕ → Turn (ℕ × ℕ)
comment_step (d, before) b =
    if before == 42 && b == 47 then (if d == 1 then Stops else Goes (d - 1, 0))
    else if before == 47 && b == 42 then Goes (d + 1, 0)
    else Goes (d, b)

abbrev pub comment_end : ℕ → ℕ → List ℕ → Option ℕ
comment_end d before bs = scan comment_step (d, before) bs

-- what a character after a backslash stands for
abbrev pub escape_of : ℕ → Option ℕ
escape_of b =
    if b == 92 || b == 34 || b == 39 then Some b
    else if b == 110 then Some 10
    else if b == 114 then Some 13
    else if b == 116 then Some 9
    else if b == 48 then Some 0
    else if b == 97 then Some 7
    else if b == 98 then Some 8
    else if b == 101 then Some 27
    else if b == 102 then Some 12
    else None

-- bytes that stand for themselves in a literal; the flag says that a tab does
abbrev pub is_plain : Bool → ℕ → Bool
is_plain tabs b = if b == 9 then tabs else if nat_lt b 32 then false else if b == 127 then false
    else true

-- what a byte of a character's spelling gives
abbrev pub given : Option ℕ → Read
given (Some v) = Value v
given None = Wrong

abbrev pub digit_read : (ℕ → Spelling) → Option ℕ → Read
digit_read to (Some v) = GoesOn (to v)
digit_read to None = Wrong

abbrev pub spelling_step : Bool → Spelling → ℕ → Read
spelling_step tabs Plain b =
    if b == 92 then GoesOn Escape else if is_plain tabs b then Value b else Wrong
spelling_step tabs Escape b = if b == 60 then GoesOn Open else given (escape_of b)
spelling_step tabs Open b = digit_read (λ v. Digit v) (digit_of b)
spelling_step tabs (Digit v) b =
    if b == 62 then Value v else digit_read (λ w. Digits (16 * v + w)) (digit_of b)
spelling_step tabs (Digits v) b = if b == 62 then Value v else Wrong

abbrev pub value_and : ℕ → Option (List ℕ) → Option (List ℕ)
value_and v None = None
value_and v (Some vs) = Some (v ∷ vs)

abbrev pub spelled : Read → (Spelling → Option (List ℕ)) → Option (List ℕ)
spelled (Value v) rest = value_and v (rest Plain)
spelled (GoesOn s) rest = rest s
spelled Wrong rest = None

abbrev pub ended : Spelling → Option (List ℕ)
ended Plain = Some []
ended _ = None

-- the bytes that the characters of a literal stand for
abbrev pub decoded_from : Bool → Spelling → List ℕ → Option (List ℕ)
decoded_from tabs s [] = ended s
decoded_from tabs s (b ∷ bs) = spelled (spelling_step tabs s b) (λ s'. decoded_from tabs s' bs)

abbrev pub decoded : Bool → List ℕ → Option (List ℕ)
decoded tabs bytes = decoded_from tabs Plain bytes

-- a digit in a spelling is below 16
abbrev pub IsSmall : Spelling → Type 0
IsSmall (Digit v) = v ≤ 15
IsSmall _ = Unit {0}

abbrev pub IsSmallRead : Read → Type 0
IsSmallRead (GoesOn s) = IsSmall s
IsSmallRead _ = Unit {0}
