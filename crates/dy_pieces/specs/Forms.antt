-- The forms of tokens, comments and blanks (DRM 2, "Lexical syntax", and appendix A), each as a set
-- of texts.
use Rattle.std.specs.Prelude.{◌≡◌, ℕ, ◌≤◌, ◌<◌, ◌⊎◌, Bool, true, false, List, [], ◌∷◌, ◌++◌, length}
use Rattle.std.specs.Prelude.{Some, None}
use Rattle.dy_base.specs.Folding.{folded}
use Rattle.dy_base.specs.declared.kind.Kind.{Kind}
use Rattle.dy_base.specs.declared.kind.Kind.TheVariants.{BadByte, OpenComment, OpenString}
use Rattle.dy_base.specs.declared.kind.Kind.TheVariants.{BadLiteral}
use Rattle.dy_tree.specs.declared.token.TokenKind.TheVariants.{Name, Escaped, Symbol, Int, Char}
use Rattle.dy_tree.specs.declared.token.TokenKind.TheVariants.{Str, Mark, PatternVar, CallSite}
use Rattle.dy_tree.specs.declared.token.TokenKind.TheVariants.{Operator, Punctuation}
use Rattle.dy_pieces.specs.declared.class.Piece.{Piece}
use Rattle.dy_pieces.specs.declared.class.Piece.TheVariants.{Token, Comment, Blank}
use Rattle.dy_pieces.specs.declared.class.Class.{Class}
use Rattle.dy_pieces.specs.declared.class.Class.TheVariants.{Letter, Digit, Graphic, Hash, Question}
use Rattle.dy_pieces.specs.declared.class.Class.TheVariants.{Space}
use Rattle.dy_pieces.specs.Bytes.{class_of, in_name, is_digit, is_blank, in_line, in_base, base_of}
use Rattle.dy_pieces.specs.Words.{operators, punctuation, escapable, marks, constraints, is_listed}
use Rattle.dy_pieces.specs.Scan.{literal_end, comment_end}
use Rattle.dy_pieces.specs.Pieces.{is_alone}

-- each byte passes
abbrev pub Each : (ℕ → Bool) → List ℕ → Type 0
Each p [] = Unit {0}
Each p (b ∷ bs) = (p b ≡ true) × Each p bs

-- graphic characters, a letter, and then any characters of names
abbrev pub IsName : List ℕ → Type 0
IsName [] = ⊥
IsName (b ∷ bs) = ((class_of b ≡ Letter) × Each in_name bs) ⊎ ((class_of b ≡ Graphic) × IsName bs)

-- \ with a name, or with an operator
abbrev pub IsEscaped : List ℕ → Type 0
IsEscaped p = (word : List ℕ) × (p ≡ 92 ∷ word) × (IsName word ⊎ (is_listed escapable word ≡ true))

-- up to a closing quote, and no further
abbrev pub IsClosed : ℕ → List ℕ → Type 0
IsClosed quote body = literal_end quote false body ≡ Some (length body)

-- a name and a colon, which begins neither :: nor :=
abbrev pub IsKeyword : List ℕ → List ℕ → Type 0
IsKeyword p rest = (name : List ℕ) × (p ≡ name ++ 58 ∷ []) × IsName name × (is_alone rest ≡ true)

-- #"..."
abbrev pub IsQuotedSymbol : List ℕ → Type 0
IsQuotedSymbol p = (body : List ℕ) × (p ≡ 35 ∷ 34 ∷ body) × IsClosed 34 body

-- digits
abbrev pub IsDecimal : List ℕ → Type 0
IsDecimal [] = ⊥
IsDecimal (b ∷ bs) = (class_of b ≡ Digit) × Each is_digit bs

-- #b, #o or #x with digits of that base
abbrev pub IsBased : List ℕ → Type 0
IsBased p = (letter : ℕ) × (base : ℕ) × (digits : List ℕ) × (p ≡ 35 ∷ letter ∷ digits)
    × (base_of letter ≡ Some base) × (0 < length digits) × Each (in_base base) digits

-- '...'
abbrev pub IsCharacter : List ℕ → Type 0
IsCharacter p = (body : List ℕ) × (p ≡ 39 ∷ body) × IsClosed 39 body

-- "..."
abbrev pub IsString : List ℕ → Type 0
IsString p = (body : List ℕ) × (p ≡ 34 ∷ body) × IsClosed 34 body

-- # with a mark, in either case
abbrev pub IsMark : List ℕ → Type 0
IsMark p = (word : List ℕ) × (p ≡ 35 ∷ word) × (is_listed marks (folded word) ≡ true)

abbrev pub IsConstraint : List ℕ → Type 0
IsConstraint word = is_listed constraints (folded word) ≡ true

-- ?name
abbrev pub IsVariable : List ℕ → Type 0
IsVariable p = (name : List ℕ) × (p ≡ 63 ∷ name) × IsName name

-- ?name:constraint
abbrev pub IsConstrained : List ℕ → Type 0
IsConstrained p = (name : List ℕ) × (word : List ℕ) × (p ≡ 63 ∷ (name ++ 58 ∷ word)) × IsName name
    × IsConstraint word

-- ?:constraint
abbrev pub IsUnnamed : List ℕ → Type 0
IsUnnamed p = (word : List ℕ) × (p ≡ 63 ∷ 58 ∷ word) × IsConstraint word

-- ?=name
abbrev pub IsCallSite : List ℕ → Type 0
IsCallSite p = (name : List ℕ) × (p ≡ 63 ∷ 61 ∷ name) × IsName name

-- // up to the end of the line
abbrev pub IsLineComment : List ℕ → Type 0
IsLineComment p = (body : List ℕ) × (p ≡ 47 ∷ 47 ∷ body) × Each in_line body

-- /* up to the */ that closes it, and no further
abbrev pub IsBlockComment : List ℕ → Type 0
IsBlockComment p = (body : List ℕ) × (p ≡ 47 ∷ 42 ∷ body)
    × (comment_end 1 0 body ≡ Some (length body))

abbrev pub IsBlank : List ℕ → Type 0
IsBlank [] = ⊥
IsBlank (b ∷ bs) = (class_of b ≡ Space) × Each is_blank bs

-- a piece of a kind, by its bytes and, for a keyword, by what follows it
abbrev pub IsForm : Piece → List ℕ → List ℕ → Type 0
IsForm (Token Name) p rest = IsName p
IsForm (Token Escaped) p rest = IsEscaped p
IsForm (Token Symbol) p rest = IsKeyword p rest ⊎ IsQuotedSymbol p
IsForm (Token Int) p rest = IsDecimal p ⊎ IsBased p
IsForm (Token Char) p rest = IsCharacter p
IsForm (Token Str) p rest = IsString p
IsForm (Token Mark) p rest = IsMark p
IsForm (Token PatternVar) p rest = IsVariable p ⊎ (IsConstrained p ⊎ IsUnnamed p)
IsForm (Token CallSite) p rest = IsCallSite p
IsForm (Token Operator) p rest = is_listed operators p ≡ true
IsForm (Token Punctuation) p rest = (is_listed punctuation p ≡ true)
    ⊎ ((p ≡ 35 ∷ 40 ∷ []) ⊎ (p ≡ 35 ∷ 91 ∷ []))
IsForm Comment p rest = IsLineComment p ⊎ IsBlockComment p
IsForm Blank p rest = IsBlank p

-- a comment begins here that is never closed
abbrev pub IsOpenComment : List ℕ → Type 0
IsOpenComment text = (body : List ℕ) × (text ≡ 47 ∷ 42 ∷ body) × (comment_end 1 0 body ≡ None)

-- a literal begins here that is not closed on its line
abbrev pub IsOpenLiteral : List ℕ → Type 0
IsOpenLiteral text =
    ((body : List ℕ) × (text ≡ 39 ∷ body) × (literal_end 39 false body ≡ None))
    ⊎ (((body : List ℕ) × (text ≡ 34 ∷ body) × (literal_end 34 false body ≡ None))
    ⊎ ((body : List ℕ) × (text ≡ 35 ∷ 34 ∷ body) × (literal_end 34 false body ≡ None)))

abbrev pub IsBroken : Kind → List ℕ → Type 0
IsBroken f text = ((f ≡ OpenComment) × IsOpenComment text) ⊎ ((f ≡ OpenString) × IsOpenLiteral text)

-- the next piece: no longer piece begins here, and no comment or literal that is never closed
pub record Begins (k : Piece) (piece rest : List ℕ) : Type 0 where
  pub form : IsForm k piece rest
  pub longest : (other : Piece) (front after : List ℕ) → piece ++ rest ≡ front ++ after
      → IsForm other front after → length front ≤ length piece
  pub sound : (f : Kind) → IsBroken f (piece ++ rest) → ⊥

-- no piece begins here
pub record Stuck (text : List ℕ) : Type 0 where
  pub some : 0 < length text
  pub none : (k : Piece) (front rest : List ℕ) → text ≡ front ++ rest → IsForm k front rest → ⊥
  pub sound : (f : Kind) → IsBroken f text → ⊥

abbrev pub class_fault : Class → Kind
class_fault Hash = BadLiteral
class_fault Question = BadLiteral
class_fault _ = BadByte

-- what is wrong where no piece begins: after # and ? a literal, else a byte
abbrev pub stuck_fault : List ℕ → Kind
stuck_fault [] = BadByte
stuck_fault (b ∷ bs) = class_fault (class_of b)

abbrev pub IsFault : Kind → List ℕ → Type 0
IsFault f text = IsBroken f text ⊎ ((f ≡ stuck_fault text) × Stuck text)
