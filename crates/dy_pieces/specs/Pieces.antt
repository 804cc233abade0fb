-- The next piece of a text, by functions that compute.
use Rattle.std.specs.Prelude.{◌≡◌, ◌<◌, ℕ, ◌+◌, Bool, true, false, ◌&&◌, ◌||◌, ◌==◌, nat_le}
use Rattle.std.specs.Prelude.{if◌then◌else◌, List, [], ◌∷◌, take, drop, length, Result, Ok, Err}
use Rattle.std.specs.Prelude.{Option, Some, None}
use Rattle.std.specs.List.{prefix_len}
use Rattle.dy_base.specs.declared.kind.Kind.{Kind}
use Rattle.dy_base.specs.declared.kind.Kind.TheVariants.{BadByte, OpenComment, OpenString}
use Rattle.dy_base.specs.declared.kind.Kind.TheVariants.{BadLiteral}
use Rattle.dy_tree.specs.declared.token.TokenKind.{TokenKind}
use Rattle.dy_tree.specs.declared.token.TokenKind.TheVariants as kinds
use Rattle.dy_pieces.specs.declared.class.Piece.{Piece}
use Rattle.dy_pieces.specs.declared.class.Piece.TheVariants.{Token, Comment, Blank}
use Rattle.dy_pieces.specs.declared.class.Class.{Class}
use Rattle.dy_pieces.specs.declared.class.Class.TheVariants.{Letter, Digit, Graphic, Joint, Sign}
use Rattle.dy_pieces.specs.declared.class.Class.TheVariants.{Slash, Hash, Question, Backslash}
use Rattle.dy_pieces.specs.declared.class.Class.TheVariants.{SingleQuote, DoubleQuote, Space, Other}
use Rattle.dy_pieces.specs.Bytes.{class_of, in_name, is_digit, is_blank, in_line, in_base, base_of}
use Rattle.dy_pieces.specs.Words.{escapable, marks, constraints, is_listed, sign_of, front_in}
use Rattle.dy_pieces.specs.Scan.{plus, literal_end, comment_end}

-- a piece with its length, or a fault
abbrev pub Found : Type 0
Found = Result (Piece × ℕ) Kind

-- the length of the name at the front, from the class of its first byte
abbrev pub name_from : Class → ℕ → Option ℕ → Option ℕ
name_from Letter run more = Some (1 + run)
name_from Graphic run more = plus 1 more
name_from _ run more = None

abbrev pub name_len : List ℕ → Option ℕ
name_len [] = None
name_len (b ∷ bs) = name_from (class_of b) (prefix_len in_name bs) (name_len bs)

-- a colon after a name makes a symbol, unless it begins :: or :=
abbrev pub is_alone : List ℕ → Bool
is_alone [] = true
is_alone (b ∷ bs) = if b == 58 then false else if b == 61 then false else true

abbrev pub ends_symbol : List ℕ → Bool
ends_symbol [] = false
ends_symbol (b ∷ bs) = if b == 58 then is_alone bs else false

abbrev pub word_after : ℕ → List ℕ → Piece × ℕ
word_after n rest = if ends_symbol rest then (Token kinds.Symbol, n + 1) else (Token kinds.Name, n)

-- the longest front of at most three bytes that is an operator or punctuation
abbrev pub front : ℕ → List ℕ → Option TokenKind
front n text = if nat_le n (length text) then sign_of (take n text) else None

abbrev pub or_sign : ℕ → Option TokenKind → Found → Found
or_sign n (Some kind) next = Ok (Token kind, n)
or_sign n None next = next

abbrev pub sign_at : List ℕ → Found
sign_at text = or_sign 3 (front 3 text)
    (or_sign 2 (front 2 text) (or_sign 1 (front 1 text) (Err BadByte)))

-- a name, a symbol or a sign
abbrev pub named : Option ℕ → List ℕ → Found
named (Some n) text = Ok (word_after n (drop n text))
named None text = sign_at text

-- a literal or a comment, whose opener has n bytes
abbrev pub closed : Piece → ℕ → Kind → Option ℕ → Found
closed piece n fault (Some m) = Ok (piece, n + m)
closed piece n fault None = Err fault

-- after a slash
abbrev pub slash_at : List ℕ → Found
slash_at [] = Ok (Token kinds.Operator, 1)
slash_at (b ∷ bs) =
    if b == 47 then Ok (Comment, 2 + prefix_len in_line bs)
    else if b == 42 then closed Comment 2 OpenComment (comment_end 1 0 bs)
    else Ok (Token kinds.Operator, 1)

-- after # and the letter of a base
abbrev pub number_at : Option ℕ → List ℕ → Found
number_at None bs = Err BadLiteral
number_at (Some base) bs =
    if prefix_len (in_base base) bs == 0 then Err BadLiteral
    else Ok (Token kinds.Int, 2 + prefix_len (in_base base) bs)

-- a mark, else a number
abbrev pub marked : Option ℕ → Found → Found
marked (Some n) next = Ok (Token kinds.Mark, 1 + n)
marked None next = next

-- after #
abbrev pub hash_at : List ℕ → Found
hash_at [] = Err BadLiteral
hash_at (b ∷ bs) =
    if b == 34 then closed (Token kinds.Symbol) 2 OpenString (literal_end 34 false bs)
    else if b == 40 || b == 91 then Ok (Token kinds.Punctuation, 2)
    else marked (front_in marks (b ∷ bs)) (number_at (base_of b) bs)

-- a name after ?=
abbrev pub call_site : Option ℕ → Found
call_site (Some n) = Ok (Token kinds.CallSite, 2 + n)
call_site None = Err BadLiteral

-- a constraint after its colon
abbrev pub constraint_found : Option ℕ → ℕ
constraint_found (Some n) = 1 + n
constraint_found None = 0

-- the length of a colon with a constraint, or 0
abbrev pub constraint_len : List ℕ → ℕ
constraint_len [] = 0
constraint_len (b ∷ bs) = if b == 58 then constraint_found (front_in constraints bs) else 0

-- a variable after ?, whose name has n bytes
abbrev pub variable_at : Option ℕ → List ℕ → Found
variable_at (Some n) bs = Ok (Token kinds.PatternVar, 1 + n + constraint_len (drop n bs))
variable_at None bs = Err BadLiteral

abbrev pub unnamed_variable : Option ℕ → Found
unnamed_variable (Some n) = Ok (Token kinds.PatternVar, 2 + n)
unnamed_variable None = Err BadLiteral

-- after ?
abbrev pub question_at : List ℕ → Found
question_at [] = Err BadLiteral
question_at (b ∷ bs) =
    if b == 61 then call_site (name_len bs)
    else if b == 58 then unnamed_variable (front_in constraints bs)
    else variable_at (name_len (b ∷ bs)) (b ∷ bs)

abbrev pub escapable_front : ℕ → List ℕ → Bool
escapable_front n text = nat_le n (length text) && is_listed escapable (take n text)

-- after a backslash
abbrev pub escaped_operator : List ℕ → Found
escaped_operator bs =
    if escapable_front 3 bs then Ok (Token kinds.Escaped, 4)
    else if escapable_front 2 bs then Ok (Token kinds.Escaped, 3)
    else if escapable_front 1 bs then Ok (Token kinds.Escaped, 2)
    else Err BadByte

abbrev pub escaped : Option ℕ → List ℕ → Found
escaped (Some n) bs = Ok (Token kinds.Escaped, 1 + n)
escaped None bs = escaped_operator bs

abbrev pub piece_from : Class → ℕ → List ℕ → Found
piece_from Letter b bs = named (name_len (b ∷ bs)) (b ∷ bs)
piece_from Graphic b bs = named (name_len (b ∷ bs)) (b ∷ bs)
piece_from Joint b bs = sign_at (b ∷ bs)
piece_from Sign b bs = sign_at (b ∷ bs)
piece_from Digit b bs = Ok (Token kinds.Int, 1 + prefix_len is_digit bs)
piece_from Slash b bs = slash_at bs
piece_from Hash b bs = hash_at bs
piece_from Question b bs = question_at bs
piece_from Backslash b bs = escaped (name_len bs) bs
piece_from SingleQuote b bs = closed (Token kinds.Char) 1 OpenString (literal_end 39 false bs)
piece_from DoubleQuote b bs = closed (Token kinds.Str) 1 OpenString (literal_end 34 false bs)
piece_from Space b bs = Ok (Blank, 1 + prefix_len is_blank bs)
piece_from Other b bs = Err BadByte

-- the kind and the length of the next piece
abbrev pub piece_at : List ℕ → Found
piece_at [] = Err BadByte
piece_at (b ∷ bs) = piece_from (class_of b) b bs

-- no name begins at any of the first bytes
abbrev pub IsNameless : ℕ → List ℕ → Type 0
IsNameless bare text = (k : ℕ) → k < bare → name_len (drop k text) ≡ None
