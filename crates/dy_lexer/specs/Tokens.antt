-- The tokens of pieces, and of a text.
use Rattle.std.specs.Prelude.{◌≡◌, ℕ, ℤ, pos, zero, suc, ◌+◌, ◌-◌, Bool, true, false, ◌&&◌, ◌==◌}
use Rattle.std.specs.Prelude.{if◌then◌else◌, List, [], ◌∷◌, ◌++◌, take, drop, length, Result, Ok}
use Rattle.std.specs.Prelude.{Err, Option, Some, None}
use Rattle.dy_base.specs.Folding.{folded}
use Rattle.dy_base.specs.declared.kind.Kind.{Kind}
use Rattle.dy_base.specs.declared.kind.Kind.TheVariants.{BadLiteral, WideInteger}
use Rattle.dy_base.specs.declared.fault.Place.{Place}
use Rattle.dy_base.specs.declared.fault.Fault.{Fault}
use Rattle.dy_base.specs.declared.fault.Refusal.{Refusal}
use Rattle.dy_base.specs.declared.fault.Refusal.TheVariants as refusals
use Rattle.dy_tree.specs.declared.token.TokenKind.{TokenKind}
use Rattle.dy_tree.specs.declared.token.TokenKind.TheVariants.{Name, Escaped, Symbol, Int, Char}
use Rattle.dy_tree.specs.declared.token.TokenKind.TheVariants.{Str, Mark, PatternVar, CallSite}
use Rattle.dy_tree.specs.declared.token.TokenKind.TheVariants.{Operator, Punctuation}
use Rattle.dy_tree.specs.declared.token.Token.{Token}
use Rattle.dy_pieces.specs.declared.class.Piece.{Piece}
use Rattle.dy_pieces.specs.declared.class.Piece.TheVariants as pieces
use Rattle.dy_pieces.specs.Bytes.{is_letter, is_digit}
use Rattle.dy_pieces.specs.Numbers.{fitting, value_of}
use Rattle.dy_pieces.specs.Scan.{decoded}
use Rattle.dy_pieces.specs.Pieces.{Found, piece_at}

-- a fault at a place, whose subject is written later
abbrev pub fault_at : Kind → Place → Fault
fault_at kind place = record
    { kind = kind; library = []; place = Some place; shown = []; numbers = [] }

abbrev pub token : TokenKind → List ℕ → ℤ → Place → Token
token kind text number place =
    record { kind = kind; text = text; number = number; place = place; origin = 0; «module» = 0 }

abbrev pub OneToken : Type 0
OneToken = Result Token Fault

abbrev pub plain : TokenKind → List ℕ → Place → OneToken
plain kind text place = Ok (token kind text (pos 0) place)

-- what is between an opener of n bytes and a closing quote
abbrev pub inner : ℕ → List ℕ → List ℕ
inner n piece = take (length piece - (n + 1)) (drop n piece)

abbrev pub begins_digit : List ℕ → Bool
begins_digit [] = false
begins_digit (b ∷ bs) = is_digit b

-- no integer stands directly before a letter, an underscore, or a point with a digit
abbrev pub runs_on : List ℕ → Bool
runs_on [] = false
runs_on (b ∷ bs) = if is_letter b then true else if b == 95 then true
    else if b == 46 then begins_digit bs else false

abbrev pub integer : Place → List ℕ → Option ℕ → OneToken
integer place piece None = Err (fault_at WideInteger place)
integer place piece (Some n) = Ok (token Int (folded piece) (pos n) place)

abbrev pub integer_at : Place → List ℕ → List ℕ → OneToken
integer_at place piece rest =
    if runs_on rest then Err (fault_at BadLiteral place)
    else integer place piece (fitting (value_of piece))

abbrev pub one_character : Place → Option (List ℕ) → OneToken
one_character place (Some (v ∷ [])) = plain Char (v ∷ []) place
one_character place _ = Err (fault_at BadLiteral place)

abbrev pub characters : Place → Option (List ℕ) → OneToken
characters place (Some vs) = plain Str vs place
characters place None = Err (fault_at BadLiteral place)

-- a token, and after its text the characters of a string
abbrev pub string_after : Token → Place → Option (List ℕ) → OneToken
string_after first place (Some vs) = Ok (record first { text = first.text ++ vs })
string_after first place None = Err (fault_at BadLiteral place)

abbrev pub quoted_symbol : Place → Option (List ℕ) → OneToken
quoted_symbol place (Some vs) = plain Symbol (folded vs) place
quoted_symbol place None = Err (fault_at BadLiteral place)

abbrev pub symbol_at : Place → List ℕ → OneToken
symbol_at place [] = plain Symbol [] place
symbol_at place (b ∷ bs) =
    if b == 35 then quoted_symbol place (decoded false (inner 2 (b ∷ bs)))
    else plain Symbol (folded (take (length bs) (b ∷ bs))) place

-- the token of a piece, and before what it stands
abbrev pub token_of : TokenKind → Place → List ℕ → List ℕ → OneToken
token_of Name place piece rest = plain Name (folded piece) place
token_of Escaped place piece rest = plain Escaped (folded (drop 1 piece)) place
token_of Symbol place piece rest = symbol_at place piece
token_of Int place piece rest = integer_at place piece rest
token_of Char place piece rest = one_character place (decoded false (inner 1 piece))
token_of Str place piece rest = characters place (decoded true (inner 1 piece))
token_of Mark place piece rest = plain Mark (folded piece) place
token_of PatternVar place piece rest = plain PatternVar (folded piece) place
token_of CallSite place piece rest = plain CallSite (folded (drop 2 piece)) place
token_of Operator place piece rest = plain Operator (folded piece) place
token_of Punctuation place piece rest = plain Punctuation (folded piece) place

abbrev pub some_token : OneToken → Result (Option Token) Fault
some_token (Ok t) = Ok (Some t)
some_token (Err f) = Err f

-- a comment and a blank are no tokens
abbrev pub token_at : Piece → Place → List ℕ → List ℕ → Result (Option Token) Fault
token_at (pieces.Token kind) place piece rest = some_token (token_of kind place piece rest)
token_at pieces.Comment place piece rest = Ok None
token_at pieces.Blank place piece rest = Ok None

abbrev pub Tokens : Type 0
Tokens = Result (List Token) Fault

abbrev pub before : Option Token → Tokens → Tokens
before None r = r
before (Some t) (Ok ts) = Ok (t ∷ ts)
before (Some t) (Err f) = Err f

abbrev pub after_token : Result (Option Token) Fault → Tokens → Tokens
after_token (Ok t) more = before t more
after_token (Err f) more = Err f

abbrev pub after_piece : Place → List ℕ → Found → (ℕ → Tokens) → Tokens
after_piece place text (Ok p) more =
    after_token (token_at p.0 place (take p.1 text) (drop p.1 text)) (more p.1)
after_piece place text (Err kind) more = Err (fault_at kind place)

-- the tokens of a text of at most n bytes that begins at an offset of a file
abbrev pub tokens_of : ℕ → ℕ → ℕ → List ℕ → Tokens
tokens_of zero file at text = Ok []
tokens_of (suc n) file at [] = Ok []
tokens_of (suc n) file at (b ∷ bs) =
    after_piece (record { file = file; offset = at }) (b ∷ bs) (piece_at (b ∷ bs))
    (λ len. tokens_of n file (at + len) (drop len (b ∷ bs)))

abbrev pub is_string : TokenKind → Bool
is_string Str = true
is_string _ = false

-- two tokens in a row, by whether both are strings: two strings are one, at the place of the first
abbrev pub joined_pair : Bool → Token → Token → List Token
joined_pair true first second = record first { text = first.text ++ second.text } ∷ []
joined_pair false first second = first ∷ second ∷ []

-- a token after others: a string after a string is joined to it
abbrev pub with_token : List Token → Token → List Token
with_token [] t = t ∷ []
with_token (last ∷ []) t = joined_pair (is_string last.kind && is_string t.kind) last t
with_token (first ∷ second ∷ rest) t = first ∷ with_token (second ∷ rest) t

abbrev pub added : List Token → OneToken → Tokens
added ts (Ok t) = Ok (with_token ts t)
added ts (Err f) = Err f

abbrev pub added_piece : List Token → Result (Option Token) Fault → Tokens
added_piece ts (Ok None) = Ok ts
added_piece ts (Ok (Some t)) = Ok (with_token ts t)
added_piece ts (Err f) = Err f

-- tokens after others, adjacent strings joined
abbrev pub with_tokens : List Token → List Token → List Token
with_tokens before [] = before
with_tokens before (t ∷ ts) = with_tokens (with_token before t) ts

abbrev pub joined : List Token → List Token
joined ts = with_tokens [] ts

abbrev pub joined_after : List Token → Tokens → Tokens
joined_after before (Ok ts) = Ok (with_tokens before ts)
joined_after before (Err f) = Err f

-- what a call returned is this, unless memory ran out
abbrev pub Fails : {Y : Type 0} → Refusal → Result Y Fault → Type 0
Fails refusals.Memory r = Unit {0}
Fails (refusals.Fault f) r = r ≡ Err f

abbrev pub Gives : {X Y : Type 0} → (X → Y) → Result X Refusal → Result Y Fault → Type 0
Gives view (Ok x) r = r ≡ Ok (view x)
Gives view (Err e) r = Fails e r
