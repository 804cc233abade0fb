-- No fault of the lexer or of groups says that a file is absent.
use Rattle.std.proofs.Common.{◌≡◌, ◌≢◌, ℕ, true, false, List, [], ◌∷◌, sym, ◌∙◌, subst, inl, inr}
use Rattle.std.proofs.lemmas.Bool.{cond_both}
use Rattle.std.specs.Prelude.{nat_lt, ◌==◌, length, take, Option, Some, None, Ok, Err}
use Rattle.dy_base.specs.Folding.{folded}
use Rattle.dy_base.specs.declared.kind.Kind.{Kind}
use Rattle.dy_base.specs.declared.kind.Kind.TheVariants.{NoFile, BadLiteral, Unbalanced, TooDeep}
use Rattle.dy_base.specs.declared.fault.Place.{Place}
use Rattle.dy_base.specs.declared.fault.Fault.{Fault}
use Rattle.dy_tree.specs.declared.token.TokenKind.{TokenKind}
use Rattle.dy_tree.specs.declared.token.TokenKind.TheVariants.{Name, Escaped, Symbol, Int, Char, Str, Mark, PatternVar, CallSite, Operator, Punctuation}
use Rattle.dy_tree.specs.declared.token.Token.{Token}
use Rattle.dy_tree.specs.declared.words.Words.{Words}
use Rattle.dy_pieces.specs.declared.class.Class.{Class}
use Rattle.dy_pieces.specs.declared.class.Class.TheVariants.{Letter, Digit, Graphic, Joint, Sign, Slash, Hash, Question, Backslash, SingleQuote, DoubleQuote, Space, Other}
use Rattle.dy_pieces.specs.declared.class.Piece.{Piece}
use Rattle.dy_pieces.specs.declared.class.Piece.TheVariants as pieces
use Rattle.dy_pieces.specs.Bytes.{class_of}
use Rattle.dy_pieces.specs.Numbers.{fitting, value_of}
use Rattle.dy_pieces.specs.Scan.{decoded}
use Rattle.dy_lexer.specs.Tokens.{OneToken, fault_at, runs_on, inner, plain, token_of, token_at, some_token, integer, integer_at, one_character, characters, quoted_symbol, symbol_at}
use Rattle.dy_pieces.specs.Forms.{IsFault, class_fault, stuck_fault}
use Rattle.dy_lexer.specs.Cut.{place_of, Broken, here, value, later}
use Rattle.dy_lexer.specs.declared.header.Head.{Head}
use Rattle.dy_lexer.specs.Sources.{IsAfter, IsFirst, header_fault}
use Rattle.dy_fragment.specs.Steps as groups
use Rattle.dy_fragment.specs.Steps.{earlier}
use Rattle.dy_fragment.specs.Faults.{Refused, unbalanced, too_deep, both}

abbrev pub IsPresent : Fault → Type 0
IsPresent fault = fault.kind ≢ NoFile

pub present_same : (fault other : Fault) → fault ≡ other → IsPresent other → IsPresent fault
present_same fault other same present = subst IsPresent (sym same) present

class_present : (class : Class) → class_fault class ≢ NoFile
class_present Letter e = cc
class_present Digit e = cc
class_present Graphic e = cc
class_present Joint e = cc
class_present Sign e = cc
class_present Slash e = cc
class_present Hash e = cc
class_present Question e = cc
class_present Backslash e = cc
class_present SingleQuote e = cc
class_present DoubleQuote e = cc
class_present Space e = cc
class_present Other e = cc

stuck_present : (text : List ℕ) → stuck_fault text ≢ NoFile
stuck_present [] e = cc
stuck_present (b ∷ bs) e = class_present (class_of b) e

broken_present : (kind : Kind) (text : List ℕ) → IsFault kind text → kind ≢ NoFile
broken_present kind text (inl (inl (is, open_comment))) e = cc
broken_present kind text (inl (inr (is, open_literal))) e = cc
broken_present kind text (inr (is, stuck)) e = stuck_present text (sym is ∙ e)

-- a token, or a fault that says of no absent file
abbrev IsToken : OneToken → Type 0
IsToken (Ok token) = Unit {0}
IsToken (Err fault) = IsPresent fault

integer_token : (place : Place) (piece : List ℕ) (number : Option ℕ) → IsToken (integer place piece number)
integer_token place piece None = λ e. cc
integer_token place piece (Some n) = tt

integer_at_token : (place : Place) (piece rest : List ℕ) → IsToken (integer_at place piece rest)
integer_at_token place piece rest =
    cond_both (runs_on rest) (Err (fault_at BadLiteral place)) (integer place piece (fitting (value_of piece))) IsToken (λ t e. cc) (λ t. integer_token place piece (fitting (value_of piece)))

character_token : (place : Place) (values : Option (List ℕ)) → IsToken (one_character place values)
character_token place None = λ e. cc
character_token place (Some []) = λ e. cc
character_token place (Some (v ∷ [])) = tt
character_token place (Some (v ∷ w ∷ values)) = λ e. cc

string_token : (place : Place) (values : Option (List ℕ)) → IsToken (characters place values)
string_token place None = λ e. cc
string_token place (Some values) = tt

quoted_token : (place : Place) (values : Option (List ℕ)) → IsToken (quoted_symbol place values)
quoted_token place None = λ e. cc
quoted_token place (Some values) = tt

symbol_token : (place : Place) (piece : List ℕ) → IsToken (symbol_at place piece)
symbol_token place [] = tt
symbol_token place (b ∷ bs) =
    cond_both (b == 35) (quoted_symbol place (decoded false (inner 2 (b ∷ bs)))) (plain Symbol (folded (take (length bs) (b ∷ bs))) place) IsToken (λ t. quoted_token place (decoded false (inner 2 (b ∷ bs)))) (λ t. tt)

one_token : (kind : TokenKind) (place : Place) (piece rest : List ℕ) → IsToken (token_of kind place piece rest)
one_token Name place piece rest = tt
one_token Escaped place piece rest = tt
one_token Symbol place piece rest = symbol_token place piece
one_token Int place piece rest = integer_at_token place piece rest
one_token Char place piece rest = character_token place (decoded false (inner 1 piece))
one_token Str place piece rest = string_token place (decoded true (inner 1 piece))
one_token Mark place piece rest = tt
one_token PatternVar place piece rest = tt
one_token CallSite place piece rest = tt
one_token Operator place piece rest = tt
one_token Punctuation place piece rest = tt

token_present : (one : OneToken) (fault : Fault) → IsToken one → some_token one ≡ Err fault → IsPresent fault
token_present (Ok token) fault token_is is = absurd cc
token_present (Err other) fault token_is is = let same : fault ≡ other = cc in present_same fault other same token_is

piece_present : (k : Piece) (place : Place) (piece rest : List ℕ) (fault : Fault) → token_at k place piece rest ≡ Err fault → IsPresent fault
piece_present (pieces.Token kind) place piece rest fault is = token_present (token_of kind place piece rest) fault (one_token kind place piece rest) is
piece_present pieces.Comment place piece rest fault is = absurd cc
piece_present pieces.Blank place piece rest fault is = absurd cc

text_present : (file at : ℕ) (text : List ℕ) (fault : Fault) → Broken file at text fault → IsPresent fault
text_present file at text fault (here at2 text2 kind fault2 broken is) = present_same fault (fault_at kind (place_of file at)) is (broken_present kind text broken)
text_present file at text fault (value at2 text2 k piece rest fault2 parts begins is) = piece_present k (place_of file at) piece rest fault is
text_present file at text fault (later at2 text2 k piece rest token fault2 parts begins is more) = text_present file _ rest fault more

after_present : (file : ℕ) (head : Head) (at : ℕ) (body : List ℕ) (fault : Fault) → IsAfter file head at body fault → IsPresent fault
after_present file head at body fault (inl (line, wanted, is)) = present_same fault (header_fault file line) is (λ e. cc)
after_present file head at body fault (inr (name, wanted, broken)) = text_present file at body fault broken

-- the first fault of a source file
pub source_present : (file : ℕ) (text : List ℕ) (fault : Fault) → IsFirst file text fault → IsPresent fault
source_present file text fault first = after_present file first.head first.at first.body fault first.first

-- the first fault of groups
pub groups_present : (limit : ℕ) (words : Words) (tokens : List Token) (fault : Fault) → Refused limit words tokens fault → IsPresent fault
groups_present limit words tokens fault (unbalanced m p f unfit fits is) = present_same fault _ is (λ e. cc)
groups_present limit words tokens fault (too_deep p fs f deep grouped is) = present_same fault _ is (λ e. cc)
groups_present limit words tokens fault (both m p q f unfit deep is) = present_same fault (earlier (Some q) p) is (cond_both (nat_lt q.offset p.offset) (groups.fault_at TooDeep q) (groups.fault_at Unbalanced p) IsPresent (λ t e. cc) (λ t e. cc))
