-- A text as pieces: the relation between a whole text and its tokens.
use Rattle.std.specs.Prelude.{◌≡◌, ℕ, ◌+◌, List, [], ◌∷◌, ◌++◌, length, Ok, Err, Option, Some, None}
use Rattle.dy_base.specs.declared.kind.Kind.{Kind}
use Rattle.dy_base.specs.declared.fault.Fault.{Fault}
use Rattle.dy_base.specs.declared.fault.Place.{Place}
use Rattle.dy_tree.specs.declared.token.Token.{Token}
use Rattle.dy_pieces.specs.declared.class.Piece.{Piece}
use Rattle.dy_pieces.specs.Forms.{Begins, IsFault}
use Rattle.dy_lexer.specs.Tokens.{Tokens, fault_at, token_at}

-- a byte of a file
abbrev pub place_of : ℕ → ℕ → Place
place_of file at = record { file = file; offset = at }

abbrev pub and_tokens : Option Token → List Token → List Token
and_tokens None ts = ts
and_tokens (Some t) ts = t ∷ ts

-- the text at this offset of a file is pieces with these tokens
pub data Cut (file : ℕ) : ℕ → List ℕ → List Token → Type 0 where
  ends : (at : ℕ) → Cut file at [] []
  goes : (at : ℕ) (text : List ℕ) (k : Piece) (piece rest : List ℕ) (t : Option Token)
      (ts : List Token) (all : List Token)
      → text ≡ piece ++ rest → Begins k piece rest → token_at k (place_of file at) piece rest ≡ Ok t
      → Cut file (at + length piece) rest ts → all ≡ and_tokens t ts → Cut file at text all

-- the first fault of the text at this offset of a file
pub data Broken (file : ℕ) : ℕ → List ℕ → Fault → Type 0 where
  here : (at : ℕ) (text : List ℕ) (kind : Kind) (f : Fault) → IsFault kind text
      → f ≡ fault_at kind (place_of file at) → Broken file at text f
  value : (at : ℕ) (text : List ℕ) (k : Piece) (piece rest : List ℕ) (f : Fault)
      → text ≡ piece ++ rest → Begins k piece rest
      → token_at k (place_of file at) piece rest ≡ Err f → Broken file at text f
  later : (at : ℕ) (text : List ℕ) (k : Piece) (piece rest : List ℕ) (t : Option Token) (f : Fault)
      → text ≡ piece ++ rest → Begins k piece rest → token_at k (place_of file at) piece rest ≡ Ok t
      → Broken file (at + length piece) rest f → Broken file at text f

-- what an answer says of a text
abbrev pub Judged : ℕ → ℕ → List ℕ → Tokens → Type 0
Judged file at text (Ok ts) = Cut file at text ts
Judged file at text (Err f) = Broken file at text f
