-- One turn of the loop over the pieces.
use Rattle.std.proofs.Common.{◌≡◌, ℕ, zero, suc, ◌+◌, ◌<◌, ◌≤◌, List, [], ◌∷◌, length, take, drop, Result, Ok, Err, Option, Some, None, refl, ap, ◌∙◌, arith}
use Rattle.dy_base.specs.declared.kind.Kind.{Kind}
use Rattle.dy_base.specs.declared.fault.Place.{Place}
use Rattle.dy_base.specs.declared.fault.Fault.{Fault}
use Rattle.dy_base.specs.declared.fault.Refusal.{Refusal}
use Rattle.dy_base.specs.declared.fault.Refusal.TheVariants as refusals
use Rattle.dy_tree.specs.declared.token.Token.{Token}
use Rattle.dy_pieces.specs.declared.class.Piece.{Piece}
use Rattle.dy_pieces.specs.Pieces.{piece_at}
use Rattle.dy_lexer.specs.Tokens.{Tokens, Fails, fault_at, token_at, before, after_token, after_piece, tokens_of, with_token, with_tokens, added_piece, joined_after}

abbrev pub place : ℕ → ℕ → Place
place file at = record { file = file; offset = at }

pub tokens_end : (ts : List Token) (m file at : ℕ) (text : List ℕ) → length text ≡ 0 → joined_after ts (tokens_of m file at text) ≡ Ok ts
tokens_end ts zero file at text e = refl
tokens_end ts (suc m) file at [] e = refl
tokens_end ts (suc m) file at (b ∷ bs) e = absurd (omega arith)

pub tokens_step : (m file at : ℕ) (text : List ℕ) → 0 < length text → length text ≤ m
    → (k : ℕ) × (length text ≤ suc k) × (tokens_of m file at text ≡ after_piece (place file at) text (piece_at text) (λ len. tokens_of k file (at + len) (drop len text)))
tokens_step zero file at text some fits = absurd (omega arith)
tokens_step (suc k) file at [] some fits = absurd (omega arith)
tokens_step (suc k) file at (b ∷ bs) some fits = (k, fits, refl)

pub fault_ends : (ts : List Token) (m file at : ℕ) (text : List ℕ) (kind : Kind) (whole : Tokens) → 0 < length text → length text ≤ m → Err kind ≡ piece_at text
    → whole ≡ joined_after ts (tokens_of m file at text) → whole ≡ Err (fault_at kind (place file at))
fault_ends ts m file at text kind whole some fits e w =
    let (k, room, s) = tokens_step m file at text some fits in
    w ∙ rw (s, ← e) refl

added_before : (ts ts' : List Token) (t : Token) (r : Tokens) → with_token ts t ≡ ts' → joined_after ts (before (Some t) r) ≡ joined_after ts' r
added_before ts ts' t (Ok us) e = ap (λ (x : List Token). Ok (with_tokens x us)) e
added_before ts ts' t (Err f) e = refl

added_on : (ts ts' : List Token) (o : Result (Option Token) Fault) (r : Tokens) → added_piece ts o ≡ Ok ts' → joined_after ts (after_token o r) ≡ joined_after ts' r
added_on ts ts' (Ok None) r e = let same : ts ≡ ts' = cc in ap (λ (x : List Token). joined_after x r) same
added_on ts ts' (Ok (Some t)) r e = let same : with_token ts t ≡ ts' = cc in added_before ts ts' t r same
added_on ts ts' (Err f) r e = absurd cc

added_fails : (ts : List Token) (o : Result (Option Token) Fault) (r : Tokens) (f : Fault) → added_piece ts o ≡ Err f → joined_after ts (after_token o r) ≡ Err f
added_fails ts (Ok None) r f e = absurd cc
added_fails ts (Ok (Some t)) r f e = absurd cc
added_fails ts (Err g) r f e = let same : g ≡ f = cc in ap (λ (x : Fault). Err x) same

pub turn : (ts ts' : List Token) (m file at : ℕ) (text : List ℕ) (piece : Piece) (len : ℕ) (after : List ℕ) (whole : Tokens) → 0 < length text → length text ≤ m
    → length after < length text → after ≡ drop len text → Ok (piece, len) ≡ piece_at text
    → added_piece ts (token_at piece (place file at) (take len text) (drop len text)) ≡ Ok ts'
    → whole ≡ joined_after ts (tokens_of m file at text) → (k : ℕ) × (length after ≤ k) × (whole ≡ joined_after ts' (tokens_of k file (at + len) after))
turn ts ts' m file at text piece len after whole some fits less back e t w =
    let (k, room, s) = tokens_step m file at text some fits in
    (k, omega arith, w ∙ rw (s, ← e, back) (added_on ts ts' (token_at piece (place file at) (take len text) (drop len text)) (tokens_of k file (at + len) (drop len text)) t))

pub error_ends : (error : Refusal) (ts : List Token) (m file at : ℕ) (text : List ℕ) (piece : Piece) (len : ℕ) (whole : Tokens) → 0 < length text → length text ≤ m
    → Ok (piece, len) ≡ piece_at text → Fails error (added_piece ts (token_at piece (place file at) (take len text) (drop len text)))
    → whole ≡ joined_after ts (tokens_of m file at text) → Fails error whole
error_ends refusals.Memory ts m file at text piece len whole some fits e t w = tt
error_ends (refusals.Fault f) ts m file at text piece len whole some fits e t w =
    let (k, room, s) = tokens_step m file at text some fits in
    w ∙ rw (s, ← e) (added_fails ts (token_at piece (place file at) (take len text) (drop len text)) (tokens_of k file (at + len) (drop len text)) f t)
