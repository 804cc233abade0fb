-- The tokens of a whole text are those of its pieces, and it has no others.
use Rattle.std.proofs.Common.{◌≡◌, ℕ, zero, suc, ◌+◌, ◌≤◌, List, [], ◌∷◌, ◌++◌, length, take, drop, Result, Ok, Err, Option, Some, None, inl, inr, refl, sym, ap, subst, ◌∙◌, arith}
use Rattle.std.proofs.lemmas.List.{take_at, drop_at, length-append}
use Rattle.dy_base.specs.declared.fault.Fault.{Fault}
use Rattle.dy_tree.specs.declared.token.Token.{Token}
use Rattle.dy_pieces.specs.declared.class.Piece.{Piece}
use Rattle.dy_pieces.specs.Pieces.{Found, piece_at}
use Rattle.dy_lexer.specs.Tokens.{Tokens, fault_at, token_at, before, after_token, after_piece, tokens_of}
use Rattle.dy_pieces.specs.Forms.{IsBroken, Begins}
use Rattle.dy_lexer.specs.Cut.{place_of, and_tokens, Cut, ends, goes, Broken, here, value, later, Judged}
use Rattle.dy_pieces.proofs.Heads.{Within, Best, Answers}
use Rattle.dy_pieces.proofs.Munch.{munch, some_piece, exact, fault_some, exact_fault}
use Rattle.dy_lexer.proofs.Loop.{tokens_step}

begins_of : (k : Piece) (n : ℕ) (text : List ℕ) (best : Best k n text) → Begins k best.piece best.rest
begins_of k n text best = record {
  form = best.form;
  longest = λ other front after e h. most other (length front) (best.most other front after (best.parts ∙ e) h);
  sound = λ f h. best.sound f (subst (IsBroken f) (sym best.parts) h);
}
  where
    most : (other : Piece) (m : ℕ) → Within m n other k → m ≤ length best.piece
    most other m (inl less) = let len = best.len in omega arith
    most other m (inr same) = let len = best.len in omega arith

after_ok : (file at : ℕ) (text : List ℕ) (k : Piece) (piece rest : List ℕ) (t : Option Token) (r : Tokens)
    → text ≡ piece ++ rest → Begins k piece rest → token_at k (place_of file at) piece rest ≡ Ok t → Judged file (at + length piece) rest r → Judged file at text (before t r)
after_ok file at text k piece rest None (Ok ts) parts begins token h = goes at text k piece rest None ts ts parts begins token h refl
after_ok file at text k piece rest None (Err f) parts begins token h = later at text k piece rest None f parts begins token h
after_ok file at text k piece rest (Some t) (Ok ts) parts begins token h = goes at text k piece rest (Some t) ts (t ∷ ts) parts begins token h refl
after_ok file at text k piece rest (Some t) (Err f) parts begins token h = later at text k piece rest (Some t) f parts begins token h

after_any : (file at : ℕ) (text : List ℕ) (k : Piece) (piece rest : List ℕ) (t : Result (Option Token) Fault) (r : Tokens)
    → text ≡ piece ++ rest → Begins k piece rest → token_at k (place_of file at) piece rest ≡ t → Judged file (at + length piece) rest r → Judged file at text (after_token t r)
after_any file at text k piece rest (Ok t) r parts begins token h = after_ok file at text k piece rest t r parts begins token h
after_any file at text k piece rest (Err f) r parts begins token h = value at text k piece rest f parts begins token

step : (n file at : ℕ) (text : List ℕ) (p : Found) → length text ≤ suc n → Answers p text
    → ((place : ℕ) (rest : List ℕ) → length rest ≤ n → Judged file place rest (tokens_of n file place rest))
    → Judged file at text (after_piece (place_of file at) text p (λ len. tokens_of n file (at + len) (drop len text)))
step n file at text (Err kind) fits h below = here at text kind (fault_at kind (place_of file at)) h refl
step n file at text (Ok (k, len)) fits best below =
    let piece = best.piece in
    let rest = best.rest in
    let parts : text ≡ piece ++ rest = best.parts in
    let is : length piece ≡ len = best.len in
    let some = some_piece k piece rest best.form in
    let sum = ap length parts ∙ length-append piece rest in
    let front : take len text ≡ piece = ap (take len) parts ∙ take_at piece rest len is in
    let back : drop len text ≡ rest = ap (drop len) parts ∙ drop_at piece rest len is in
    let room : length rest ≤ n = omega arith in
    let judged = after_any file at text k piece rest (token_at k (place_of file at) piece rest) (tokens_of n file (at + length piece) rest) parts (begins_of k len text best) refl (below (at + length piece) rest room) in
    rw (front, back, ← is) judged

-- what is read is so cut, and a fault is the first one
pub judged : (n file at : ℕ) (text : List ℕ) → length text ≤ n → Judged file at text (tokens_of n file at text)
judged zero file at [] fits = ends at
judged zero file at (b ∷ bs) fits = absurd (omega arith)
judged (suc n) file at [] fits = ends at
judged (suc n) file at (b ∷ bs) fits = step n file at (b ∷ bs) (piece_at (b ∷ bs)) fits (munch (b ∷ bs) (omega arith)) (λ place rest room. judged n file place rest room)

-- ---- what is so cut is read

piece_step : (n file at : ℕ) (text : List ℕ) (k : Piece) (piece rest : List ℕ) → length text ≤ n → text ≡ piece ++ rest → Begins k piece rest
    → (m : ℕ) × (length rest ≤ m) × (tokens_of n file at text ≡ after_token (token_at k (place_of file at) piece rest) (tokens_of m file (at + length piece) rest))
piece_step n file at text k piece rest fits parts begins =
    let some = some_piece k piece rest begins.form in
    let sum = ap length parts ∙ length-append piece rest in
    let (m, room, is) = tokens_step n file at text (omega arith) fits in
    let found : piece_at text ≡ Ok (k, length piece) = ap piece_at parts ∙ exact k piece rest begins in
    let front : take (length piece) text ≡ piece = ap (take (length piece)) parts ∙ take_at piece rest (length piece) refl in
    let back : drop (length piece) text ≡ rest = ap (drop (length piece)) parts ∙ drop_at piece rest (length piece) refl in
    (m, omega arith, is ∙ rw (found, front, back) refl)

abbrev done : List Token → Tokens
done ts = Ok ts

before_ok : (t : Option Token) (ts all : List Token) → all ≡ and_tokens t ts → before t (Ok ts) ≡ Ok all
before_ok None ts all e = ap done (sym e)
before_ok (Some t) ts all e = ap done (sym e)

before_err : (t : Option Token) (f : Fault) → before t (Err f) ≡ Err f
before_err None f = refl
before_err (Some t) f = refl

pub complete : (file n at : ℕ) (text : List ℕ) (ts : List Token) → length text ≤ n → Cut file at text ts → tokens_of n file at text ≡ Ok ts
complete file zero at text ts fits (ends a) = refl
complete file (suc n) at text ts fits (ends a) = refl
complete file n at text ts fits (goes a text2 k piece rest t more all parts begins token below is) =
    let (m, room, step) = piece_step n file at text k piece rest fits parts begins in
    let tail = complete file m (at + length piece) rest more room below in
    step ∙ rw (token, tail) (before_ok t more ts is)

pub complete_fault : (file n at : ℕ) (text : List ℕ) (f : Fault) → length text ≤ n → Broken file at text f → tokens_of n file at text ≡ Err f
complete_fault file n at text f fits (here a text2 kind f2 h is) =
    let (m, room, step) = tokens_step n file at text (fault_some kind text h) fits in
    step ∙ rw (exact_fault kind text h, is) refl
complete_fault file n at text f fits (value a text2 k piece rest f2 parts begins token) =
    let (m, room, step) = piece_step n file at text k piece rest fits parts begins in
    step ∙ rw token refl
complete_fault file n at text f fits (later a text2 k piece rest t f2 parts begins token below) =
    let (m, room, step) = piece_step n file at text k piece rest fits parts begins in
    let tail = complete_fault file m (at + length piece) rest f room below in
    step ∙ rw (token, tail) (before_err t f)

ok_same : (ts us : List Token) (r : Tokens) → r ≡ Ok ts → r ≡ Ok us → ts ≡ us
ok_same ts us r e f = cc

err_same : (f g : Fault) (r : Tokens) → r ≡ Err f → r ≡ Err g → f ≡ g
err_same f g r d e = cc

not_both : (ts : List Token) (f : Fault) (r : Tokens) → r ≡ Ok ts → r ≡ Err f → ⊥
not_both ts f r d e = absurd cc

-- a text has one list of tokens at most, or one first fault, and not both
pub unique : (file at : ℕ) (text : List ℕ) (ts us : List Token) → Cut file at text ts → Cut file at text us → ts ≡ us
unique file at text ts us c d =
    ok_same ts us (tokens_of (length text) file at text) (complete file (length text) at text ts (omega arith) c) (complete file (length text) at text us (omega arith) d)

pub unique_fault : (file at : ℕ) (text : List ℕ) (f g : Fault) → Broken file at text f → Broken file at text g → f ≡ g
unique_fault file at text f g c d =
    err_same f g (tokens_of (length text) file at text) (complete_fault file (length text) at text f (omega arith) c) (complete_fault file (length text) at text g (omega arith) d)

pub exclusive : (file at : ℕ) (text : List ℕ) (ts : List Token) (f : Fault) → Cut file at text ts → Broken file at text f → ⊥
exclusive file at text ts f c d =
    not_both ts f (tokens_of (length text) file at text) (complete file (length text) at text ts (omega arith) c) (complete_fault file (length text) at text f (omega arith) d)
