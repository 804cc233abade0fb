-- Tokens of files and of fragments.
use Rattle.std.proofs.Common.{◌≡◌, ℕ, ◌+◌, ◌≤◌, Bool, true, false, ◌&&◌, List, [], ◌∷◌, ◌++◌, length, Option, Some, None, inl, inr, refl, ap, arith, length-append}
use Rattle.dy_tree.specs.declared.token.Token.{Token}
use Rattle.dy_tree.specs.declared.words.Words.{Words}
use Rattle.dy_tree.specs.Fragments.{SeenFragment, SeenFragments, no_fragment, fragment_and, row, pack}
use Rattle.dy_pieces.proofs.Munch.{some_piece}
use Rattle.dy_lexer.specs.declared.source.Source.{Source}
use Rattle.dy_lexer.specs.Tokens.{is_string, joined_pair, with_token, with_tokens}
use Rattle.dy_lexer.specs.Cut.{and_tokens, Cut, ends, goes}
use Rattle.dy_lexer.specs.Headers.{Line, IsLine, Lines}
use Rattle.dy_lexer.specs.Headers as headers
use Rattle.dy_lexer.specs.Sources.{IsSource}
use Rattle.dy_fragment.specs.Groups.{Grouped}
use Rattle.dy_fragment.specs.Leaves.{StandFor, no_tree, token_then, group_then}
use Rattle.dy_fragment.proofs.Leaves.{all_stand}
use Rattle.dy_token_limit.specs.Tokens.{tokens_within, tokens_of}
use Rattle.dy_file_sizes.specs.Tokens.{StandIn, no_piece, piece_and}

-- a piece of a text has a byte for its token
and_few : (t : Option Token) (ts : List Token) → length (and_tokens t ts) ≤ 1 + length ts
and_few None ts = omega arith
and_few (Some t) ts = omega arith

cut_few : (file at : ℕ) (text : List ℕ) (ts : List Token) → Cut file at text ts → length ts ≤ length text
cut_few file at text ts (ends a) = omega arith
cut_few file at text ts (goes a text2 k piece rest t more all parts begins token below is) =
    omega (
      arith,
      cut_few file (at + length piece) rest more below,
      some_piece k piece rest begins.form,
      and_few t more,
      ap (λ (us : List Token). length us) is,
      ap (λ (bs : List ℕ). length bs) parts,
      length-append piece rest,
    )

-- joining makes no more of them
pair_few : (b : Bool) (first second : Token) → length (joined_pair b first second) ≤ 2
pair_few true first second = omega arith
pair_few false first second = omega arith

with_few : (ts : List Token) (t : Token) → length (with_token ts t) ≤ 1 + length ts
with_few [] t = omega arith
with_few (last ∷ []) t = omega (arith, pair_few (is_string last.kind && is_string t.kind) last t)
with_few (first ∷ second ∷ rest) t = omega (arith, with_few (second ∷ rest) t)

all_few : (before ts : List Token) → length (with_tokens before ts) ≤ length before + length ts
all_few before [] = omega arith
all_few before (t ∷ ts) = omega (arith, with_few before t, all_few (with_token before t) ts)

-- the text behind a header is no longer than the file
line_shorter : (text line rest : List ℕ) (size : ℕ) → IsLine text size line rest → length rest ≤ length text
line_shorter text line rest size (all, inl (e, f, g)) = omega (arith, ap (λ (bs : List ℕ). length bs) e, length-append line (10 ∷ rest))
line_shorter text line rest size (all, inr (inl (e, f))) = omega (arith, ap (λ (bs : List ℕ). length bs) e, length-append line (13 ∷ 10 ∷ rest))
line_shorter text line rest size (all, inr (inr (e, f, g))) = omega (arith, ap (λ (bs : List ℕ). length bs) g)

body_shorter : (at : ℕ) (text : List ℕ) (lines : List Line) (end : ℕ) (body : List ℕ) → Lines at text lines end body → length body ≤ length text
body_shorter at text lines end body (headers.ends a) = omega arith
body_shorter at text lines end body (headers.empty a text2 line body2 size end2 some is empty e) = line_shorter text line body size is
body_shorter at text lines end body (headers.goes a text2 line rest size others all end2 body2 some is full below e) =
    omega (arith, line_shorter text line rest size is, body_shorter (at + size) rest others end body below)

pub tokens_few : (file : ℕ) (text : List ℕ) (source : Source) → IsSource file text source → length source.tokens ≤ length text
tokens_few file text source is =
    omega (
      arith,
      body_shorter 0 text is.header.0 is.at is.body is.header.1,
      cut_few file is.at is.body is.pieces is.cut,
      all_few [] is.pieces,
      ap (λ (ts : List Token). length ts) is.tokens,
    )

-- tokens of fragments
pub join_tokens : (before after : List SeenFragment) → tokens_of (before ++ after) ≡ tokens_of before + tokens_of after
join_tokens [] after = omega arith
join_tokens (first ∷ before) after = omega (arith, join_tokens before after)

pub row_tokens : (inner : SeenFragments) → tokens_of (row inner) ≡ tokens_within inner
row_tokens no_fragment = refl
row_tokens (fragment_and first rest) = omega (arith, row_tokens rest)

pub pack_tokens : (fragments : List SeenFragment) → tokens_within (pack fragments) ≡ tokens_of fragments
pack_tokens [] = refl
pack_tokens (first ∷ rest) = omega (arith, pack_tokens rest)

stand_few : (words : Words) (fragments : List SeenFragment) (tokens : List Token) → StandFor words fragments tokens → tokens_of fragments ≤ length tokens
stand_few words fragments tokens no_tree = omega arith
stand_few words fragments tokens (token_then t fs ts h) = omega (arith, stand_few words fs ts h)
stand_few words fragments tokens (group_then opener closer inner fs between absorbed ts h absorbs k) =
    omega (
      arith,
      pack_tokens inner,
      stand_few words inner between h,
      stand_few words fs ts k,
      length-append between (closer ∷ (absorbed ++ ts)),
      length-append absorbed ts,
    )

pub groups_small : (known : Words) (tokens : List Token) (fragments : List SeenFragment) → Grouped known tokens fragments → tokens_of fragments ≤ length tokens
groups_small known tokens fragments grouped = stand_few known fragments tokens (all_stand known tokens fragments grouped)

-- the tokens of pieces
abbrev pub tokens_in_all : List (List SeenFragment) → ℕ
tokens_in_all [] = 0
tokens_in_all (piece ∷ pieces) = tokens_of piece + tokens_in_all pieces

pub pieces_small : (pieces : List (List SeenFragment)) (fragments : List SeenFragment) → StandIn pieces fragments → tokens_in_all pieces ≤ tokens_of fragments
pieces_small pieces fragments (no_piece all) = omega arith
pieces_small pieces fragments (piece_and before piece after all others parts h) =
    omega (
      arith,
      ap tokens_of parts,
      join_tokens before (piece ++ after),
      join_tokens piece after,
      pieces_small others after h,
    )
