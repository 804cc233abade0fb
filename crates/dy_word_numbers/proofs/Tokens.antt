-- Numbers of the tokens of files and of fragments.
use Rattle.std.proofs.Common.{◌≡◌, ℕ, ◌+◌, ◌≤◌, ◌<◌, Bool, true, false, ◌&&◌, if◌then◌else◌, List, [], ◌∷◌, ◌++◌, Option, Some, None, Result, Ok, Err, refl, sym, ap, ◌∙◌, arith}
use Rattle.std.specs.Prelude.{pos, nat_lt, ◌==◌, length, take}
use Rattle.std.proofs.lemmas.Bool.{ltb-false, lt-ltb, cond_both}
use Rattle.dy_base.specs.Folding.{folded}
use Rattle.dy_base.specs.declared.fault.Place.{Place}
use Rattle.dy_base.specs.declared.kind.Kind.TheVariants.{BadLiteral}
use Rattle.dy_tree.specs.declared.token.TokenKind.{TokenKind}
use Rattle.dy_tree.specs.declared.token.TokenKind.TheVariants.{Name, Escaped, Symbol, Int, Char, Str, Mark, PatternVar, CallSite, Operator, Punctuation}
use Rattle.dy_tree.specs.declared.token.Token.{Token}
use Rattle.dy_tree.specs.declared.words.Words.{Words}
use Rattle.dy_tree.specs.Fragments.{SeenFragment, SeenFragments, no_fragment, fragment_and, row, pack}
use Rattle.dy_pieces.specs.declared.class.Piece.{Piece}
use Rattle.dy_pieces.specs.declared.class.Piece.TheVariants as pieces
use Rattle.dy_pieces.specs.Numbers.{fitting, value_of}
use Rattle.dy_pieces.specs.Scan.{decoded}
use Rattle.dy_lexer.specs.declared.source.Source.{Source}
use Rattle.dy_lexer.specs.Tokens.{OneToken, fault_at, token, plain, inner, runs_on, integer, integer_at, one_character, characters, quoted_symbol, symbol_at, token_of, token_at, some_token, is_string, joined_pair, with_token, with_tokens}
use Rattle.dy_lexer.specs.Cut.{place_of, and_tokens, Cut, ends, goes}
use Rattle.dy_lexer.specs.Sources.{IsSource}
use Rattle.dy_fragment.specs.Groups.{Grouped}
use Rattle.dy_fragment.specs.Leaves.{StandFor, no_tree, token_then, group_then}
use Rattle.dy_fragment.proofs.Leaves.{all_stand}
use Rattle.dy_outcome.specs.Turns.{fits}
use Rattle.dy_word_numbers.specs.Drafts.{unless}
use Rattle.dy_word_numbers.specs.Tokens.{wide_token, wide_tokens, tokens_in, tokens_within, tokens_of}

-- a token whose number has 64 bits, if there is one
abbrev IsNarrow : OneToken → Type 0
IsNarrow (Ok t) = wide_token t ≡ 0
IsNarrow (Err fault) = Unit {0}

-- what fits is below 2^63
fitting_narrow : (n : ℕ) (b : Bool) → nat_lt 9223372036854775807 n ≡ b → (m : ℕ) → (if b then None else Some n) ≡ Some m → unless (fits (pos m)) ≡ 0
fitting_narrow n true is m same = absurd cc
fitting_narrow n false is m same =
    let here : n ≡ m = cc in
    let low : n ≤ 9223372036854775807 = ltb-false 9223372036854775807 n is in
    ap unless (lt-ltb m 9223372036854775808 (omega (arith, low, here)))

integer_narrow : (place : Place) (piece : List ℕ) (n : ℕ) (found : Option ℕ) → fitting n ≡ found → IsNarrow (integer place piece found)
integer_narrow place piece n None is = tt
integer_narrow place piece n (Some m) is = fitting_narrow n (nat_lt 9223372036854775807 n) refl m is

integer_at_narrow : (place : Place) (piece rest : List ℕ) → IsNarrow (integer_at place piece rest)
integer_at_narrow place piece rest =
    cond_both (runs_on rest) (Err (fault_at BadLiteral place)) (integer place piece (fitting (value_of piece))) IsNarrow
    (λ t. tt) (λ t. integer_narrow place piece (value_of piece) (fitting (value_of piece)) refl)

character_narrow : (place : Place) (values : Option (List ℕ)) → IsNarrow (one_character place values)
character_narrow place None = tt
character_narrow place (Some []) = tt
character_narrow place (Some (v ∷ [])) = refl
character_narrow place (Some (v ∷ w ∷ values)) = tt

string_narrow : (place : Place) (values : Option (List ℕ)) → IsNarrow (characters place values)
string_narrow place None = tt
string_narrow place (Some values) = refl

quoted_narrow : (place : Place) (values : Option (List ℕ)) → IsNarrow (quoted_symbol place values)
quoted_narrow place None = tt
quoted_narrow place (Some values) = refl

symbol_narrow : (place : Place) (piece : List ℕ) → IsNarrow (symbol_at place piece)
symbol_narrow place [] = refl
symbol_narrow place (b ∷ bs) =
    cond_both (b == 35) (quoted_symbol place (decoded false (inner 2 (b ∷ bs)))) (plain Symbol (folded (take (length bs) (b ∷ bs))) place) IsNarrow
    (λ t. quoted_narrow place (decoded false (inner 2 (b ∷ bs)))) (λ t. refl)

one_narrow : (kind : TokenKind) (place : Place) (piece rest : List ℕ) → IsNarrow (token_of kind place piece rest)
one_narrow Name place piece rest = refl
one_narrow Escaped place piece rest = refl
one_narrow Symbol place piece rest = symbol_narrow place piece
one_narrow Int place piece rest = integer_at_narrow place piece rest
one_narrow Char place piece rest = character_narrow place (decoded false (inner 1 piece))
one_narrow Str place piece rest = string_narrow place (decoded true (inner 1 piece))
one_narrow Mark place piece rest = refl
one_narrow PatternVar place piece rest = refl
one_narrow CallSite place piece rest = refl
one_narrow Operator place piece rest = refl
one_narrow Punctuation place piece rest = refl

abbrev if_narrow : Option Token → Type 0
if_narrow None = Unit {0}
if_narrow (Some t) = wide_token t ≡ 0

some_narrow : (one : OneToken) (found : Option Token) → IsNarrow one → some_token one ≡ Ok found → if_narrow found
some_narrow (Ok t) None narrow is = tt
some_narrow (Ok t) (Some u) narrow is = let same : t ≡ u = cc in ap wide_token (sym same) ∙ narrow
some_narrow (Err fault) found narrow is = absurd cc

piece_narrow : (k : Piece) (place : Place) (piece rest : List ℕ) (found : Option Token) → token_at k place piece rest ≡ Ok found → if_narrow found
piece_narrow (pieces.Token kind) place piece rest found is = some_narrow (token_of kind place piece rest) found (one_narrow kind place piece rest) is
piece_narrow pieces.Comment place piece rest None is = tt
piece_narrow pieces.Comment place piece rest (Some t) is = absurd cc
piece_narrow pieces.Blank place piece rest None is = tt
piece_narrow pieces.Blank place piece rest (Some t) is = absurd cc

and_narrow : (t : Option Token) (ts : List Token) → if_narrow t → wide_tokens ts ≡ 0 → wide_tokens (and_tokens t ts) ≡ 0
and_narrow None ts narrow all = all
and_narrow (Some t) ts narrow all = omega (arith, narrow, all)

cut_narrow : (file at : ℕ) (text : List ℕ) (ts : List Token) → Cut file at text ts → wide_tokens ts ≡ 0
cut_narrow file at text ts (ends a) = refl
cut_narrow file at text ts (goes a text2 k piece rest t more all parts begins found below is) =
    ap wide_tokens is
    ∙ and_narrow t more (piece_narrow k (place_of file at) piece rest t found) (cut_narrow file (at + length piece) rest more below)

-- joining makes no other numbers
pair_narrow : (b : Bool) (first second : Token) → wide_tokens (joined_pair b first second) ≤ wide_token first + wide_token second
pair_narrow true first second = omega arith
pair_narrow false first second = omega arith

with_narrow : (ts : List Token) (t : Token) → wide_tokens (with_token ts t) ≤ wide_token t + wide_tokens ts
with_narrow [] t = omega arith
with_narrow (last ∷ []) t = omega (arith, pair_narrow (is_string last.kind && is_string t.kind) last t)
with_narrow (first ∷ second ∷ rest) t = omega (arith, with_narrow (second ∷ rest) t)

all_narrow : (before ts : List Token) → wide_tokens (with_tokens before ts) ≤ wide_tokens before + wide_tokens ts
all_narrow before [] = omega arith
all_narrow before (t ∷ ts) = omega (arith, with_narrow before t, all_narrow (with_token before t) ts)

pub tokens_words : (file : ℕ) (text : List ℕ) (source : Source) → IsSource file text source → wide_tokens source.tokens ≡ 0
tokens_words file text source is =
    omega (arith, cut_narrow file is.at is.body is.pieces is.cut, all_narrow [] is.pieces, ap wide_tokens is.tokens)

-- tokens of fragments
pub join_tokens : (before after : List SeenFragment) → tokens_of (before ++ after) ≡ tokens_of before + tokens_of after
join_tokens [] after = omega arith
join_tokens (first ∷ before) after = omega (arith, join_tokens before after)

pub row_tokens : (inner : SeenFragments) → tokens_of (row inner) ≡ tokens_within inner
row_tokens no_fragment = refl
row_tokens (fragment_and first rest) = omega (arith, row_tokens rest)

pack_tokens : (fragments : List SeenFragment) → tokens_within (pack fragments) ≡ tokens_of fragments
pack_tokens [] = refl
pack_tokens (first ∷ rest) = omega (arith, pack_tokens rest)

join_list : (xs ys : List Token) → wide_tokens (xs ++ ys) ≡ wide_tokens xs + wide_tokens ys
join_list [] ys = omega arith
join_list (x ∷ xs) ys = omega (arith, join_list xs ys)

stand_wide : (words : Words) (fragments : List SeenFragment) (tokens : List Token) → StandFor words fragments tokens → tokens_of fragments ≤ wide_tokens tokens
stand_wide words fragments tokens no_tree = omega arith
stand_wide words fragments tokens (token_then t fs ts h) = omega (arith, stand_wide words fs ts h)
stand_wide words fragments tokens (group_then opener closer inside fs between absorbed ts h absorbs k) =
    omega (
      arith,
      pack_tokens inside,
      stand_wide words inside between h,
      stand_wide words fs ts k,
      join_list between (closer ∷ (absorbed ++ ts)),
      join_list absorbed ts,
    )

pub groups_wide : (known : Words) (tokens : List Token) (fragments : List SeenFragment) → Grouped known tokens fragments → tokens_of fragments ≤ wide_tokens tokens
groups_wide known tokens fragments grouped = stand_wide known fragments tokens (all_stand known tokens fragments grouped)
