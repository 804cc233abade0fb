-- The tokens of a file, and the trees of their groups, have its number.
use Rattle.std.proofs.Common.{◌≡◌, ℕ, ℤ, pos, zero, suc, ◌+◌, Bool, true, false, if◌then◌else◌, ◌==◌, List, [], ◌∷◌, ◌++◌, length, take, Option, Some, None, Result, Ok, Err, slice_get, refl, sym, ap, subst, ◌∙◌}
use Rattle.dy_base.specs.Folding.{folded}
use Rattle.dy_base.specs.declared.fault.Fault.{Fault}
use Rattle.dy_base.specs.declared.fault.Place.{Place}
use Rattle.dy_base.specs.declared.kind.Kind.TheVariants.{BadLiteral}
use Rattle.dy_pieces.specs.declared.class.Piece.{Piece}
use Rattle.dy_pieces.specs.declared.class.Piece.TheVariants as pieces
use Rattle.dy_pieces.specs.Numbers.{fitting, value_of}
use Rattle.dy_pieces.specs.Scan.{decoded}
use Rattle.dy_tree.specs.declared.token.TokenKind.{TokenKind}
use Rattle.dy_tree.specs.declared.token.TokenKind.TheVariants.{Name, Escaped, Symbol, Int, Char, Str, Mark, PatternVar, CallSite, Operator, Punctuation}
use Rattle.dy_tree.specs.declared.token.Token.{Token}
use Rattle.dy_tree.specs.declared.words.Words.{Words}
use Rattle.dy_tree.specs.Fragments.{SeenFragment, one, group, pack}
use Rattle.dy_lexer.specs.declared.source.Source.{Source}
use Rattle.dy_lexer.specs.Tokens.{OneToken, fault_at, token, inner, runs_on, integer, one_character, characters, quoted_symbol, symbol_at, integer_at, token_of, some_token, token_at, is_string, joined_pair, with_token, with_tokens, joined}
use Rattle.dy_lexer.specs.Cut.{place_of, and_tokens, Cut, ends, goes}
use Rattle.dy_lexer.specs.Sources.{IsSource}
use Rattle.dy_fragment.specs.declared.front.Context.{Context}
use Rattle.dy_fragment.specs.Groups.{Groups, nothing, leaf, closed, Grouped}
use Rattle.dy_module_forms.specs.Cuts as cuts

-- these tokens, and these trees, are of the file of this number
abbrev pub AreOf : ℕ → List Token → Type 0
AreOf file [] = Unit {0}
AreOf file (t ∷ ts) = (t.place.file ≡ file) × AreOf file ts

abbrev pub TreesOf : ℕ → List SeenFragment → Type 0
TreesOf file [] = Unit {0}
TreesOf file (tree ∷ trees) = ((cuts.place_of tree).file ≡ file) × TreesOf file trees

-- a token stands where its piece begins
abbrev Stands : Place → OneToken → Type 0
Stands place found = (t : Token) → found ≡ Ok t → t.place ≡ place

made : (kind : TokenKind) (text : List ℕ) (number : ℤ) (place : Place) → Stands place (Ok (token kind text number place))
made kind text number place t is = let same : token kind text number place ≡ t = cc in ap (λ (u : Token). u.place) (sym same)

failed : (place : Place) (fault : Fault) → Stands place (Err fault)
failed place fault t is = absurd cc

quoted_stands : (place : Place) (found : Option (List ℕ)) → Stands place (quoted_symbol place found)
quoted_stands place None = failed place _
quoted_stands place (Some vs) = made Symbol _ _ place

symbol_stands : (place : Place) (piece : List ℕ) → Stands place (symbol_at place piece)
symbol_stands place [] = made Symbol _ _ place
symbol_stands place (b ∷ bs) = by_test (b == 35)
  where
    by_test : (c : Bool) → Stands place (if c then quoted_symbol place (decoded false (inner 2 (b ∷ bs))) else Ok (token Symbol (folded (take (length bs) (b ∷ bs))) (pos 0) place))
    by_test true = quoted_stands place (decoded false (inner 2 (b ∷ bs)))
    by_test false = made Symbol _ _ place

number_stands : (place : Place) (piece : List ℕ) (found : Option ℕ) → Stands place (integer place piece found)
number_stands place piece None = failed place _
number_stands place piece (Some n) = made Int _ _ place

integer_stands : (place : Place) (piece rest : List ℕ) → Stands place (integer_at place piece rest)
integer_stands place piece rest = by_test (runs_on rest)
  where
    by_test : (c : Bool) → Stands place (if c then Err (fault_at BadLiteral place) else integer place piece (fitting (value_of piece)))
    by_test true = failed place _
    by_test false = number_stands place piece (fitting (value_of piece))

character_stands : (place : Place) (found : Option (List ℕ)) → Stands place (one_character place found)
character_stands place None = failed place _
character_stands place (Some []) = failed place _
character_stands place (Some (v ∷ [])) = made Char _ _ place
character_stands place (Some (v ∷ w ∷ vs)) = failed place _

string_stands : (place : Place) (found : Option (List ℕ)) → Stands place (characters place found)
string_stands place None = failed place _
string_stands place (Some vs) = made Str _ _ place

kind_stands : (kind : TokenKind) (place : Place) (piece rest : List ℕ) → Stands place (token_of kind place piece rest)
kind_stands Name place piece rest = made Name _ _ place
kind_stands Escaped place piece rest = made Escaped _ _ place
kind_stands Symbol place piece rest = symbol_stands place piece
kind_stands Int place piece rest = integer_stands place piece rest
kind_stands Char place piece rest = character_stands place (decoded false (inner 1 piece))
kind_stands Str place piece rest = string_stands place (decoded true (inner 1 piece))
kind_stands Mark place piece rest = made Mark _ _ place
kind_stands PatternVar place piece rest = made PatternVar _ _ place
kind_stands CallSite place piece rest = made CallSite _ _ place
kind_stands Operator place piece rest = made Operator _ _ place
kind_stands Punctuation place piece rest = made Punctuation _ _ place

some_of : (place : Place) (found : OneToken) → Stands place found → (t : Token) → some_token found ≡ Ok (Some t) → t.place ≡ place
some_of place (Ok u) stands t is = stands t (let same : u ≡ t = cc in ap (λ (x : Token). Ok x) same)
some_of place (Err fault) stands t is = absurd cc

at_stands : (k : Piece) (place : Place) (piece rest : List ℕ) (t : Token) → token_at k place piece rest ≡ Ok (Some t) → t.place ≡ place
at_stands (pieces.Token kind) place piece rest t is = some_of place (token_of kind place piece rest) (kind_stands kind place piece rest) t is
at_stands pieces.Comment place piece rest t is = absurd cc
at_stands pieces.Blank place piece rest t is = absurd cc

module _ (file : ℕ) where
  one_more : (k : Piece) (at : ℕ) (piece rest : List ℕ) (t : Option Token) (ts : List Token) → token_at k (place_of file at) piece rest ≡ Ok t → AreOf file ts → AreOf file (and_tokens t ts)
  one_more k at piece rest None ts is of = of
  one_more k at piece rest (Some t) ts is of = (ap (λ (p : Place). p.file) (at_stands k (place_of file at) piece rest t is), of)

  cut_of : (at : ℕ) (text : List ℕ) (ts : List Token) → Cut file at text ts → AreOf file ts
  cut_of at text ts (ends _) = tt
  cut_of at text ts (goes _ _ k piece rest t us _ is begins here more all) = subst (λ (l : List Token). AreOf file l) (sym all) (one_more k at piece rest t us here (cut_of (at + length piece) rest us more))

  pair_of : (b : Bool) (first second : Token) → first.place.file ≡ file → second.place.file ≡ file → AreOf file (joined_pair b first second)
  pair_of true first second e f = (e, tt)
  pair_of false first second e f = (e, (f, tt))

  with_one : (ts : List Token) (t : Token) → AreOf file ts → t.place.file ≡ file → AreOf file (with_token ts t)
  with_one [] t of e = (e, tt)
  with_one (last ∷ []) t of e = pair_of _ last t of.0 e
  with_one (first ∷ second ∷ rest) t of e = (of.0, with_one (second ∷ rest) t of.1 e)

  with_all : (before ts : List Token) → AreOf file before → AreOf file ts → AreOf file (with_tokens before ts)
  with_all before [] of all = of
  with_all before (t ∷ ts) of all = with_all (with_token before t) ts (with_one before t of all.0) all.1

  -- of a file that is read
  pub source_of : (text : List ℕ) (source : Source) → IsSource file text source → AreOf file source.tokens
  source_of text source is = subst (λ (ts : List Token). AreOf file ts) (sym is.tokens) (with_all [] is.pieces tt (cut_of is.at is.body is.pieces is.cut))

  found_of : (ts : List Token) (at : ℕ) (t : Token) → AreOf file ts → slice_get ts at ≡ Some t → t.place.file ≡ file
  found_of [] at t of is = absurd cc
  found_of (u ∷ ts) zero t of is = let same : u ≡ t = cc in ap (λ (x : Token). x.place.file) (sym same) ∙ of.0
  found_of (u ∷ ts) (suc at) t of is = found_of ts at t of.1 is

  module _ (words : Words) (tokens : List Token) (of : AreOf file tokens) where
    groups_of : (at to : ℕ) (c d : Context) (trees : List SeenFragment) → Groups words tokens at c to d trees → TreesOf file trees
    groups_of at to c d trees (nothing _ _) = tt
    groups_of at to c e trees (leaf _ _ _ d _ t fs is front rest) = (found_of tokens at t of is, groups_of (at + 1) to d e fs rest)
    groups_of at to c h trees (closed _ end after _ _ d e g _ opener closer k j within fs is front inside ending closes closing rest) =
        (found_of tokens at opener of is, groups_of after to g h fs rest)

    pub grouped_of : (trees : List SeenFragment) → Grouped words tokens trees → TreesOf file trees
    grouped_of trees (to, c, groups, all) = groups_of 0 to _ c trees groups
