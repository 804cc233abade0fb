-- The pieces of a file whose first fragments were cut already.
use Rattle.std.proofs.Common.{◌≡◌, ◌<◌, List, [], ◌∷◌, ◌++◌, length, map, refl, sym, ap, ◌∙◌, arith}
use Rattle.std.proofs.lemmas.List.{map-append, append_assoc, append-nil}
use Rattle.std.specs.Prelude.{Option, Some, None}
use Rattle.dy_base.specs.declared.fault.Place.{Place}
use Rattle.dy_tree.specs.declared.fragment.Fragment.{Fragment}
use Rattle.dy_tree.specs.Fragments.{SeenFragment, seen_fragment, seen_fragments}
use Rattle.dy_verdict.specs.declared.pieces.Piece.{Piece as Held}
use Rattle.dy_verdict.specs.Pieces.{Piece, piece, seen_piece, with_fragment, before_pieces, semicolon_of, pieces_of}

-- fragments in front of pieces belong to the first of them
abbrev pub prepended : List SeenFragment → List Piece → List Piece
prepended [] pieces = pieces
prepended (first ∷ rest) pieces = with_fragment first (prepended rest pieces)

pub prepended_more : (fragments : List SeenFragment) (fragment : SeenFragment) (pieces : List Piece) → prepended fragments (with_fragment fragment pieces) ≡ prepended (fragments ++ fragment ∷ []) pieces
prepended_more [] fragment pieces = refl
prepended_more (first ∷ rest) fragment pieces = ap (λ (others : List Piece). with_fragment first others) (prepended_more rest fragment pieces)

-- all in front of a semicolon is one piece
pub prepended_closed : (fragments : List SeenFragment) (end : Option Place) (pieces : List Piece) → prepended fragments (piece [] end ∷ pieces) ≡ piece fragments end ∷ pieces
prepended_closed [] end pieces = refl
prepended_closed (first ∷ rest) end pieces = ap (λ (others : List Piece). with_fragment first others) (prepended_closed rest end pieces)

-- all in front of the end of a file is one piece
pub prepended_last : (first : SeenFragment) (rest : List SeenFragment) → prepended (first ∷ rest) [] ≡ piece (first ∷ rest) None ∷ []
prepended_last first [] = refl
prepended_last first (second ∷ rest) = ap (λ (others : List Piece). with_fragment first others) (prepended_last second rest)

behind : (fragments : List Fragment) (fragment : Fragment) (rest : List SeenFragment) → map seen_fragment (fragments ++ fragment ∷ []) ++ rest ≡ map seen_fragment fragments ++ (seen_fragment fragment ∷ rest)
behind fragments fragment rest =
    ap (λ (before : List SeenFragment). before ++ rest) (map-append seen_fragment fragments (fragment ∷ [])) ∙ append_assoc (map seen_fragment fragments) (seen_fragment fragment ∷ []) rest

-- a fragment behind others, where it ends no piece
pub cut_more : (fragments : List Fragment) (fragment : Fragment) (done : List Piece) (current : List SeenFragment) → semicolon_of (seen_fragment fragment) ≡ None
    → ((rest : List SeenFragment) → pieces_of (map seen_fragment fragments ++ rest) ≡ done ++ prepended current (pieces_of rest))
    → (rest : List SeenFragment) → pieces_of (map seen_fragment (fragments ++ fragment ∷ []) ++ rest) ≡ done ++ prepended (current ++ seen_fragment fragment ∷ []) (pieces_of rest)
cut_more fragments fragment done current open_piece cut rest =
    ap pieces_of (behind fragments fragment rest)
    ∙ cut (seen_fragment fragment ∷ rest)
    ∙ ap (λ (end : Option Place). done ++ prepended current (before_pieces (seen_fragment fragment) end (pieces_of rest))) open_piece
    ∙ ap (λ (pieces : List Piece). done ++ pieces) (prepended_more current (seen_fragment fragment) (pieces_of rest))

-- a fragment behind others, where it is a semicolon
pub cut_closed : (fragments : List Fragment) (fragment : Fragment) (done : List Piece) (current : List SeenFragment) (place : Place) → semicolon_of (seen_fragment fragment) ≡ Some place
    → ((rest : List SeenFragment) → pieces_of (map seen_fragment fragments ++ rest) ≡ done ++ prepended current (pieces_of rest))
    → (rest : List SeenFragment) → pieces_of (map seen_fragment (fragments ++ fragment ∷ []) ++ rest) ≡ (done ++ piece current (Some place) ∷ []) ++ prepended [] (pieces_of rest)
cut_closed fragments fragment done current place end_piece cut rest =
    ap pieces_of (behind fragments fragment rest)
    ∙ cut (seen_fragment fragment ∷ rest)
    ∙ ap (λ (end : Option Place). done ++ prepended current (before_pieces (seen_fragment fragment) end (pieces_of rest))) end_piece
    ∙ ap (λ (pieces : List Piece). done ++ pieces) (prepended_closed current (Some place) (pieces_of rest))
    ∙ sym (append_assoc done (piece current (Some place) ∷ []) (pieces_of rest))

-- What holds of the pieces that are closed and of what stands behind them, whatever follows.
abbrev pub IsCut : List Fragment → List Held → List Fragment → Type 0
IsCut fragments pieces current =
    (rest : List SeenFragment) → pieces_of (map seen_fragment fragments ++ rest) ≡ map seen_piece pieces ++ prepended (map seen_fragment current) (pieces_of rest)

one_more : (pieces : List Held) (held : Held) → map seen_piece (pieces ++ held ∷ []) ≡ map seen_piece pieces ++ seen_piece held ∷ []
one_more pieces held = map-append seen_piece pieces (held ∷ [])

pub closed_turn : (fragments : List Fragment) (fragment : Fragment) (pieces more : List Held) (current fresh : List Fragment) (held : Held) (place : Place) → Some place ≡ semicolon_of (seen_fragment fragment)
    → more ≡ pieces ++ held ∷ [] → seen_piece held ≡ piece (map seen_fragment current) (Some place) → fresh ≡ [] → IsCut fragments pieces current → IsCut (fragments ++ fragment ∷ []) more fresh
closed_turn fragments fragment pieces more current fresh held place end_piece is seen empty cut rest =
    cut_closed fragments fragment (map seen_piece pieces) (map seen_fragment current) place (sym end_piece) cut rest
    ∙ ap (λ (last : Piece). (map seen_piece pieces ++ last ∷ []) ++ pieces_of rest) (sym seen)
    ∙ ap (λ (done : List Piece). done ++ pieces_of rest) (sym (ap (map seen_piece) is ∙ one_more pieces held))
    ∙ ap (λ (behind : List Fragment). map seen_piece more ++ prepended (map seen_fragment behind) (pieces_of rest)) (sym empty)

pub open_turn : (fragments : List Fragment) (fragment : Fragment) (pieces : List Held) (current more : List Fragment) → None ≡ semicolon_of (seen_fragment fragment) → more ≡ current ++ fragment ∷ []
    → IsCut fragments pieces current → IsCut (fragments ++ fragment ∷ []) pieces more
open_turn fragments fragment pieces current more open_piece is cut rest =
    cut_more fragments fragment (map seen_piece pieces) (map seen_fragment current) (sym open_piece) cut rest
    ∙ ap (λ (behind : List SeenFragment). map seen_piece pieces ++ prepended behind (pieces_of rest)) (sym (ap (map seen_fragment) is ∙ map-append seen_fragment current (fragment ∷ [])))

-- at the end of a file, with a piece that lacks its semicolon
pub cut_last : (fragments all : List Fragment) (pieces more : List Held) (current : List Fragment) (held : Held) → IsCut fragments pieces current → fragments ≡ all → 0 < length current
    → more ≡ pieces ++ held ∷ [] → seen_piece held ≡ piece (map seen_fragment current) None → map seen_piece more ≡ pieces_of (seen_fragments all)
cut_last fragments all pieces more [] held cut whole some is seen = absurd (omega arith)
cut_last fragments all pieces more (first ∷ rest) held cut whole some is seen =
    ap (map seen_piece) is ∙ one_more pieces held ∙ ap (λ (last : Piece). map seen_piece pieces ++ last ∷ []) seen
    ∙ ap (λ (behind : List Piece). map seen_piece pieces ++ behind) (sym (prepended_last (seen_fragment first) (map seen_fragment rest)))
    ∙ sym (cut []) ∙ ap pieces_of (append-nil (map seen_fragment fragments)) ∙ ap (λ (found : List Fragment). pieces_of (map seen_fragment found)) whole

-- at the end of a file, behind a semicolon
pub cut_whole : (fragments all : List Fragment) (pieces : List Held) (current : List Fragment) → IsCut fragments pieces current → fragments ≡ all → (0 < length current → ⊥) → map seen_piece pieces ≡ pieces_of (seen_fragments all)
cut_whole fragments all pieces [] cut whole none =
    sym (append-nil (map seen_piece pieces)) ∙ sym (cut []) ∙ ap pieces_of (append-nil (map seen_fragment fragments)) ∙ ap (λ (found : List Fragment). pieces_of (map seen_fragment found)) whole
cut_whole fragments all pieces (first ∷ rest) cut whole none = absurd (none (omega arith))
