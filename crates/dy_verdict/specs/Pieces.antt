-- The forms of a file, cut at its semicolons (DRM, appendix A).
use Rattle.std.specs.Prelude.{List, [], ◌∷◌, Option, Some, None, if◌then◌else◌}
use Rattle.dy_base.specs.declared.fault.Place.{Place}
use Rattle.dy_tree.specs.Fragments.{SeenFragment, one, group, seen_fragments}
use Rattle.dy_fragment.specs.Words.{is_semicolon}
use Rattle.dy_reader.specs.Answers.{first_place}
use Rattle.dy_verdict.specs.declared.pieces.Piece.{Piece as Held}

-- what stands in front of a semicolon, and where that stands; the last piece may lack it
pub record Piece : Type 0 where
  pub fragments : List SeenFragment
  pub end : Option Place

abbrev pub seen_piece : Held → Piece
seen_piece piece = record { fragments = seen_fragments piece.fragments.items; end = piece.end }

-- where a semicolon stands, if the fragment is one
abbrev pub semicolon_of : SeenFragment → Option Place
semicolon_of (one token) = if is_semicolon token then Some token.place else None
semicolon_of (group opener inner closer) = None

abbrev pub piece : List SeenFragment → Option Place → Piece
piece fragments end = record { fragments = fragments; end = end }

-- a fragment in front of pieces belongs to the first of them
abbrev pub with_fragment : SeenFragment → List Piece → List Piece
with_fragment fragment [] = piece (fragment ∷ []) None ∷ []
with_fragment fragment (first ∷ rest) = piece (fragment ∷ first.fragments) first.end ∷ rest

abbrev pub before_pieces : SeenFragment → Option Place → List Piece → List Piece
before_pieces fragment (Some place) pieces = piece [] (Some place) ∷ pieces
before_pieces fragment None pieces = with_fragment fragment pieces

-- the pieces of a file
abbrev pub pieces_of : List SeenFragment → List Piece
pieces_of [] = []
pieces_of (first ∷ rest) = before_pieces first (semicolon_of first) (pieces_of rest)

abbrev pub or_place : Option Place → Place → Place
or_place (Some place) other = place
or_place None other = other

-- Where a form begins: at its first token, or else at the semicolon behind it. A piece has one or
-- the other.
abbrev pub place_of : Piece → Place
place_of found = or_place (first_place found.fragments)
    (or_place found.end (record { file = 0; offset = 0 }))
