-- Fragments that stand in others.
use Rattle.std.specs.Prelude.{◌≡◌, List, [], ◌∷◌, ◌++◌}
use Rattle.dy_tree.specs.Fragments.{SeenFragment}

-- Pieces stand in fragments one after the other, and anything may stand between them.
pub data StandIn : List (List SeenFragment) → List SeenFragment → Type 0 where
  no_piece : (fragments : List SeenFragment) → StandIn [] fragments
  piece_and : (before piece after all : List SeenFragment) (pieces : List (List SeenFragment))
      → all ≡ before ++ (piece ++ after) → StandIn pieces after → StandIn (piece ∷ pieces) all
