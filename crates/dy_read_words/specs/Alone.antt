-- A token that stands alone.
use Rattle.std.specs.Prelude.{List, [], ◌∷◌, Option, Some, None}
use Rattle.dy_tree.specs.declared.token.Token.{Token}
use Rattle.dy_tree.specs.Fragments.{SeenFragment, one, group}

-- the token that a fragment is
abbrev pub token_of : SeenFragment → Option Token
token_of (one token) = Some token
token_of (group opener inner closer) = None

abbrev pub token_alone : List SeenFragment → Option Token
token_alone (first ∷ []) = token_of first
token_alone _ = None
