-- How many tokens stand in fragments (own in what is counted).
use Rattle.std.specs.Prelude.{ℕ, ◌+◌, List, [], ◌∷◌}
use Rattle.dy_tree.specs.Fragments.{SeenFragment, SeenFragments, one, group, no_fragment}
use Rattle.dy_tree.specs.Fragments.{fragment_and}

-- An opener and its closer are tokens too.
abbrev mutual
  pub tokens_in : SeenFragment → ℕ
  tokens_in (one token) = 1
  tokens_in (group opener inner closer) = 2 + tokens_within inner

  pub tokens_within : SeenFragments → ℕ
  tokens_within no_fragment = 0
  tokens_within (fragment_and first rest) = tokens_in first + tokens_within rest

abbrev pub tokens_of : List SeenFragment → ℕ
tokens_of [] = 0
tokens_of (first ∷ rest) = tokens_in first + tokens_of rest
