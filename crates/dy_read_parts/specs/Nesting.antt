-- How deep groups stand in each other.
use Rattle.std.specs.Prelude.{ℕ, suc, max, List, [], ◌∷◌}
use Rattle.dy_tree.specs.Fragments.{SeenFragment, one, group, SeenFragments, no_fragment}
use Rattle.dy_tree.specs.Fragments.{fragment_and}

abbrev mutual
  pub group_nesting : SeenFragment → ℕ
  group_nesting (one token) = 0
  group_nesting (group opener inner closer) = suc (inner_nesting inner)

  pub inner_nesting : SeenFragments → ℕ
  inner_nesting no_fragment = 0
  inner_nesting (fragment_and first rest) = max (group_nesting first) (inner_nesting rest)

abbrev pub nesting : List SeenFragment → ℕ
nesting [] = 0
nesting (first ∷ rest) = max (group_nesting first) (nesting rest)
