-- Fragments without where they lie in memory. A token holds nothing of where it lies, so it stands
-- for itself.
use Rattle.std.specs.Prelude.{List, [], ◌∷◌, map}
use Rattle.dy_tree.specs.declared.token.Token.{Token}
use Rattle.dy_tree.specs.declared.fragment.Fragment.{Fragment, One, Group', Row_of-Fragment}
use Rattle.dy_tree.specs.declared.fragment.Fragment.{end_of-Fragment, more_of-Fragment}

mutual
  pub data SeenFragment : Type 0 where
    one : (token : Token) → SeenFragment
    group : (opener : Token) (inner : SeenFragments) (closer : Token) → SeenFragment

  pub data SeenFragments : Type 0 where
    no_fragment : SeenFragments
    fragment_and : (first : SeenFragment) (rest : SeenFragments) → SeenFragments

abbrev mutual
  pub seen_fragment : Fragment → SeenFragment
  seen_fragment (One token) = one token
  seen_fragment (Group' opener shape inner closer) = group opener (seen_inner inner) closer

  pub seen_inner : {m : _} → Row_of-Fragment m → SeenFragments
  seen_inner end_of-Fragment = no_fragment
  seen_inner (more_of-Fragment first rest) = fragment_and (seen_fragment first) (seen_inner rest)

abbrev pub seen_fragments : List Fragment → List SeenFragment
seen_fragments fragments = map seen_fragment fragments

-- what is inside a group, as a list and back
abbrev pub row : SeenFragments → List SeenFragment
row no_fragment = []
row (fragment_and first rest) = first ∷ row rest

abbrev pub pack : List SeenFragment → SeenFragments
pack [] = no_fragment
pack (first ∷ rest) = fragment_and first (pack rest)
