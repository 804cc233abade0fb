-- What is inside a group, as the list of it.
use Rattle.std.proofs.Common.{◌≡◌, refl, ap}
use Rattle.dy_tree.specs.declared.fragment.Fragment.{Row_of-Fragment, end_of-Fragment, more_of-Fragment, items-the_row-Fragment}
use Rattle.dy_tree.specs.Fragments.{SeenFragments, fragment_and, pack, seen_fragment, seen_inner, seen_fragments}

pub inner_packs : {m : _} (fragments : Row_of-Fragment m) → seen_inner fragments ≡ pack (seen_fragments (items-the_row-Fragment m fragments))
inner_packs end_of-Fragment = refl
inner_packs (more_of-Fragment first rest) = ap (λ (others : SeenFragments). fragment_and (seen_fragment first) others) (inner_packs rest)
