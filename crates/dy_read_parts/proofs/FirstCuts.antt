-- What stands on both sides of the first separator.
use Rattle.std.proofs.Common.{◌≡◌, ℕ, suc, Bool, true, false, List, [], ◌∷◌, take, drop, Option, Some, None, option_map, refl}
use Rattle.dy_tree.specs.declared.fragment.Fragment.{Fragment}
use Rattle.dy_tree.specs.Fragments.{SeenFragment, seen_fragment, seen_fragments}
use Rattle.dy_rules.specs.Cutting.{Sides, with_before, first_cut}
use Rattle.dy_rules.specs.Fragments.{item_of, items_of}
use Rattle.dy_read_parts.specs.Sides.{place_of}

-- what stands on both sides of this place
abbrev pub around : List Fragment → ℕ → Sides
around fragments at = record { before = items_of (seen_fragments (take at fragments)); after = items_of (seen_fragments (drop (suc at) fragments)) }

further : (first : Fragment) (rest : List Fragment) (place : Option ℕ) → option_map (with_before (item_of (seen_fragment first))) (option_map (around rest) place) ≡ option_map (around (first ∷ rest)) (option_map suc place)
further first rest None = refl
further first rest (Some at) = refl

module _ (separates : SeenFragment → Bool) where
  abbrev IsAtPlace : List Fragment → Option ℕ → Type 0
  IsAtPlace fragments place = first_cut separates (items_of (seen_fragments fragments)) ≡ option_map (around fragments) place

  sides_by : (here : Bool) (first : Fragment) (rest : List Fragment) → separates (seen_fragment first) ≡ here → IsAtPlace rest (place_of separates (seen_fragments rest)) → IsAtPlace (first ∷ rest) (place_of separates (seen_fragments (first ∷ rest)))
  sides_by true first rest e behind = rw e refl
  sides_by false first rest e behind = rw (e, behind) (further first rest (place_of separates (seen_fragments rest)))

  pub sides_found : (fragments : List Fragment) → first_cut separates (items_of (seen_fragments fragments)) ≡ option_map (around fragments) (place_of separates (seen_fragments fragments))
  sides_found [] = refl
  sides_found (first ∷ rest) = sides_by (separates (seen_fragment first)) first rest refl (sides_found rest)
