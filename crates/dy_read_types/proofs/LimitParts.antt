-- A class and its bounds are the limits of a type.
use Rattle.std.proofs.Common.{◌≡◌, Bool, true, false, List, [], ◌∷◌, Option, option_and_then, refl, ap, ◌∙◌}
use Rattle.dy_tree.specs.declared.token.Token.{Token}
use Rattle.dy_tree.specs.declared.fragment.Fragment.{Fragment}
use Rattle.dy_tree.specs.Fragments.{SeenFragment, one, group, seen_fragments}
use Rattle.dy_rules.specs.Arguments.{is_comma_fragment}
use Rattle.dy_rules.specs.Cutting.{cut}
use Rattle.dy_rules.specs.Fragments.{items_of}
use Rattle.dy_rules.specs.Roles.{role_of}
use Rattle.dy_rules.specs.Types.{Bound}
use Rattle.dy_rules.specs.TypeReading.{is_integer_class, bounds_in, limits_if, limits_in, limits_items, limits_pieces}
use Rattle.dy_rules.proofs.Lists.{fragments_back}
use Rattle.dy_read_types.specs.Limits.{class_if, class_in, with_bounds}
use Rattle.dy_read_parts.specs.Pieces.{others_in, pieces_behind}

class_first : (is : Bool) (class : Token) (bounds : Option (List Bound)) → limits_if is class bounds ≡ option_and_then (with_bounds bounds) (class_if is class)
class_first true class bounds = refl
class_first false class bounds = refl

by_class : (fragments : List SeenFragment) (bounds : Option (List Bound)) → limits_in fragments bounds ≡ option_and_then (with_bounds bounds) (class_in fragments)
by_class [] bounds = refl
by_class (one class ∷ []) bounds = class_first (is_integer_class (role_of class) class) class bounds
by_class (one class ∷ second ∷ rest) bounds = refl
by_class (group opener inner closer ∷ []) bounds = refl
by_class (group opener inner closer ∷ second ∷ rest) bounds = refl

-- the limits that fragments with this class in front stand for
pub limits_cut : (all piece others : List Fragment) → cut is_comma_fragment false (items_of (seen_fragments all)) ≡ pieces_behind is_comma_fragment (items_of (seen_fragments piece)) (seen_fragments others)
    → limits_items (items_of (seen_fragments all)) ≡ option_and_then (with_bounds (bounds_in (others_in is_comma_fragment (seen_fragments others)))) (class_in (seen_fragments piece))
limits_cut all piece others e =
    let bounds = bounds_in (others_in is_comma_fragment (seen_fragments others)) in
    ap limits_pieces e ∙ ap (λ (fs : List SeenFragment). limits_in fs bounds) (fragments_back (seen_fragments piece)) ∙ by_class (seen_fragments piece) bounds
