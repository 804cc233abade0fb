-- An item is read as it is divided.
use Rattle.std.proofs.Common.{◌≡◌, ◌==◌, length, Bool, false, List, [], ◌∷◌, Option, Some, None, option_and_then, refl, sym, ap, ◌∙◌}
use Rattle.dy_tree.specs.declared.token.Token.{Token}
use Rattle.dy_tree.specs.declared.fragment.Fragment.{Fragment}
use Rattle.dy_tree.specs.Fragments.{SeenFragment, one, group, seen_fragments}
use Rattle.dy_tree.specs.declared.splitters.Splitting.{Splitting}
use Rattle.dy_rules.specs.Bodies.{is_handler, is_equals_at, bound_from, let_if, let_sides, method_alone, method_at, method_in}
use Rattle.dy_rules.specs.Cutting.{Item, Sides, first_cut}
use Rattle.dy_rules.specs.Fragments.{items_of, found_in}
use Rattle.dy_rules.specs.Reading.{expression_items}
use Rattle.dy_rules.specs.Roles.{bracket_of}
use Rattle.dy_rules.specs.Signatures.{named_items}
use Rattle.dy_rules.specs.Trees.{LocalMethod}
use Rattle.dy_rules.specs.Types.{binds_plainly}
use Rattle.dy_rules.specs.TypeReading.{target_items}
use Rattle.dy_rules.proofs.Lists.{fragments_back, items_row}
use Rattle.dy_read_parts.specs.FragmentParts.{SeenPart, token_part, group_part, part_of}
use Rattle.dy_read_shapes.specs.ItemShapes.{let_read}

pub bound_let : (words : Splitting) (word : Token) (before : List SeenFragment) (first : SeenFragment) (rest : List SeenFragment) (after : List Item) → before ≡ first ∷ rest → false ≡ is_handler first
    → bound_from words word (items_of before) after ≡ let_read word (target_items (items_of before)) (expression_items words after)
bound_let words word before first rest after e is = rw (e, sym is) refl

-- what stands around the first `=`
module _ (words : Splitting) (word : Token) (rest : List Item) (before after : List SeenFragment) where
  abbrev around : Sides
  around = record { before = items_of before; after = items_of after }

  pub let_plain : (is : Bool) → Some around ≡ first_cut is_equals_at rest → is ≡ binds_plainly words before → option_and_then (let_sides words word) (first_cut is_equals_at rest) ≡ let_if is words word around
  let_plain is e plain =
      ap (option_and_then (let_sides words word)) (sym e) ∙ ap (λ (fragments : List SeenFragment). let_if (binds_plainly words fragments) words word around) (fragments_back before) ∙ ap (λ (b : Bool). let_if b words word around) (sym plain)

-- the method that a part is
abbrev pub method_of_part : SeenPart → Option LocalMethod
method_of_part (token_part token) = None
method_of_part (group_part bracket opener inner) = method_in bracket opener (named_items (items_of inner))

pub method_part : (fragment : SeenFragment) → method_at fragment (found_in fragment).named_method ≡ method_of_part (part_of fragment)
method_part (one token) = refl
method_part (group opener inner closer) = ap (λ (items : List Item). method_in (bracket_of opener closer) opener (named_items items)) (items_row inner)

pub method_followed : (fragments : List Fragment) (first : Fragment) (rest : List Fragment) → fragments ≡ first ∷ rest → false ≡ (length rest == 0) → method_alone (items_of (seen_fragments fragments)) ≡ None
method_followed fragments first [] e some = absurd cc
method_followed fragments first (second ∷ rest) e some = rw e refl
