-- Targets in brackets, and those that are one variable.
use Rattle.std.proofs.Common.{◌≡◌, ◌==◌, true, false, List, [], ◌∷◌, length, Option, Some, None, option_map, refl, sym, ap, ◌∙◌, arith}
use Rattle.std.proofs.lemmas.Bool.{eqb-true}
use Rattle.dy_tree.specs.declared.token.Token.{Token}
use Rattle.dy_tree.specs.declared.fragment.Fragment.{Fragment}
use Rattle.dy_tree.specs.Fragments.{SeenFragment, one, group, SeenFragments, pack, seen_fragment, seen_fragments}
use Rattle.dy_tree.specs.declared.brackets.Bracket.{Bracket}
use Rattle.dy_tree.specs.declared.brackets.Bracket.TheVariants as brackets
use Rattle.dy_rules.specs.Cutting.{Ending, Item, front_in, headed}
use Rattle.dy_rules.specs.Fragments.{item_of, items_of}
use Rattle.dy_rules.specs.Roles.{bracket_of}
use Rattle.dy_rules.specs.Types.{VariableTree, TargetTree, one_target}
use Rattle.dy_rules.specs.TypeReading.{variable_items, bind_items, several_of, target_in, target_one, target_if, target_items}
use Rattle.dy_read_types.specs.Targets.{capped_bound, capped_target}
use Rattle.dy_read_types.specs.VariableFronts.{capped_variable}
use Rattle.dy_read_parts.proofs.Fronts.{as_item}

pub one_changed : (found : Option VariableTree) → option_map one_target (option_map capped_variable found) ≡ option_map capped_target (option_map one_target found)
one_changed None = refl
one_changed (Some variable) = refl

several_changed : (found : Option (Ending VariableTree Token)) → option_map several_of (option_map capped_bound found) ≡ option_map capped_target (option_map several_of found)
several_changed None = refl
several_changed (Some bound) = go bound.parts bound.last
  where
    go : (parts : List VariableTree) (last : Option Token) → option_map several_of (option_map capped_bound (Some (record { parts = parts; last = last }))) ≡ option_map capped_target (option_map several_of (Some (record { parts = parts; last = last })))
    go parts None = refl
    go parts (Some last) = refl

-- where something stands between the brackets
pub several_inside : (inner : List Fragment) (found : Option (Ending VariableTree Token)) → false ≡ (length inner == 0) → option_map several_of (option_map capped_bound found) ≡ option_map capped_target (target_in brackets.Round (pack (seen_fragments inner)) found)
several_inside [] found some = absurd cc
several_inside (first ∷ rest) found some = several_changed found

whole_group : (found : Option TargetTree) (opener : Token) (inner : List SeenFragment) (closer : Token) → target_if found (as_item opener inner closer) [] ≡ found
whole_group None opener inner closer = refl
whole_group (Some target) opener inner closer = refl

longer : (found : Option TargetTree) (first second : Item) (rest : List Item) → target_if found first (second ∷ rest) ≡ target_one first (second ∷ rest)
longer None first second rest = refl
longer (Some target) first second rest = refl

module _ (opener : Token) (inner : List SeenFragment) (closer : Token) (items : List Item) where
  pub target_alone : (rest : List Fragment) → items ≡ as_item opener inner closer ∷ items_of (seen_fragments rest) → bracket_of opener closer ≡ brackets.Round → true ≡ (length rest == 0)
      → target_items items ≡ target_in brackets.Round (pack inner) (bind_items (items_of inner))
  target_alone [] e is none = rw e (whole_group (target_in (bracket_of opener closer) (pack inner) (bind_items (items_of inner))) opener inner closer ∙ ap (λ (b : Bracket). target_in b (pack inner) (bind_items (items_of inner))) is)
  target_alone (second ∷ rest) e is none = absurd (omega (arith, eqb-true (length (second ∷ rest)) 0 (sym none)))

  pub target_followed : (rest : List Fragment) → items ≡ as_item opener inner closer ∷ items_of (seen_fragments rest) → false ≡ (length rest == 0) → target_items items ≡ option_map one_target (variable_items items)
  target_followed [] e some = absurd cc
  target_followed (second ∷ rest) e some =
      rw e (longer (target_in (bracket_of opener closer) (pack inner) (bind_items (items_of inner))) (as_item opener inner closer) (item_of (seen_fragment second)) (items_of (seen_fragments rest)))

other_brackets : (bracket : Bracket) (item : Item) (rest : List Item) (inner : SeenFragments) (found : Option (Ending VariableTree Token)) → None ≡ front_in bracket item rest → target_in bracket inner found ≡ None
other_brackets brackets.Round item rest inner found e = absurd cc
other_brackets bracket item rest inner found e = refl

-- no round brackets stand in front
pub target_other : (fragments : List SeenFragment) → None ≡ headed (items_of fragments) → target_items (items_of fragments) ≡ option_map one_target (variable_items (items_of fragments))
target_other [] e = refl
target_other (one token ∷ rest) e = refl
target_other (group opener inner closer ∷ rest) e =
    let item = item_of (group opener inner closer) in
    ap (λ (found : Option TargetTree). target_if found item (items_of rest)) (other_brackets (bracket_of opener closer) item (items_of rest) inner item.found.bound e)
