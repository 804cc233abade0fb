-- Results in brackets, and those that are one variable.
use Rattle.std.proofs.Common.{◌≡◌, ◌==◌, false, List, [], ◌∷◌, length, Option, Some, None, option_map, refl, ap, ◌∙◌}
use Rattle.dy_tree.specs.declared.token.Token.{Token}
use Rattle.dy_tree.specs.declared.fragment.Fragment.{Fragment}
use Rattle.dy_tree.specs.Fragments.{SeenFragment, one, group, SeenFragments, pack, seen_fragments}
use Rattle.dy_tree.specs.declared.brackets.Bracket.{Bracket}
use Rattle.dy_tree.specs.declared.brackets.Bracket.TheVariants as brackets
use Rattle.dy_rules.specs.Cutting.{Ending, Item, front_in, headed}
use Rattle.dy_rules.specs.Fragments.{found_of, item_of, items_of}
use Rattle.dy_rules.specs.Roles.{bracket_of}
use Rattle.dy_rules.specs.Types.{VariableTree, ResultTree}
use Rattle.dy_rules.specs.TypeReading.{VariableFront, variable_front}
use Rattle.dy_rules.specs.Signatures.{give_items, several_given, results_in_front, given_in, variable_result, results_behind}
use Rattle.dy_read_types.specs.Results.{capped_given, capped_results, capped_front, several_in}
use Rattle.dy_read_types.specs.VariableFronts as fronts
use Rattle.dy_read_parts.proofs.Fronts.{as_item}

given_changed : (found : Option (Ending VariableTree VariableTree)) → option_map several_given (option_map capped_given found) ≡ option_map capped_results (option_map several_given found)
given_changed None = refl
given_changed (Some given) = refl

-- where something stands between the brackets
pub given_inside : (inner : List Fragment) → false ≡ (length inner == 0) → option_map several_given (option_map capped_given (give_items (items_of (seen_fragments inner)))) ≡ option_map capped_results (several_in (seen_fragments inner))
given_inside [] some = absurd cc
given_inside (first ∷ rest) some = given_changed (give_items (items_of (seen_fragments (first ∷ rest))))

pub in_front_changed : (rest : List Item) (found : Option ResultTree) → option_map (results_in_front rest) (option_map capped_results found) ≡ option_map capped_front (option_map (results_in_front rest) found)
in_front_changed rest None = refl
in_front_changed rest (Some results) = refl

pub one_changed : (found : Option VariableFront) → option_map variable_result (option_map fronts.capped_front found) ≡ option_map capped_front (option_map variable_result found)
one_changed None = refl
one_changed (Some front) = refl

inside : (opener : Token) (inner : List SeenFragment) (closer : Token) (rest : List Item) → given_in brackets.Round (pack inner) (found_of opener (pack inner) closer (items_of inner)) rest ≡ option_map (results_in_front rest) (several_in inner)
inside opener [] closer rest = refl
inside opener (first ∷ others) closer rest = refl

pub results_bracketed : (opener : Token) (inner : List SeenFragment) (closer : Token) (items rest : List Item) → items ≡ as_item opener inner closer ∷ rest → bracket_of opener closer ≡ brackets.Round → results_behind items ≡ option_map (results_in_front rest) (several_in inner)
results_bracketed opener inner closer items rest e is =
    ap results_behind e ∙ ap (λ (b : Bracket). given_in b (pack inner) (found_of opener (pack inner) closer (items_of inner)) rest) is ∙ inside opener inner closer rest

other_brackets : (bracket : Bracket) (inner : SeenFragments) (item : Item) (rest : List Item) → None ≡ front_in bracket item rest → given_in bracket inner item.found rest ≡ None
other_brackets brackets.Round inner item rest e = absurd cc
other_brackets bracket inner item rest e = refl

-- no round brackets stand in front
pub results_other : (fragments : List SeenFragment) → None ≡ headed (items_of fragments) → results_behind (items_of fragments) ≡ option_map variable_result (variable_front (items_of fragments))
results_other [] e = refl
results_other (one token ∷ rest) e = refl
results_other (group opener inner closer ∷ rest) e = other_brackets (bracket_of opener closer) inner (item_of (group opener inner closer)) (items_of rest) e
