-- The loops over the fragments of an expression and of arguments.
use Rattle.std.proofs.Common.{◌≡◌, ℕ, ◌<◌, ◌≤◌, ◌+◌, length, drop, get_or, max, arith, List, ◌∷◌, Option, Some, None, option_map, refl, sym, ap, ◌∙◌}
use Rattle.std.proofs.lemmas.List.{drop_more, drop_all}
use Rattle.dy_tree.specs.declared.fragment.Fragment.{Fragment}
use Rattle.dy_tree.specs.declared.token.Token.{Token}
use Rattle.dy_tree.specs.Fragments.{SeenFragment, one, group, SeenFragments, row, pack, seen_fragment, seen_fragments}
use Rattle.dy_tree.specs.declared.brackets.Bracket.{Bracket}
use Rattle.dy_tree.specs.declared.splitters.Splitting.{Splitting}
use Rattle.dy_rules.specs.Arguments.{begins_value}
use Rattle.dy_rules.specs.Cutting.{Item}
use Rattle.dy_rules.specs.Fragments.{item_of, items_of, items_in, nothing_found, found_of, tree_inside}
use Rattle.dy_rules.specs.Roles.{bracket_of}
use Rattle.dy_rules.specs.Reading.{State, at_group, after_item, after_all, Passing, after_argument, after_passing, passed_items}
use Rattle.dy_rules_depth.specs.Capping.{capping}
use Rattle.dy_rules_depth.specs.ReaderChanges.{changed_state, changed_passing}
use Rattle.dy_rules.proofs.Lists.{items_row, pack_row}
use Rattle.dy_read_parts.specs.FragmentParts.{part_of}
use Rattle.dy_read_parts.specs.Nesting.{group_nesting, nesting}
use Rattle.dy_read_parts.proofs.Nesting.{drop_nesting}
use Rattle.dy_read_operators.specs.PassingSteps.{ahead, value_group}
use Rattle.dy_read_operators.proofs.PassingSteps.{token_item, group_item}
use Rattle.dy_read_bodies.specs.FragmentSteps.{state_at, reader_at}
use Rattle.dy_read_operators.proofs.MachineLoops.{SameStates, SameReaders, all_step, all_fails, passed_step, passed_fails}

module _ (fragments : List Fragment) (i : ℕ) (fragment : Fragment) (lt : i < length fragments) (is : fragment ≡ get_or fragments i fragment) where
  next_is : drop i fragments ≡ fragment ∷ drop (i + 1) fragments
  next_is = drop_more fragments i fragment lt ∙ ap (λ (f : Fragment). f ∷ drop (i + 1) fragments) (sym is)

  -- it is nested no deeper than all of them
  pub nesting_at : group_nesting (seen_fragment fragment) ≤ nesting (seen_fragments fragments)
  nesting_at =
      let left = drop_nesting i fragments in
      let here : nesting (seen_fragments (drop i fragments)) ≡ max (group_nesting (seen_fragment fragment)) (nesting (seen_fragments (drop (i + 1) fragments))) = ap (λ (list : List Fragment). nesting (seen_fragments list)) next_is in
      omega arith

  states_are : (words : Splitting) (state : State) (found : Option State) → SameStates (after_all words state (items_of (seen_fragments (drop i fragments)))) found
      → SameStates (after_all words state (item_of (seen_fragment fragment) ∷ items_of (seen_fragments (drop (i + 1) fragments)))) found
  states_are words state found e = ap (λ (list : List Fragment). option_map (changed_state capping) (after_all words state (items_of (seen_fragments list)))) (sym next_is) ∙ e

  pub state_read : (words : Splitting) (state next : State) (found : Option State) → SameStates (after_all words state (items_of (seen_fragments (drop i fragments)))) found → Some next ≡ option_map (changed_state capping) (after_item words state (item_of (seen_fragment fragment)))
      → SameStates (after_all words next (items_of (seen_fragments (drop (i + 1) fragments)))) found
  state_read words state next found e f = all_step words state next (item_of (seen_fragment fragment)) (items_of (seen_fragments (drop (i + 1) fragments))) f ∙ states_are words state found e

  pub state_fails : (words : Splitting) (state : State) (found : Option State) → SameStates (after_all words state (items_of (seen_fragments (drop i fragments)))) found → None ≡ option_map (changed_state capping) (after_item words state (item_of (seen_fragment fragment)))
      → SameStates None found
  state_fails words state found e f = all_fails words state (item_of (seen_fragment fragment)) (items_of (seen_fragments (drop (i + 1) fragments))) f ∙ states_are words state found e

  readers_are : (reader : Passing) (found : Option Passing) → SameReaders (after_passing reader (items_of (seen_fragments (drop i fragments)))) found
      → SameReaders (after_passing reader (item_of (seen_fragment fragment) ∷ items_of (seen_fragments (drop (i + 1) fragments)))) found
  readers_are reader found e = ap (λ (list : List Fragment). option_map (changed_passing capping) (after_passing reader (items_of (seen_fragments list)))) (sym next_is) ∙ e

  pub reader_read : (reader next : Passing) (found : Option Passing) → SameReaders (after_passing reader (items_of (seen_fragments (drop i fragments)))) found → Some next ≡ option_map (changed_passing capping) (after_argument reader (seen_fragment fragment) (item_of (seen_fragment fragment)))
      → SameReaders (after_passing next (items_of (seen_fragments (drop (i + 1) fragments)))) found
  reader_read reader next found e f = passed_step reader next (item_of (seen_fragment fragment)) (items_of (seen_fragments (drop (i + 1) fragments))) f ∙ readers_are reader found e

  pub reader_fails : (reader : Passing) (found : Option Passing) → SameReaders (after_passing reader (items_of (seen_fragments (drop i fragments)))) found → None ≡ option_map (changed_passing capping) (after_argument reader (seen_fragment fragment) (item_of (seen_fragment fragment)))
      → SameReaders None found
  reader_fails reader found e f = passed_fails reader (item_of (seen_fragment fragment)) (items_of (seen_fragments (drop (i + 1) fragments))) f ∙ readers_are reader found e

-- all were read

pub state_end : (fragments : List Fragment) (i : ℕ) (words : Splitting) (state : State) (found : Option State) → length fragments ≤ i → SameStates (after_all words state (items_of (seen_fragments (drop i fragments)))) found → SameStates (Some state) found
state_end fragments i words state found past e = ap (λ (list : List Fragment). option_map (changed_state capping) (after_all words state (items_of (seen_fragments list)))) (sym (drop_all i fragments past)) ∙ e

pub reader_end : (fragments : List Fragment) (i : ℕ) (reader : Passing) (found : Option Passing) → length fragments ≤ i → SameReaders (after_passing reader (items_of (seen_fragments (drop i fragments)))) found → SameReaders (Some reader) found
reader_end fragments i reader found past e = ap (λ (list : List Fragment). option_map (changed_passing capping) (after_passing reader (items_of (seen_fragments list)))) (sym (drop_all i fragments past)) ∙ e

-- a fragment is taken in as the part that it is

state_inside : (state : State) (bracket : Bracket) (opener : Token) (inner : SeenFragments)
    → at_group state opener bracket (tree_inside bracket opener inner (items_in inner)) (passed_items (items_in inner)) ≡ at_group state opener bracket (tree_inside bracket opener (pack (row inner)) (items_of (row inner))) (passed_items (items_of (row inner)))
state_inside state bracket opener inner =
    ap (λ (items : List Item). at_group state opener bracket (tree_inside bracket opener inner items) (passed_items items)) (items_row inner)
    ∙ ap (λ (packed : SeenFragments). at_group state opener bracket (tree_inside bracket opener packed (items_of (row inner))) (passed_items (items_of (row inner)))) (sym (pack_row inner))

pub state_part : (words : Splitting) (state : State) (fragment : SeenFragment) → after_item words state (item_of fragment) ≡ state_at words state (part_of fragment)
state_part words state (one token) = refl
state_part words state (group opener inner closer) = state_inside state (bracket_of opener closer) opener inner

value_inside : (reader : Passing) (bracket : Bracket) (opener : Token) (inner : SeenFragments)
    → value_group reader opener bracket (tree_inside bracket opener inner (items_in inner)) (passed_items (items_in inner)) ≡ value_group reader opener bracket (tree_inside bracket opener (pack (row inner)) (items_of (row inner))) (passed_items (items_of (row inner)))
value_inside reader bracket opener inner =
    ap (λ (items : List Item). value_group reader opener bracket (tree_inside bracket opener inner items) (passed_items items)) (items_row inner)
    ∙ ap (λ (packed : SeenFragments). value_group reader opener bracket (tree_inside bracket opener packed (items_of (row inner))) (passed_items (items_of (row inner)))) (sym (pack_row inner))

pub reader_part : (reader : Passing) (fragment : SeenFragment) → after_argument reader fragment (item_of fragment) ≡ reader_at (begins_value fragment) reader (part_of fragment)
reader_part reader (one token) = token_item reader token nothing_found
reader_part reader (group opener inner closer) =
    group_item reader opener inner closer (found_of opener inner closer (items_in inner)) ∙ value_inside (ahead (begins_value (group opener inner closer)) reader) (bracket_of opener closer) opener inner
