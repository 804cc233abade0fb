-- Brackets in front, with what was read inside of them.
use Rattle.std.proofs.Common.{◌≡◌, ◌<◌, List, [], ◌∷◌, Some, sym, ap, ◌∙◌, arith}
use Rattle.dy_tree.specs.declared.token.Token.{Token}
use Rattle.dy_tree.specs.Fragments.{SeenFragment, one, group, pack}
use Rattle.dy_tree.specs.declared.brackets.Bracket.{Bracket}
use Rattle.dy_tree.specs.declared.brackets.Bracket.TheVariants as brackets
use Rattle.dy_rules.specs.Cutting.{Item, Front, front_in, headed}
use Rattle.dy_rules.specs.Fragments.{found_of, item_of, items_in, items_of}
use Rattle.dy_rules.specs.Roles.{bracket_of}
use Rattle.dy_rules.proofs.Lists.{row_pack, items_row, some_one}
use Rattle.dy_read_parts.specs.Nesting.{group_nesting, nesting}
use Rattle.dy_read_parts.proofs.Nesting.{pack_nesting}

-- what stands inside of a group, as the items of a list
pub items_inside : (fragments : List SeenFragment) → items_in (pack fragments) ≡ items_of fragments
items_inside fragments = items_row (pack fragments) ∙ ap items_of (row_pack fragments)

abbrev in_brackets : Token → List SeenFragment → Token → List Item → List Item → Front
in_brackets opener inner closer items rest = record { first = record { fragment = group opener (pack inner) closer; found = found_of opener (pack inner) closer items }; rest = rest }

pub front_round : (first : SeenFragment) (opener : Token) (inner : List SeenFragment) (closer : Token) (rest : List SeenFragment) → first ≡ group opener (pack inner) closer → bracket_of opener closer ≡ brackets.Round
    → Some (in_brackets opener inner closer (items_of inner) (items_of rest)) ≡ headed (items_of (first ∷ rest))
front_round first opener inner closer rest e is =
    ap (λ (items : List Item). Some (in_brackets opener inner closer items (items_of rest))) (sym (items_inside inner)) ∙ ap (λ (b : Bracket). front_in b (item_of (group opener (pack inner) closer)) (items_of rest)) (sym is)
    ∙ ap (λ (f : SeenFragment). headed (items_of (f ∷ rest))) (sym e)

-- round brackets, as the first item
abbrev pub as_item : Token → List SeenFragment → Token → Item
as_item opener inner closer = record { fragment = group opener (pack inner) closer; found = found_of opener (pack inner) closer (items_of inner) }

in_front : (bracket : Bracket) (item : Item) (rest : List Item) (front : Front) → Some front ≡ front_in bracket item rest → item ∷ rest ≡ front.first ∷ front.rest
in_front brackets.Round item rest front e = ap (λ (f : Front). f.first ∷ f.rest) (sym (some_one front (record { first = item; rest = rest }) e))
in_front bracket item rest front e = absurd cc

-- Brackets in front are the first item.
pub front_first : (fragments : List SeenFragment) (front : Front) → Some front ≡ headed (items_of fragments) → items_of fragments ≡ front.first ∷ front.rest
front_first [] front e = absurd cc
front_first (one token ∷ rest) front e = absurd cc
front_first (group opener inner closer ∷ rest) front e = in_front (bracket_of opener closer) (item_of (group opener inner closer)) (items_of rest) front e

pub inside_shallower : (first : SeenFragment) (opener : Token) (inner : List SeenFragment) (closer : Token) → first ≡ group opener (pack inner) closer → nesting inner < group_nesting first
inside_shallower first opener inner closer e = let same = pack_nesting inner in rw e (omega arith)
